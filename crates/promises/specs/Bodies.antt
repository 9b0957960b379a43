-- Rule 15 in document 01's words ("Opened bodies"): a body of a type that we open is its channel word and the blocks of some messages.
-- No test of the reader's is cited: that the reader's tests say the same is proved in proofs/BodiesKept.antt.
use Rattle.std.specs.Prelude.{◌≡◌, List, [], ◌∷◌, ◌++◌, ◌≢◌, ℕ, ◌/◌, ◌%◌, ◌^◌, ◌≤◌, ◌<◌, length, take}
use Rattle.units.specs.Units.{field}
use Rattle.body.specs.Blocks.{Entry, blocks_bytes}
use Rattle.promises.specs.Faults.{Each, AtFault}
use Rattle.body.specs.declared.Form.{Form}
use Rattle.body.specs.declared.Form.TheVariants.{Stamped, Plain}
use Rattle.promises.specs.Refusals.{OneOf}
use Rattle.promises.specs.Numbers.{TimeInForm}

-- bodies of type 0x30 (Message) and 0x50 (UART) are opened; every other defined type is carried
abbrev pub opened_types : List ℕ
opened_types = 0x30 ∷ 0x50 ∷ []

-- the channel word of a 0x30 body with n blocks: bits 31-18 are zero. Type (bits 17-16) 00: the counter (bits 15-0) is the number of blocks.
-- Type 01: one block, counter 1. Types 10 and 11: one block, counter at least 2
pub record MessageWord (word n : ℕ) : Type 0 where
  pub reserved : word < 2 ^ 18
  pub many : word / 2 ^ 16 ≡ 0 → word % 2 ^ 16 ≡ n
  pub single : word / 2 ^ 16 ≡ 1 → (word % 2 ^ 16 ≡ 1) × (n ≡ 1)
  pub segment : 2 ≤ word / 2 ^ 16 → (2 ≤ word % 2 ^ 16) × (n ≡ 1)

-- a block: n, 1 to 65,535, is bits 15-0 of the ID word of 4 bytes; its time, of 8 bytes, is in form, or 0 where none is stored
pub record BlockKept (flags : ℕ) (form : Form) (e : Entry) : Type 0 where
  pub some : 1 ≤ length e.bytes
  pub size : length e.bytes ≡ e.id % 2 ^ 16
  pub word : e.id < 2 ^ 32
  pub time : e.time < 2 ^ 64
  pub none : form ≢ Stamped → e.time ≡ 0
  pub in_form : form ≡ Stamped → TimeInForm flags e.time

-- bs is its channel word of 4 bytes followed by these blocks, one or more, to its end
pub record BodyKept (kind flags : ℕ) (bs : List ℕ) (es : List Entry) : Type 0 where
  -- the form of its blocks
  pub form : Form
  pub long : 4 ≤ length bs
  pub some : 1 ≤ length es
  -- 0x30 (Message): always a time stamp
  pub message : kind ≡ 0x30 → (form ≡ Stamped) × MessageWord (field bs 0 4) (length es)
  -- 0x50 (UART): bits 30-0 of the channel word are zero; a time stamp only if bit 31 is set
  pub uart : kind ≡ 0x50 → (field bs 0 4 % 2 ^ 31 ≡ 0) × (2 ^ 31 ≤ field bs 0 4 → form ≡ Stamped) × (field bs 0 4 < 2 ^ 31 → form ≡ Plain)
  pub is : bs ≡ take 4 bs ++ blocks_bytes form es
  pub blocks : Each (BlockKept flags form) es

-- 15: a body of a type that we open keeps the layout, as the blocks of some messages
abbrev pub MessagesKept : ℕ → ℕ → List ℕ → Type 0
MessagesKept kind flags bs = OneOf kind opened_types → (es : List Entry) × BodyKept kind flags bs es

-- and where it does not, the place of the fault, counted from its first byte: the channel word, the first byte of the block at fault or of the
-- bytes left over, or where a missing block should begin; and the rule that it breaks there, by its reason
abbrev pub BodyAtFault : ℕ → ℕ → List ℕ → ℕ → ℕ → Type 0
BodyAtFault kind flags bs at reason = AtFault kind (BlockKept flags) (TimeInForm flags) bs at reason
