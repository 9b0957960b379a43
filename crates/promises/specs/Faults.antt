-- Where a body that breaks its layout is at fault (document 01, the place of 15), and which rule it breaks there (document 02 §2, the reason): said by
-- its bytes, and by the blocks that stand before that place. No test of the reader's is cited. Places are counted from the body's first byte.
use Rattle.std.specs.Prelude.{◌≡◌, List, [], ◌∷◌, ◌++◌, ◌⊎◌, ◌≢◌, ℕ, ◌+◌, ◌%◌, ◌^◌, ◌≤◌, ◌<◌, length, take, get_or}
use Rattle.units.specs.Units.{field}
use Rattle.body.specs.Blocks.{Entry, blocks_bytes}
use Rattle.body.specs.Layout.{OpenedType, Asked, exactly, to_the_end, ChannelWord}
use Rattle.body.specs.declared.Form.{Form}
use Rattle.body.specs.declared.Form.TheVariants.{Stamped, Plain}

-- each of some blocks
abbrev pub Each : (Entry → Type 0) → List Entry → Type 0
Each Right [] = Unit {0}
Each Right (e ∷ es) = Right e × Each Right es

-- behind k blocks, with `rest` to come, one more is due: they are fewer than the channel word says; or, where they go to the end of the body,
-- there is none yet, or the body goes on
abbrev pub Due : Asked → ℕ → List ℕ → Type 0
Due (exactly count) k rest = k < count
Due to_the_end k rest = (k ≡ 0) ⊎ (1 ≤ length rest)

-- bs begins with a right channel word of 4 bytes and these blocks, which keep the rules; then comes `rest`. Right form e: block e of that form
-- keeps the rules
pub record Begins (kind : ℕ) (Right : Form → Entry → Type 0) (bs : List ℕ) (form : Form) (asked : Asked) (es : List Entry) (rest : List ℕ) : Type 0 where
  pub long : 4 ≤ length bs
  pub word : ChannelWord kind (field bs 0 4) form asked
  pub is : bs ≡ take 4 bs ++ (blocks_bytes form es ++ rest)
  pub right : Each (Right form) es

-- ---- a block that is due, where `rest` is left of the body

-- its time stamp is of 8 bytes, or there is none
abbrev pub stamp_size : Form → ℕ
stamp_size Stamped = 8
stamp_size Plain = 0

-- its head: the time stamp and an ID word of 4 bytes
abbrev pub head_size : Form → ℕ
head_size form = stamp_size form + 4

-- n is bits 15-0 of the ID word
abbrev pub n_of : Form → List ℕ → ℕ
n_of form rest = field rest (stamp_size form) 4 % 2 ^ 16

-- the whole block: its head, the n bytes, and one pad byte if n is odd
abbrev pub whole_size : Form → List ℕ → ℕ
whole_size form rest = head_size form + n_of form rest + n_of form rest % 2

-- the rules that it breaks, by their reasons. InForm t: time t is in form
pub data Breaks (InForm : ℕ → Type 0) (form : Form) (rest : List ℕ) : ℕ → Type 0 where
  -- 2 block cut short: it begins, and its head is not whole; or that is, and its n bytes and their pad are not
  head_cut : 1 ≤ length rest → length rest < head_size form → Breaks InForm form rest 2
  bytes_cut : head_size form ≤ length rest → length rest < whole_size form rest → Breaks InForm form rest 2
  -- 3 time: its time stamp is there, and the time is out of form
  time_out : form ≡ Stamped → 8 ≤ length rest → ¬ InForm (field rest 0 8) → Breaks InForm form rest 3
  -- 4 length zero: its head is there, and n is 0
  length_zero : head_size form ≤ length rest → n_of form rest ≡ 0 → Breaks InForm form rest 4
  -- 5 pad not zero: n is odd, the byte behind its n bytes is there, and it is not 0
  pad_not_zero : n_of form rest % 2 ≡ 1 → head_size form + n_of form rest < length rest → get_or rest (head_size form + n_of form rest) 0 ≢ 0
      → Breaks InForm form rest 5

-- "For a block that breaks several, the lowest number from 2 to 5 wins"
abbrev pub Lowest : (ℕ → Type 0) → Form → List ℕ → ℕ → Type 0
Lowest InForm form rest reason = Breaks InForm form rest reason × ((lower : ℕ) → lower < reason → ¬ Breaks InForm form rest lower)

-- ---- the place of the fault, and its reason

pub data AtFault (kind : ℕ) (Right : Form → Entry → Type 0) (InForm : ℕ → Type 0) (bs : List ℕ) : ℕ → ℕ → Type 0 where
  -- 1 channel word (or under 4 bytes), at the channel word: there are too few bytes for it, or it breaks a rule
  no_word : OpenedType kind → length bs < 4 → AtFault kind Right InForm bs 0 1
  wrong_word : OpenedType kind → 4 ≤ length bs → ((form : Form) (asked : Asked) → ¬ ChannelWord kind (field bs 0 4) form asked)
      → AtFault kind Right InForm bs 0 1
  -- 2 to 5, at the first byte of the block at fault: one is due behind these, and that is the lowest rule that it breaks
  block : {form : Form} {asked : Asked} {es : List Entry} {rest : List ℕ} {reason : ℕ} → Begins kind Right bs form asked es rest → Due asked (length es) rest
      → Lowest InForm form rest reason → AtFault kind Right InForm bs (4 + length (blocks_bytes form es)) reason
  -- 6 bytes after the counted blocks, at the first of the bytes left over: there are as many blocks as the channel word says, and the body goes on
  over : {form : Form} {count : ℕ} {es : List Entry} {rest : List ℕ} → Begins kind Right bs form (exactly count) es rest → length es ≡ count
      → 1 ≤ length rest → AtFault kind Right InForm bs (4 + length (blocks_bytes form es)) 6
  -- 7 body ends where a block must begin, at that place: one is due behind these, and nothing is left
  missing : {form : Form} {asked : Asked} {es : List Entry} → Begins kind Right bs form asked es [] → Due asked (length es) []
      → AtFault kind Right InForm bs (4 + length (blocks_bytes form es)) 7
