-- What the words mean that the promises are written in: of each definition that they share with the contracts of the code, and that no other promise is
-- about, a sentence that says it without looking at it. Proved in proofs/Words.antt (words).
use Rattle.std.specs.Prelude.{◌≡◌, List, [], ◌∷◌, ◌++◌, true, false, ◌↔◌, ℕ, ◌+◌, ◌-◌, ◌*◌, ◌/◌, ◌%◌, ◌≤◌, ◌<◌, length, take, drop, get_or, replicate, Ok, Err}
use Rattle.units.specs.Units.{Bytes, part, splice, field, bytes_of, sum_units}
use Rattle.units.specs.Choice.{pick}
use Rattle.terms.specs.Refusals.{refused, no_refusal, needing}
use Rattle.terms.specs.declared.Refusal.{Refusal}
use Rattle.body.specs.Blocks.{Entry, block_bytes, blocks_bytes, message_on}
use Rattle.body.specs.declared.Form.{Form}
use Rattle.body.specs.declared.Form.TheVariants.{Stamped, Plain}
use Rattle.body.specs.declared.Message.{Message}
use Rattle.body.specs.Answers.{checked_told}
use Rattle.builder.specs.Build.{denied, fresh_draft, step_told}
use Rattle.builder.specs.declared.Draft.{Draft}
use Rattle.frame.specs.Sums.{sum_width}
use Rattle.frame.specs.Header.{byte}
use Rattle.frame.specs.Contents.{contents}
use Rattle.frame.specs.declared.Fields.{Fields}
use Rattle.packet.specs.Read.{window, part_at, packet_told}
use Rattle.packet.specs.Messages.{list_told, message_told}
use Rattle.packet.specs.Write.{write_told}
use Rattle.packet.specs.declared.Packet.{Packet}
use Rattle.promises.specs.Endings.{zero_packet, zero_message}

-- one zero pad byte if n is odd
abbrev pub pad : ℕ → List ℕ
pad n = replicate (n % 2) 0

pub record Words : Type 1 where
  -- ---- a choice by a test: the first where it is true, else the second

  pub pick_true : {A : Type 0} (a b : A) → pick true a b ≡ a
  pub pick_false : {A : Type 0} (a b : A) → pick false a b ≡ b
  -- ---- bytes and places

  -- the byte at a place, and bytes
  pub byte_is : (bs : List ℕ) (i : ℕ) → byte bs i ≡ get_or bs i 0
  pub bytes_are : (bs : List ℕ) → Bytes bs ↔ ((i : ℕ) → byte bs i < 256)
  -- the n bytes from `at` on
  pub part_long : (bs : List ℕ) (at n : ℕ) → at + n ≤ length bs → length (part bs at n) ≡ n
  pub part_byte : (bs : List ℕ) (at n i : ℕ) → i < n → byte (part bs at n) i ≡ byte bs (at + i)
  -- the window: the bytes from the start to the filled end, and no others
  pub window_long : (buf : List ℕ) (start end : ℕ) → start ≤ end → end ≤ length buf → length (window buf start end) ≡ end - start
  pub window_byte : (buf : List ℕ) (start end i : ℕ) → i < end - start → byte (window buf start end) i ≡ byte buf (start + i)
  -- vs written over bs from `at` on
  pub splice_is : (bs : List ℕ) (at : ℕ) (vs : List ℕ) → splice bs at vs ≡ take at bs ++ (vs ++ drop (at + length vs) bs)
  pub part_at_is : (at n : ℕ) → part_at at n ≡ record { at = at; length = n }
  -- ---- numbers, little-endian: the low byte first

  pub field_none : (bs : List ℕ) (at : ℕ) → field bs at 0 ≡ 0
  pub field_first : (bs : List ℕ) (at n : ℕ) → field bs at (n + 1) ≡ byte bs at + 256 * field bs (at + 1) n
  pub bytes_none : (v : ℕ) → bytes_of 0 v ≡ []
  pub bytes_first : (n v : ℕ) → bytes_of (n + 1) v ≡ v % 256 ∷ bytes_of n (v / 256)
  -- ---- sums

  -- of k units of `unit` bytes
  pub sum_none : (unit : ℕ) (bs : List ℕ) → sum_units unit 0 bs ≡ 0
  pub sum_first : (unit k : ℕ) (bs : List ℕ) → sum_units unit (k + 1) bs ≡ field bs 0 unit + sum_units unit k (drop unit bs)
  -- the data sum by bits 1-0 of the flags: none, 8, 16, 32 bits, in bytes
  pub widths : (sum_width 0 ≡ 0) × (sum_width 1 ≡ 1) × (sum_width 2 ≡ 2) × (sum_width 3 ≡ 4)
  -- ---- blocks: a time stamp of 8 bytes or none, an ID word of 4, then n bytes, then one zero pad byte if n is odd

  pub block_stamped : (e : Entry) → block_bytes Stamped e ≡ bytes_of 8 e.time ++ (bytes_of 4 e.id ++ (e.bytes ++ pad (length e.bytes)))
  pub block_plain : (e : Entry) → block_bytes Plain e ≡ bytes_of 4 e.id ++ (e.bytes ++ pad (length e.bytes))
  pub blocks_none : (form : Form) → blocks_bytes form [] ≡ []
  pub blocks_next : (form : Form) (e : Entry) (es : List Entry) → blocks_bytes form (e ∷ es) ≡ block_bytes form e ++ blocks_bytes form es
  -- a block at `at` as a message: time, ID word, start and length of its n bytes
  pub message_stamped : (at : ℕ) (e : Entry) → message_on Stamped at e ≡ record { time = e.time; id = e.id; start = at + 12; length = length e.bytes }
  pub message_plain : (at : ℕ) (e : Entry) → message_on Plain at e ≡ record { time = e.time; id = e.id; start = at + 4; length = length e.bytes }
  -- ---- refusals: a number and a place, without a reason and a place in the recording; 16 also gives the room needed, and keeps the rest; none is 0

  pub refused_is : (number place : ℕ) → refused number place ≡ record { number = number; place = place; room = 0; reason = 0; recording_place = 0 }
  pub needing_is : (room : ℕ) (r : Refusal)
      → needing room r ≡ record { number = r.number; place = r.place; room = room; reason = r.reason; recording_place = r.recording_place }
  pub none_is : no_refusal ≡ record { number = 0; place = 0; room = 0; reason = 0; recording_place = 0 }
  -- ---- what is told of each answer: the value and no refusal, or the refusal as it is and zeros

  pub packet_told_lem : (p : Packet) → packet_told (Ok p) ≡ record { refusal = no_refusal; packet = p }
  pub packet_not_told : (r : Refusal) → packet_told (Err r) ≡ record { refusal = r; packet = zero_packet }
  pub list_told_lem : (n : ℕ) → list_told (Ok n) ≡ record { refusal = no_refusal; count = n }
  pub list_not_told : (r : Refusal) → list_told (Err r) ≡ record { refusal = r; count = 0 }
  pub message_told_lem : (m : Message) → message_told (Ok m) ≡ record { refusal = no_refusal; message = m }
  pub message_not_told : (r : Refusal) → message_told (Err r) ≡ record { refusal = r; message = zero_message }
  pub write_told_lem : (n : ℕ) → write_told (Ok n) ≡ record { refusal = no_refusal; length = n }
  pub write_not_told : (r : Refusal) → write_told (Err r) ≡ record { refusal = r; length = 0 }
  pub step_told_lem : (d : Draft) → step_told (Ok d) ≡ record { refusal = no_refusal; draft = d }
  pub step_not_told : (r : Refusal) (d : Draft) → step_told (denied r d) ≡ record { refusal = r; draft = d }
  pub checked_told_lem : (n : ℕ) → checked_told (Ok n) ≡ record { refusal = no_refusal; count = n }
  pub checked_not_told : (r : Refusal) → checked_told (Err r) ≡ record { refusal = r; count = 0 }
  -- ---- contents, and a fresh state

  pub contents_are : (f : Fields) (body : List ℕ) → contents f body ≡ record { fields = f; body = body }
  pub fresh_is : fresh_draft ≡ record { used = 0; blocks = 0; kind = 0; rule = 0 }
