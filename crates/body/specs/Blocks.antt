-- A body as the blocks it holds: what is built, and what an accepted body is.
use Rattle.std.specs.Prelude.{List, [], ◌∷◌, ◌++◌, ◌≡◌, true, ℕ, ◌+◌, ◌%◌, ◌^◌, ◌<◌, length, take, replicate, Some}
use Rattle.units.specs.Units.{part, bytes_of}
use Rattle.terms.specs.Times.{time_ok}
use Rattle.body.specs.Walk.{open_body, stamp_length, length_by, Shaped}
use Rattle.body.specs.Answers.{message_in, tab}
use Rattle.terms.specs.declared.TimeRule.{TimeRule}
use Rattle.body.specs.declared.Form.{Form}
use Rattle.body.specs.declared.Shape.{Shape}
use Rattle.body.specs.declared.Message.{Message}

-- what a block holds: its time (0 if none is stored), its ID word and its n bytes
pub record Entry : Type 0 where
  pub time : ℕ
  pub id : ℕ
  pub bytes : List ℕ

abbrev pub no_entry : Entry
no_entry = record { time = 0; id = 0; bytes = [] }

-- a block: a time stamp of 8 bytes or none, an ID word of 4, the n bytes, then one zero pad byte if n is odd
unfoldable pub block_bytes : Form → Entry → List ℕ
block_bytes form e =
    bytes_of (stamp_length form) e.time ++ bytes_of 4 e.id ++ e.bytes ++ replicate (length e.bytes % 2) 0

-- a block that keeps the rules: n is what the ID word says, at least 1, and the time is in form, 0 where none is stored
pub record Fits (form : Form) (rule : TimeRule) (e : Entry) : Type 0 where
  pub some : 0 < length e.bytes
  pub size : length e.bytes ≡ length_by form e.id
  pub word : e.id < 2 ^ 32
  pub time_fits : e.time < 256 ^ stamp_length form
  pub time_ok_lem : time_ok rule e.time ≡ true

abbrev pub AllFit : Form → TimeRule → List Entry → Type 0
AllFit form rule [] = Unit {0}
AllFit form rule (e ∷ es) = Fits form rule e × AllFit form rule es

-- blocks, one behind the other
unfoldable pub blocks_bytes : Form → List Entry → List ℕ
blocks_bytes form [] = []
blocks_bytes form (e ∷ es) = block_bytes form e ++ blocks_bytes form es

-- the message that a block at `at` is reported as
abbrev pub message_on : Form → ℕ → Entry → Message
message_on form at e = record { time = e.time; id = e.id; start = at + stamp_length form + 4; length = length e.bytes }

-- what a message reports, its bytes taken out of the body
abbrev pub entry_at : List ℕ → Message → Entry
entry_at bs m = record { time = m.time; id = m.id; bytes = part bs m.start m.length }

-- the first n blocks as they are reported
unfoldable pub entries_in : ℕ → TimeRule → List ℕ → ℕ → List Entry
entries_in kind rule bs n = tab n (λ k. entry_at bs (message_in kind rule bs k))

-- bs is its channel word followed by these blocks: the layout's rules, said of what the body holds
pub record BodyOf (kind : ℕ) (rule : TimeRule) (bs : List ℕ) (es : List Entry) : Type 0 where
  pub shape : Shape
  pub opened : open_body kind rule bs ≡ Shaped shape
  pub counted : (n : ℕ) → shape.count ≡ Some n → length es ≡ n
  pub some : 0 < length es
  pub is : bs ≡ take 4 bs ++ blocks_bytes shape.form es
  pub fit : AllFit shape.form rule es
