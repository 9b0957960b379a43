-- Opened bodies (document 01, from 11.2.9 and 11.2.12): the channel word, one block, where the k-th block stands, and what the walk says.
-- Places are counted from the body's first byte.
use Rattle.std.specs.Prelude.{List, Bool, not, ◌&&◌, ◌||◌, ℕ, zero, suc, ◌+◌, ◌%◌, ◌/◌, ◌^◌, length, ltb, leb, eqb, Option, Some, None, Result, Ok, Err}
use Rattle.units.specs.Units.{part, field, zeros}
use Rattle.units.specs.Choice.{pick}
use Rattle.terms.specs.Refusals.{fault}
use Rattle.terms.specs.Times.{time_ok}
use Rattle.terms.specs.declared.TimeRule.{TimeRule}
use Rattle.body.specs.declared.Form.{Form}
use Rattle.body.specs.declared.Form.TheVariants.{Stamped, Plain}
use Rattle.body.specs.declared.Shape.{Shape}
use Rattle.body.specs.declared.Message.{Message}
use Rattle.terms.specs.declared.Refusal.{Refusal}

-- ---- the channel word

-- a body by its type and channel word: not looked into, its shape, or a wrong channel word
pub data Opened : Type 0 where
  Carried : Opened
  Shaped : Shape → Opened
  Wrong : Opened

-- 0x30 (Message) and 0x50 (UART) are opened; every other type is carried
abbrev pub opens : ℕ → Bool
opens kind = eqb kind 0x30 || eqb kind 0x50

-- 0x30, by the type, `bits` 17-16: type 00, the counter is the number of blocks, at least 1; type 01, counter 1;
-- types 10 and 11, counter at least 2
abbrev pub counter_ok : ℕ → ℕ → Bool
counter_ok bits counter = (eqb bits 0 && ltb 0 counter) || (eqb bits 1 && eqb counter 1) || (ltb 1 bits && ltb 1 counter)

-- 0x30: bits 31-18 are zero, bits 17-16 the type, bits 15-0 the counter; one block but in type 00; always a time stamp
unfoldable pub message_shape : TimeRule → ℕ → Opened
message_shape rule word =
    pick (ltb word (2 ^ 18) && counter_ok (word / 2 ^ 16) (word % 2 ^ 16))
    (Shaped (record { form = Stamped; count = Some (pick (eqb (word / 2 ^ 16) 0) (word % 2 ^ 16) 1); rule = rule }))
    Wrong

-- 0x50: a time stamp if bit 31 is set
abbrev pub uart_form : ℕ → Form
uart_form word = pick (leb (2 ^ 31) word) Stamped Plain

-- bits 30-0 are zero; one or more blocks, to the end of the body
unfoldable pub uart_shape : TimeRule → ℕ → Opened
uart_shape rule word =
    pick (eqb (word % 2 ^ 31) 0)
    (Shaped (record { form = uart_form word; count = None; rule = rule }))
    Wrong

-- what a channel word says, by the type
abbrev pub shape_by : ℕ → TimeRule → ℕ → Opened
shape_by kind rule word = pick (eqb kind 0x30) (message_shape rule word) (uart_shape rule word)

-- a body of an opened type starts with its channel word, which is judged whole and first
unfoldable pub open_body : ℕ → TimeRule → List ℕ → Opened
open_body kind rule bs =
    pick (not (opens kind)) Carried
    (pick (ltb (length bs) 4) Wrong
    (shape_by kind rule (field bs 0 4)))

-- ---- one block

-- all that differs between the blocks of opened types goes by their form, in these two definitions

-- a time stamp of 8 bytes, or none
unfoldable pub stamp_length : Form → ℕ
stamp_length Stamped = 8
stamp_length Plain = 0

-- n, by the ID word: its bits 15-0, in either form
unfoldable pub length_by : Form → ℕ → ℕ
length_by form id = id % 2 ^ 16

-- behind n bytes that begin at `start`, and one pad byte if n is odd
abbrev pub padded_end : ℕ → ℕ → ℕ
padded_end start n = start + n + n % 2

-- the size of a block: its time stamp, its ID word of 4 bytes, its n bytes and their pad
abbrev pub block_size : Form → ℕ → ℕ
block_size form n = padded_end (stamp_length form + 4) n

-- what the head of a block at `at` says: time (0 if none is stored), ID word, and the place and number of its bytes
unfoldable pub head_at : Form → List ℕ → ℕ → Message
head_at form bs at =
    record {
      time = field bs at (stamp_length form);
      id = field bs (at + stamp_length form) 4;
      start = at + stamp_length form + 4;
      length = length_by form (field bs (at + stamp_length form) 4);
    }

-- behind a block, by what its head says
abbrev pub block_end : Message → ℕ
block_end m = padded_end m.start m.length

-- a block at `at` whose head is whole, or the reason why it is none: 2, cut short; 3, time (0 where none is stored, which is in form under every rule);
-- 4, length zero; 5, pad not zero
unfoldable pub judge : TimeRule → List ℕ → ℕ → Message → Result (Message × ℕ) Refusal
judge rule bs at m =
    pick (ltb (length bs) (block_end m)) (Err (fault at 2))
    (pick (not (time_ok rule m.time)) (Err (fault at 3))
    (pick (eqb m.length 0) (Err (fault at 4))
    (pick (not (zeros (part bs (m.start + m.length) (m.length % 2)))) (Err (fault at 5))
    (Ok (m, block_end m)))))

-- the block at `at`. Reason 7: the body ends there; reason 2: cut short in its head; else judged
unfoldable pub block_at : Shape → List ℕ → ℕ → Result (Message × ℕ) Refusal
block_at sh bs at =
    pick (leb (length bs) at) (Err (fault at 7))
    (pick (ltb (length bs) (at + stamp_length sh.form + 4)) (Err (fault at 2))
    (judge sh.rule bs at (head_at sh.form bs at)))

-- ---- the walk

abbrev pub behind : Result (Message × ℕ) Refusal → ℕ
behind (Ok (m, next)) = next
behind (Err f) = f.place

-- where the k-th block stands, from 0: behind the channel word, and each behind the one before it
unfoldable pub spot : Shape → List ℕ → ℕ → ℕ
spot sh bs zero = 4
spot sh bs (suc k) = behind (block_at sh bs (spot sh bs k))

-- k blocks are read and the next would stand at `at`: whether no more are to come
abbrev pub stops : Option ℕ → ℕ → ℕ → ℕ → Bool
stops (Some count) len k at = leb count k
stops None len k at = ltb 0 k && leb len at

unfoldable pub stop_at : Shape → ℕ → ℕ → ℕ → Bool
stop_at sh len k at = stops sh.count len k at

-- no more are to come: the body ends there; reason 6: bytes are left over
unfoldable pub ending : ℕ → ℕ → ℕ → Result ℕ Refusal
ending len k at = pick (eqb at len) (Ok k) (Err (fault at 6))

abbrev pub after : Result (Message × ℕ) Refusal → Result ℕ Refusal → Result ℕ Refusal
after (Ok (m, next)) rest = rest
after (Err f) rest = Err f

-- the walk from the k-th block on, in fewer than f turns more; it has always stopped before they run out (walk_enough)
unfoldable pub walk_from : Shape → List ℕ → ℕ → ℕ → Result ℕ Refusal
walk_from sh bs zero k = ending (length bs) k (spot sh bs k)
walk_from sh bs (suc f) k =
    pick (stop_at sh (length bs) k (spot sh bs k))
    (ending (length bs) k (spot sh bs k))
    (after (block_at sh bs (spot sh bs k)) (walk_from sh bs f (suc k)))

-- what the blocks behind the channel word say: their number, or the first fault
unfoldable pub walk : Shape → List ℕ → Result ℕ Refusal
walk sh bs = walk_from sh bs (length bs + 1) 0
