-- The body builder (document 01, "Builder"): what each step says, the state it hands back, and the bytes it leaves in its buffer.
use Rattle.std.specs.Prelude.{ℕ, ◌+◌, ◌*◌, ◌%◌, ◌^◌, Bool, not, ◌&&◌, ◌||◌, List, [], length, ◌==◌, nat_le, nat_lt, Result, Ok, Err}
use Rattle.units.specs.Units.{bytes_of, splice}
use Rattle.units.specs.Choice.{pick}
use Rattle.terms.specs.Times.{time_ok, rule_of}
use Rattle.body.specs.Walk.{block_size}
use Rattle.terms.specs.Refusals.{refused, needing, no_refusal, fault}
use Rattle.terms.specs.declared.Refusal.{Refusal}
use Rattle.body.specs.Blocks.{Entry}
use Rattle.body.specs.declared.Form.{Form}
use Rattle.body.specs.declared.Form.TheVariants.{Stamped, Plain}
use Rattle.builder.specs.declared.Draft.{Draft}

-- ---- the state

-- times are stored where there is a rule
abbrev pub stamped : ℕ → Bool
stamped rule = nat_lt 0 rule

-- blocks are counted in 0x30
abbrev pub counts : ℕ → Bool
counts kind = kind == 0x30

-- what opening takes: 0x30 with a time rule, 0x50 with one or none; 5, the reserved time format, and all above it are no rules
abbrev pub makes : ℕ → ℕ → Bool
makes kind rule = ((kind == 0x30 && stamped rule) || kind == 0x50) && nat_lt rule 5

-- 1: the used count is outside its buffer or under 4, or a type or time rule that opening refuses, or over 65,535 blocks in 0x30
abbrev pub bad_draft : Draft → ℕ → Bool
bad_draft d len =
    nat_lt len d.used || nat_lt d.used 4 || not (makes d.kind d.rule) || (counts d.kind && nat_lt 65535 d.blocks)

abbrev pub fresh_draft : Draft
fresh_draft = record { used = 0; blocks = 0; kind = 0; rule = 0 }

-- the form of blocks whose times are stored, or not
abbrev pub form_by : Bool → Form
form_by st = pick st Stamped Plain

-- the form of its blocks
abbrev pub form_of : Draft → Form
form_of d = form_by (stamped d.rule)

-- ---- opening: 17, then 16; the place of every refusal is 0

-- a step that is refused hands the state it was given back
abbrev pub denied : Refusal → Draft → Result Draft (Refusal × Draft)
denied r d = Err (r, d)

unfoldable pub open_step : Draft → ℕ → ℕ → ℕ → Result Draft (Refusal × Draft)
open_step d kind rule len =
    pick (not (makes kind rule)) (denied (refused 17 0) d)
    (pick (nat_lt len 4) (denied (needing 4 (refused 16 0)) d)
    (Ok (record { used = 4; blocks = 0; kind = kind; rule = rule })))

-- the channel word: counter 0 in 0x30; bit 31 in 0x50 where times are stored
abbrev pub open_word : ℕ → ℕ → ℕ
open_word kind rule = pick (kind == 0x50 && stamped rule) (2 ^ 31) 0

-- ---- adding: 1, then 17, then 15 (or 17 for a time where none is stored), then 16; the reason of 15 is 3, time

-- n outside 1 to 65,535, or a 65,536th block in 0x30
abbrev pub bad_block : Draft → ℕ → Bool
bad_block d n = n == 0 || nat_lt 65535 n || (counts d.kind && nat_le 65535 d.blocks)

-- a time out of form
abbrev pub bad_time : ℕ → ℕ → Bool
bad_time rule time = stamped rule && not (time_ok (rule_of rule) time)

-- a time that isn't zero where none is stored
abbrev pub stray_time : ℕ → ℕ → Bool
stray_time rule time = not (stamped rule) && not (time == 0)

-- the used count with a block of n bytes more
unfoldable pub grown : Draft → ℕ → ℕ
grown d n = d.used + block_size (form_of d) n

unfoldable pub draft_added : Draft → ℕ → Draft
draft_added d n = record { used = grown d n; blocks = (d.blocks + 1) % 2 ^ 64; kind = d.kind; rule = d.rule }

unfoldable pub add_step : Draft → ℕ → ℕ → ℕ → Result Draft (Refusal × Draft)
add_step d len time n =
    pick (bad_draft d len) (denied (refused 1 0) d)
    (pick (bad_block d n) (denied (refused 17 0) d)
    (pick (bad_time d.rule time) (denied (fault 0 3) d)
    (pick (stray_time d.rule time) (denied (refused 17 0) d)
    (pick (nat_lt len (grown d n)) (denied (needing (grown d n) (refused 16 0)) d)
    (Ok (draft_added d n))))))

-- the block: the time, the ID word made of its upper half and n, and the n bytes
abbrev pub entry_of : ℕ → ℕ → List ℕ → Entry
entry_of time upper bytes = record { time = time; id = upper * 2 ^ 16 + length bytes; bytes = bytes }

-- ---- closing: 1, then 15 where the used count is 4; its reason is 7, the body ends where a block must begin

unfoldable pub close_step : Draft → ℕ → Result Draft (Refusal × Draft)
close_step d len =
    pick (bad_draft d len) (denied (refused 1 0) d)
    (pick (d.used == 4) (denied (fault 0 7) d)
    (Ok d))

-- the counter in 0x30, nothing in 0x50
abbrev pub counter_bytes : Draft → List ℕ
counter_bytes d = pick (counts d.kind) (bytes_of 2 d.blocks) []

-- ---- after a step

-- document 01's number and values of an answer, and the state that is handed on
pub record StepTold : Type 0 where
  pub refusal : Refusal
  pub draft : Draft

abbrev pub step_told : Result Draft (Refusal × Draft) → StepTold
step_told (Ok d) = record { refusal = no_refusal; draft = d }
step_told (Err (r, d)) = record { refusal = r; draft = d }

-- the buffer: vs written at `at` where the step is done, else untouched
unfoldable pub buf_after : Result Draft (Refusal × Draft) → List ℕ → ℕ → List ℕ → List ℕ
buf_after (Ok d) old at vs = splice old at vs
buf_after (Err r) old at vs = old

-- the blocks that count as added: where the step is done, these; else those before it
abbrev pub entries_after : Result Draft (Refusal × Draft) → List Entry → List Entry → List Entry
entries_after (Ok d) done before = done
entries_after (Err r) done before = before
