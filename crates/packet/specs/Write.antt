-- The packet writer (document 01, "Writer"): it takes the fields and the body, and works out the rest. Places are 0.
use Rattle.std.specs.Prelude.{List, [], ◌∷◌, ◌++◌, Bool, not, ◌&&◌, ◌||◌, ℕ, ◌^◌, length, ltb, eqb, Result, Ok, Err}
use Rattle.units.specs.Units.{splice}
use Rattle.units.specs.Choice.{pick}
use Rattle.terms.specs.Refusals.{refused, needing, no_refusal, placed}
use Rattle.terms.specs.declared.Refusal.{Refusal}
use Rattle.frame.specs.declared.Fields.{Fields}
use Rattle.frame.specs.Header.{secondary_bit, length_for}
use Rattle.frame.specs.Rules.{secondary_time_ok}
use Rattle.frame.specs.Contents.{Contents, contents_length}
use Rattle.packet.specs.Read.{contents_checked}
use Rattle.frame.specs.Table.{Line, line, first, value_lines}

-- RTC is below 2^48, and a secondary time other than 0 is there only with bit 7 set; else 17
abbrev pub in_range : Fields → Bool
in_range f = ltb f.rtc (2 ^ 48) && (eqb (secondary_bit f.flags) 1 || eqb f.time 0)

-- first 17, then 5 to 9 and 12 by the reader's rules; an absent secondary time is 0, which is in form
unfoldable pub writer_lines : Fields → ℕ → List Line
writer_lines f d =
    line 17 (in_range f)
    ∷ (value_lines f.channel f.version f.flags f.kind (length_for f.flags d) d
    ++ (line 12 (secondary_time_ok f.flags f.time)
    ∷ []))

unfoldable pub writer_refusal : Fields → ℕ → ℕ
writer_refusal f d = first (writer_lines f d)

-- then 15, then 16 with the whole packet's length as room
unfoldable pub fitted : Result ℕ Refusal → ℕ → ℕ → Result ℕ Refusal
fitted (Ok n) length room = pick (ltb room length) (Err (needing length (refused 16 0))) (Ok length)
fitted (Err r) length room = Err (placed 0 r)

-- the answer, for an output of this room
unfoldable pub write_packet : Contents → ℕ → Result ℕ Refusal
write_packet c room =
    pick (not (eqb (writer_refusal c.fields (length c.body)) 0))
    (Err (refused (writer_refusal c.fields (length c.body)) 0))
    (fitted (contents_checked c) (contents_length c) room)

-- the output after it: the packet's bytes first, those behind them untouched; all untouched on a refusal
unfoldable pub out_after : Result ℕ Refusal → List ℕ → List ℕ → List ℕ
out_after (Ok n) old bytes = splice old 0 bytes
out_after (Err r) old bytes = old

-- ---- document 01's number and values of the answer

pub record WriteTold : Type 0 where
  pub refusal : Refusal
  pub length : ℕ

abbrev pub write_told : Result ℕ Refusal → WriteTold
write_told (Ok n) = record { refusal = no_refusal; length = n }
write_told (Err r) = record { refusal = r; length = 0 }
