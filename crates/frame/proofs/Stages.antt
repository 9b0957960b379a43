-- The code's tests are the table's: each rule of bytes from what the code compares, and the table from its parts.
use mathlib.Core.Path.{◌≡◌, sym, ◌∙◌}
use mathlib.Core.List.{List, [], ◌++◌}
use mathlib.Core.Bool.{Bool, true, ◌&&◌}
use Prim.Native.Nat.{ℕ, ◌-◌, ◌%◌, ◌≤◌, ◌<◌}
use native.Mathlib.Omega.{arith}
use native.Mathlib.Nat.{mod-one}
use lib.ListN.{length}
use lib.Dec.{T, eqb}
use borrow.Author.Tests.{le-leb, lt-leb}
use Rattle.units.specs.Units.{part, num, field, sum_units, summed, zeros}
use Rattle.frame.specs.Sums.{sum_width, secondary_sum, data_sum}
use Rattle.units.proofs.Parts.{field_part}
use Rattle.terms.proofs.Times.{zero_ok}
use Rattle.frame.specs.Header.{packet_length, flags_in, secondary_bit, secondary_in, time_in, sum_at, sum_code, data_sum_in, body_and_filler_in}
use Rattle.frame.specs.Rules.{secondary_time_ok, secondary_summed, secondary_ok, data_summed, filler_ok}
use Rattle.frame.specs.Table.{Line, first, whole_lines, secondary_lines}
use Rattle.frame.specs.inner.Lengths.{Measured}
use Rattle.frame.specs.declared.Layout.{Layout}
use Rattle.frame.proofs.Tables.{stands, passes, none, numbered, stage_none}

-- a part of the table that gives 0 leaves the answer to what is behind it
pub stage_past : (xs ys : List Line) (n : ℕ) → T (numbered xs) → first xs ≡ 0 → n ≡ first ys → n ≡ first (xs ++ ys)
stage_past xs ys n p z e = e ∙ sym (stage_none xs ys p z)

-- ---- 10

pub not_whole : (w : List ℕ) → length w < packet_length w → 10 ≡ first (whole_lines w)
unfolding whole_lines
not_whole w h = stands 10 [] (lt-leb (packet_length w) (length w) h)

pub is_whole : (w : List ℕ) → packet_length w ≤ length w → first (whole_lines w) ≡ 0
unfolding whole_lines
is_whole w h = sym (passes 10 0 [] (le-leb (packet_length w) (length w) h) none)

-- ---- 11 and 12

-- an absent secondary header passes
pub no_secondary : (w : List ℕ) → secondary_bit (flags_in w) ≡ 0 → 0 ≡ first (secondary_lines w)
unfolding secondary_lines first summed sum_units num
no_secondary w e = rw (e, zero_ok)

pub no_time : (w : List ℕ) → secondary_bit (flags_in w) ≡ 0 → 0 ≡ time_in w
unfolding num
no_time w e = rw e

pub none_in : (w : List ℕ) → secondary_in w ≡ [] → 0 ≡ time_in w
unfolding num
none_in w e = rw e

pub the_time : (w : List ℕ) (t : ℕ) → secondary_bit (flags_in w) ≡ 1 → t ≡ field w 24 8 → t ≡ time_in w
the_time w t e p = p ∙ rw e (sym (field_part w 24 12 0 8 (omega arith)))

pub secondary_summed_is : (w : List ℕ) (x y : ℕ) → secondary_bit (flags_in w) ≡ 1 → x ≡ secondary_sum (part w 24 12) → y ≡ field (part w 24 12) 10 2
    → eqb x y ≡ secondary_summed w
unfolding summed
secondary_summed_is w x y e p q = rw (e, p, q)

pub secondary_ok_is : (w : List ℕ) (x t : ℕ) (b : Bool) → secondary_bit (flags_in w) ≡ 1 → x ≡ field (part w 24 12) 8 2 → t ≡ field (part w 24 12) 0 8
    → b ≡ secondary_time_ok (flags_in w) t → (eqb x 0 && b) ≡ secondary_ok w
secondary_ok_is w x t b e p q r = rw (r, e, p, q)

-- ---- 13 and 14

pub no_stored : (w : List ℕ) → sum_code (flags_in w) ≡ 0 → 0 ≡ data_sum_in w
unfolding num
no_stored w e = rw e

pub data_summed_is : (w : List ℕ) (l : Layout) (x y : ℕ) → Measured w l → x ≡ data_sum (flags_in w % 4) (part w l.body (l.sum - l.body))
    → y ≡ field w l.sum (sum_width (flags_in w % 4)) → eqb x y ≡ data_summed w
data_summed_is w l x y m p q = rw (p, q, m.body, m.sum)

-- where no sum is, 0 is 0
no_sum : (bs w : List ℕ) (at code : ℕ) → code ≡ 0 → true ≡ eqb (data_sum code bs) (field w at (sum_width code))
unfolding num
no_sum bs w at code z = rw (z, mod-one)

pub sumless : (w : List ℕ) → flags_in w % 4 ≡ 0 → true ≡ data_summed w
sumless w z = no_sum (body_and_filler_in w) w (sum_at w) (flags_in w % 4) z

pub filler_is : (w : List ℕ) (l : Layout) (b : Bool) → Measured w l → b ≡ zeros (part w l.filler (l.sum - l.filler)) → b ≡ filler_ok w
filler_is w l b m p = rw (p, m.filler, m.sum)
