-- Laws of the data sum's width, and of a sum that is read or put by cases of its code.
use mathlib.Core.Path.{◌≡◌, refl, ap, ◌∙◌}
use mathlib.Core.List.{List}
use Prim.Native.Nat.{ℕ, zero, suc, ◌+◌, ◌%◌, ◌≤◌, ◌<◌}
use native.Mathlib.Omega.{arith}
use lib.ListN.{set, length}
use Rattle.units.specs.Units.{splice, bytes_of}
use Rattle.frame.specs.Sums.{sum_width}
use Rattle.units.proofs.Writes.{stored}

pub width_is : (code : ℕ) → code < 3 → sum_width code ≡ code
width_is zero h = refl
width_is (suc zero) h = refl
width_is (suc (suc zero)) h = refl
width_is (suc (suc (suc n))) h = absurd (omega arith)

-- one byte stored
pub put_one : (bs : List ℕ) (at v : ℕ) → at + 1 ≤ length bs → set bs at (v % 256) ≡ splice bs at (bytes_of 1 v)
unfolding bytes_of
put_one bs at v h = stored 1 v bs at h

pub put_byte : (bs : List ℕ) (at v : ℕ) → v < 256 → at + 1 ≤ length bs → set bs at v ≡ splice bs at (bytes_of 1 v)
put_byte bs at v small h = let e : v ≡ v % 256 = omega arith in ap (set bs at) e ∙ put_one bs at v h
