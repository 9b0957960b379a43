use Rattle.units.specs.Units.{num}
use native.Mathlib.Nat.{add-zero}
use Rattle.body.specs.Walk.{stamp_length, head_at}
use Rattle.body.proofs.walk.head_at.Goals as goal

pub returns-in-Plain : goal.returns-in-Plain
unfolding stamp_length head_at num
returns-in-Plain c = simp (c.length_by-in-Plain.ensures, c.in-Plain.is, c.read-id-in-Plain.ensures, add-zero)
