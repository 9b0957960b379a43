use Rattle.std.proofs.Common.{◌≡◌}
use lib.Seq.{paste}
use Rattle.units.proofs.copy_at.Given as goal

abbrev pub invariant-loop-i : goal.invariant-loop-i
invariant-loop-i l = l.dst ≡ paste l.initial.dst l.at l.src l.i
