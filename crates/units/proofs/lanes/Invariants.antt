use Rattle.units.proofs.Sums.{Lanes}
use Rattle.units.proofs.lanes.Given as goal

abbrev pub invariant-loop-i : goal.invariant-loop-i
invariant-loop-i g l = Lanes g.T.InBytes.WIDTH l.s l.rest l.lane l.n l.i (g.T.InBytes.value l.acc)
