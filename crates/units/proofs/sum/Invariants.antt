use Rattle.std.proofs.Common.{◌≡◌}
use Rattle.units.specs.Units.{checksum}
use Rattle.units.proofs.sum.Given as goal

abbrev pub invariant-loop-k : goal.invariant-loop-k
invariant-loop-k g l = g.T.InBytes.value l.acc ≡ checksum g.T.InBytes.WIDTH l.k l.s
