use Rattle.std.proofs.Common.{◌≡◌}
use Rattle.units.proofs.Writes.{cleared}
use Rattle.units.proofs.clear_halves.Given as goal

abbrev pub invariant-loop-i : goal.invariant-loop-i
invariant-loop-i l = l.dst ≡ cleared l.initial.dst l.at l.half l.i
