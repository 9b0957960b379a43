use Rattle.body.proofs.Walking.{Counting}
use lib.ListN.{length}
use Prim.Native.Nat.{◌-◌}
use Rattle.body.proofs.walk.count_blocks.Given as goal

abbrev pub invariant-loop-shape : goal.invariant-loop-shape
invariant-loop-shape l = Counting l.shape l.body l.k l.at

abbrev pub decreases-loop-shape : goal.decreases-loop-shape
decreases-loop-shape l = length l.body - l.at
