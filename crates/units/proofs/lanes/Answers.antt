use Rattle.std.proofs.Common.{arith}
use Rattle.units.proofs.Sums.{lanes_first, lanes_next, lanes_last, within}
use Rattle.units.proofs.lanes.Goals as goal

pub loop-i-init : goal.loop-i-init
loop-i-init g c = lanes_first g.T.InBytes.WIDTH _ _ _ _ _ c.rest_and_lane-rest.ensures c.sum-acc.ensures

pub unit-requires-in-loop-i-2 : goal.unit-requires-in-loop-i-2
unit-requires-in-loop-i-2 g c = within g.T.InBytes.WIDTH _ c.args.n _ c.requires (omega (arith, c.loop-i.invariant.0))

pub loop-i-preserved : goal.loop-i-preserved
loop-i-preserved g c =
    lanes_next g.T.InBytes.WIDTH _ _ _ _ _ _ _ _ _ _ _ _ _ _ c.loop-i.invariant c.loop-i-test.true
    c.unit.ensures c.unit-in-loop-i.ensures c.unit-in-loop-i-2.ensures c.unit-in-loop-i-3.ensures
    c.plus-acc.ensures c.plus-acc-in-loop-i.ensures c.plus-acc-in-loop-i-2.ensures c.plus-acc-in-loop-i-3.ensures

pub returns : goal.returns
returns g c = lanes_last g.T.InBytes.WIDTH _ _ _ _ _ _ c.loop-i.invariant c.loop-i-test.false
