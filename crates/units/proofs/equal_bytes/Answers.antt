use Rattle.std.proofs.Common.{refl, arith}
use Rattle.units.proofs.Sames.{same_next, same_end}
use Rattle.units.proofs.equal_bytes.Goals as goal

pub loop-i-init : goal.loop-i-init
loop-i-init c = (omega arith, refl)

pub loop-i-preserved : goal.loop-i-preserved
loop-i-preserved c =
    let l = c.loop-i in
    let h = c.loop-i-test.true in
    (omega arith, same_next c.args.a.now c.args.b.now c.requires l.e l.i h l.invariant.1)

pub returns : goal.returns
returns c =
    let l = c.loop-i in
    same_end c.args.a.now c.args.b.now c.requires l.e l.i c.loop-i-test.false l.invariant.1
