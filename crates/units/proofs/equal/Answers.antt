use Rattle.std.proofs.Common.{◌-◌, ◌%◌, ◌∙◌, length, sym, arith}
use Rattle.units.proofs.Sames.{pointwise_same, same_long, same_whole, same_over}
use Rattle.units.proofs.equal.Goals as goal

pub returns-then-n-b : goal.returns-then-n-b
returns-then-n-b c = sym (same_long c.args.a.now c.args.b.now c.if-n-b.true)

pub returns-then-n-le64 : goal.returns-then-n-le64
returns-then-n-le64 c = c.eq.ensures ∙ pointwise_same c.args.a.now c.args.b.now

pub returns-then-lines-n : goal.returns-then-lines-n
returns-then-lines-n c =
    same_whole _ _ c.if-n-b.false _ _ c.if-lines-n.true c.equal_bytes-front.ensures

pub returns : goal.returns
returns c =
    let n = length c.args.a.now in
    same_over c.args.a.now c.args.b.now c.if-n-b.false (n - n % 32) 32 _ _ (omega (arith, c.if-n-le64.false)) (omega arith) c.equal_bytes-front.ensures c.equal_bytes.ensures
