use Rattle.std.proofs.Common.{sym, arith, below_more}
use Rattle.units.proofs.Numbers.{zeros_true, zeros_false}
use Rattle.units.proofs.all_zero.Goals as goal

pub loop-byte-init : goal.loop-byte-init
loop-byte-init c = λ k h. absurd (omega arith)

pub returns-then-byte-ne0 : goal.returns-then-byte-ne0
returns-then-byte-ne0 c = sym (zeros_false c.args.s.now c.loop-byte.byte-index c.if-byte-ne0.true)

pub loop-byte-preserved : goal.loop-byte-preserved
loop-byte-preserved c = below_more _ _ c.loop-byte.invariant c.if-byte-ne0.false

pub returns : goal.returns
returns c = sym (zeros_true c.args.s.now (λ k h. c.loop-byte.invariant k (omega arith)))
