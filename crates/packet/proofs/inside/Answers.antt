use native.Mathlib.Omega.{arith}
use borrow.Author.Tests.{leb-true}
use Rattle.units.proofs.Choices.{and_true}
use Rattle.packet.proofs.Passes.{inside_code, inside_not}
use Rattle.packet.proofs.inside.Goals as goal

pub overflow_sub-result : goal.overflow_sub-result
overflow_sub-result c = leb-true _ _ (and_true _ _ c.if-start-end.true).0

pub returns-then-start-end : goal.returns-then-start-end
returns-then-start-end c = inside_code _ _ _ _ (omega (arith, c.ranges)) c.if-start-end.true

pub returns-else-start-end : goal.returns-else-start-end
returns-else-start-end c = inside_not _ _ _ _ c.if-start-end.false
