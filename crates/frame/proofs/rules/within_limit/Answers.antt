use Rattle.frame.proofs.Frames.{limit_small, limit_large}
use Rattle.frame.proofs.rules.within_limit.Goals as goal

pub returns-then-p-le524288 : goal.returns-then-p-le524288
returns-then-p-le524288 c = limit_small _ _ c.if-p-le524288.true

pub returns : goal.returns
returns c = limit_large _ _ c.if-p-le524288.false
