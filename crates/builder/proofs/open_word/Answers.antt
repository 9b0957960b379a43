use Rattle.units.proofs.Choices.{chosen, skipped}
use Rattle.std.proofs.Common.{refl}
use Rattle.builder.proofs.open_word.Goals as goal

pub returns-then-kind-rule : goal.returns-then-kind-rule
returns-then-kind-rule c = chosen _ _ refl c.if-kind-rule.true

pub returns-else-kind-rule : goal.returns-else-kind-rule
returns-else-kind-rule c = skipped _ _ _ refl c.if-kind-rule.false refl
