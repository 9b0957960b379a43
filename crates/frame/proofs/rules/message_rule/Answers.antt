use mathlib.Core.Path.{refl, ◌∙◌, ap}
use borrow.Author.Tests.{eq-eqb, ne_eqb}
use Rattle.terms.specs.Times.{rule_of}
use Rattle.units.proofs.Choices.{chosen, skipped}
use Rattle.frame.specs.Rules.{message_rule}
use Rattle.frame.proofs.rules.message_rule.Goals as goal

pub returns-then-flags-eq0 : goal.returns-then-flags-eq0
unfolding message_rule
returns-then-flags-eq0 c = c.from.ensures ∙ ap rule_of (chosen 1 _ refl (eq-eqb _ _ c.if-flags-eq0.true))

pub returns : goal.returns
unfolding message_rule
returns c = c.from-2.ensures ∙ ap rule_of (skipped 1 _ _ refl (ne_eqb _ _ c.if-flags-eq0.false) refl)
