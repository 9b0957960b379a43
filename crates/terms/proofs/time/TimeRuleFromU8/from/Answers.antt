use Rattle.terms.specs.Times.{rule_of}
use borrow.Author.Tests.{eq-eqb, ne_eqb}
use Rattle.terms.proofs.time.TimeRuleFromU8.from.Goals as goal

pub returns-then-number-eq1 : goal.returns-then-number-eq1
unfolding rule_of
returns-then-number-eq1 c = simp (eq-eqb _ _ c.if-number-eq1.true)

pub returns-then-number-eq2 : goal.returns-then-number-eq2
unfolding rule_of
returns-then-number-eq2 c = simp (ne_eqb _ _ c.if-number-eq1.false, eq-eqb _ _ c.if-number-eq2.true)

pub returns-then-number-eq3 : goal.returns-then-number-eq3
unfolding rule_of
returns-then-number-eq3 c = simp (ne_eqb _ _ c.if-number-eq1.false, ne_eqb _ _ c.if-number-eq2.false, eq-eqb _ _ c.if-number-eq3.true)

pub returns : goal.returns
unfolding rule_of
returns c = simp (ne_eqb _ _ c.if-number-eq1.false, ne_eqb _ _ c.if-number-eq2.false, ne_eqb _ _ c.if-number-eq3.false)
