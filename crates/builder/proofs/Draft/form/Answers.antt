use Rattle.std.proofs.Common.{le-ltb, lt-ltb}
use Rattle.builder.proofs.Draft.form.Goals as goal

pub returns-then-self-gt0 : goal.returns-then-self-gt0
returns-then-self-gt0 c = simp (lt-ltb _ _ c.if-self-gt0.true)

pub returns-else-self-gt0 : goal.returns-else-self-gt0
returns-else-self-gt0 c = simp (le-ltb _ _ c.if-self-gt0.false)
