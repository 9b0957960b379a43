use Rattle.body.proofs.Counts.{walked_back}
use Rattle.body.specs.inner.Walks.{answered}
use mathlib.Core.Path.{ap, ◌∙◌}
use Rattle.body.proofs.walk.walk_body.Goals as goal

pub returns : goal.returns
returns c = c.answer.ensures ∙ ap answered c.walk_whole.ensures ∙ walked_back _ _ _
