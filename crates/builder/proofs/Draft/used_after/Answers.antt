use Rattle.builder.specs.Build.{grown}
use Rattle.builder.proofs.Draft.used_after.Goals as goal

pub returns : goal.returns
unfolding grown
returns c = simp (c.stamp_length.ensures.0, c.form.ensures)
