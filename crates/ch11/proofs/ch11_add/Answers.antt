use mathlib.Core.Path.{refl}
use Rattle.ch11.proofs.ch11_add.Goals as goal

pub returns : goal.returns
returns c = ((c.add_given.ensures.value, refl), c.add_given.ensures.buf_after)
