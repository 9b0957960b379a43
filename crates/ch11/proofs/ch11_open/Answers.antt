use mathlib.Core.Path.{refl}
use Rattle.ch11.proofs.ch11_open.Goals as goal

pub returns : goal.returns
returns c = ((c.open_given.ensures.value, refl), c.open_given.ensures.buf_after)
