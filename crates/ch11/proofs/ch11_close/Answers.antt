use mathlib.Core.Path.{refl}
use Rattle.ch11.proofs.ch11_close.Goals as goal

pub returns : goal.returns
returns c = ((c.close_given.ensures.value, refl), c.close_given.ensures.buf_after)
