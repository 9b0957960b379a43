use mathlib.Core.Path.{refl}
use Rattle.ch11_words.specs.Words.{renewed_words}
use Rattle.ch11_words.proofs.lives_words.Goals as goal

pub returns : goal.returns
unfolding renewed_words
returns c = refl
