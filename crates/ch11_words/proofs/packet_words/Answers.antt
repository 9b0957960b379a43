use mathlib.Core.Path.{refl}
use Rattle.ch11_words.specs.Words.{packet_words}
use Rattle.ch11_words.proofs.packet_words.Goals as goal

pub returns : goal.returns
unfolding packet_words
returns c = refl
