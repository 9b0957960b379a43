use Rattle.ch11_words.specs.Words.{packet_words}
use Rattle.ch11_words.proofs.refused_words.Goals as goal

pub returns : goal.returns
unfolding packet_words
returns c = c.refusal_alone.ensures
