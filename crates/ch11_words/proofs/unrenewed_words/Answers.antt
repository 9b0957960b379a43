use Rattle.ch11_words.specs.Words.{renewed_words}
use Rattle.ch11_words.proofs.unrenewed_words.Goals as goal

pub returns : goal.returns
unfolding renewed_words
returns c = c.refusal_alone.ensures
