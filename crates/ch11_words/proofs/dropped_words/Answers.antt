use Rattle.ch11_words.specs.Words.{renewed_words}
use Rattle.ch11_words.proofs.dropped_words.Goals as goal

pub returns : goal.returns
unfolding renewed_words
returns c = rw c.put_refusal.ensures
