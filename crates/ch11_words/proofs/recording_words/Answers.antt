use Rattle.ch11_words.specs.Words.{recording_words}
use Rattle.ch11_words.proofs.recording_words.Goals as goal

pub returns : goal.returns
unfolding recording_words
returns c = rw c.put_refusal.ensures
