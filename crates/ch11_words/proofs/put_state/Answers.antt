use lib.Seq.{sets-eq}
use Rattle.ch11_words.specs.Words.{refusal_size, state_words}
use Rattle.ch11_words.proofs.put_state.Goals as goal

pub returns : goal.returns
returns c = sets-eq (state_words c.args.d) c.args.words.now refusal_size c.requires
