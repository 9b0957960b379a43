use lib.Seq.{sets-eq}
use Rattle.ch11_words.specs.Words.{refusal_words}
use Rattle.ch11_words.proofs.put_refusal.Goals as goal

pub returns : goal.returns
returns c = sets-eq (refusal_words c.args.f) c.args.words.now 0 c.requires
