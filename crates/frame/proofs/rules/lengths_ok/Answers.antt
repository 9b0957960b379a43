use Rattle.frame.proofs.Frames.{lengths_test}
use Rattle.frame.proofs.rules.lengths_ok.Goals as goal

pub returns : goal.returns
returns c = lengths_test _ _ _ _ _ _ c.length_for.ensures.0 c.within_limit.ensures
