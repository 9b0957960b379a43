use Rattle.frame.proofs.rules.secondary_time_ok.Goals as goal

pub returns : goal.returns
returns c = cc
