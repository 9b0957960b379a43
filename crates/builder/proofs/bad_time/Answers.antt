use Rattle.builder.proofs.bad_time.Goals as goal

pub returns : goal.returns
returns c = cc
