use Rattle.builder.proofs.Draft.is_bad.Goals as goal

pub returns : goal.returns
returns c = cc
