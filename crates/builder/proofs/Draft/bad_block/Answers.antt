use Rattle.builder.proofs.Draft.bad_block.Goals as goal

pub returns : goal.returns
returns c = cc
