use Rattle.frame.specs.Header.{fields_in}
use Rattle.frame.proofs.framed.Framed.fields.Goals as goal

pub returns : goal.returns
unfolding fields_in
returns c = cc
