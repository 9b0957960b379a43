use native.Mathlib.Omega.{arith}
use Rattle.frame.proofs.rules.unfilled_length.Goals as goal

pub returns : goal.returns
returns c = grind arith
