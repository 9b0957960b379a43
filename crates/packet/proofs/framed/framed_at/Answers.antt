use native.Mathlib.Omega.{arith}
use Rattle.terms.proofs.Numbers.{above_none}
use Rattle.packet.proofs.framed.framed_at.Goals as goal

pub returns : goal.returns
returns c = grind (arith, above_none)
