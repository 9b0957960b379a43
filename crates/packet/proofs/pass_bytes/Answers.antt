use native.Mathlib.Omega.{arith}
use Rattle.packet.proofs.Passes.{pass_refused, pass_on}
use Rattle.packet.proofs.pass_bytes.Goals as goal

pub returns-in_err-placed : goal.returns-in_err-placed
returns-in_err-placed c = grind (arith, pass_refused)

pub returns : goal.returns
returns c = grind (arith, pass_on)
