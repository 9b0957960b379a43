use native.Mathlib.Omega.{arith}
use Rattle.packet.proofs.Passes.{message_refused, pass_on}
use Rattle.packet.proofs.framed.message_bytes.Goals as goal

pub returns-in_err-placed : goal.returns-in_err-placed
returns-in_err-placed c = grind (arith, message_refused)

pub returns : goal.returns
returns c = grind (arith, pass_on)
