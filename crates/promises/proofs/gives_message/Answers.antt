use native.Mathlib.Omega.{arith}
use Rattle.units.proofs.Numbers.{bytes_known}
use Rattle.promises.proofs.gives_message.Goals as goal

-- One message by its number is answered as promised, on bytes.
pub returns : goal.returns
returns c = record { give_message = c.message.ensures; bytes = bytes_known _ (λ i. omega (arith, c.type_inv.buf i)) }
