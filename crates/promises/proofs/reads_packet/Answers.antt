use native.Mathlib.Omega.{arith}
use Rattle.units.proofs.Numbers.{bytes_known}
use Rattle.promises.proofs.reads_packet.Goals as goal

-- The reader answers as promised, on bytes.
pub returns : goal.returns
returns c = record { read_packet = c.read_packet.ensures; bytes = bytes_known _ (λ i. omega (arith, c.type_inv.buf i)) }
