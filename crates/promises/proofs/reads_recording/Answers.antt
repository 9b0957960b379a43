use native.Mathlib.Omega.{arith}
use Rattle.units.proofs.Numbers.{bytes_known}
use Rattle.promises.proofs.reads_recording.Goals as goal

-- The recording reader answers as promised, on bytes.
pub returns : goal.returns
returns c = record { read_recording = c.read_recording.ensures; bytes = bytes_known _ (λ i. omega (arith, c.type_inv.buf i)) }
