use native.Mathlib.Omega.{arith}
use native.Mathlib.Nat.{div-one}
use Rattle.frame.proofs.Widths.{put_byte}
use Rattle.frame.proofs.sums.put_data_sum.Goals as goal

pub returns-in-Bits8 : goal.returns-in-Bits8
returns-in-Bits8 c = grind (arith, div-one, put_byte)
