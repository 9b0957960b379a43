use Rattle.std.proofs.Common.{ℕ, ◌∙◌, ap, arith}
use Rattle.units.specs.Units.{splice, bytes_of}
use Rattle.units.proofs.Bytes.{le_put}
use Rattle.units.proofs.U32InBytes.put.Goals as goal

pub returns : goal.returns
returns c =
    le_put 4 _ c.args.s.now c.args.at _ _ (c.copy_from_slice.ensures.after ∙ c.to_le_bytes.ensures) (omega arith)
    ∙ ap (λ (n : ℕ). splice c.args.s.now c.args.at (bytes_of 4 n)) (omega arith)
