use Rattle.std.proofs.Common.{◌∙◌, arith}
use Rattle.units.proofs.Bytes.{le_put}
use Rattle.units.proofs.U16InBytes.put.Goals as goal

pub returns : goal.returns
returns c =
    le_put 2 c.args.v c.args.s.now c.args.at _ _ (c.copy_from_slice.ensures.after ∙ c.to_le_bytes.ensures) (omega arith)
