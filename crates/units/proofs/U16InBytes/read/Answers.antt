use Rattle.std.proofs.Common.{◌+◌, ◌-◌, ◌∙◌, rules, arith}
use Rattle.units.proofs.Bytes.{le_field}
use Rattle.units.proofs.U16InBytes.read.Goals as goal

pub returns : goal.returns
returns c =
    omega (arith, c.from_le_bytes.ensures ∙ le_field 1 c.args.s.now c.args.at (c.args.at + 2 - c.args.at) c.unwrap.result (search rules) (omega arith))
