use Rattle.std.proofs.Common.{◌+◌, ◌-◌, ◌∙◌, rules, arith}
use Rattle.units.proofs.Bytes.{le_field}
use Rattle.units.proofs.U64InBytes.read.Goals as goal

pub returns : goal.returns
returns c = c.from_le_bytes.ensures ∙ le_field 7 c.args.s.now c.args.at (c.args.at + 8 - c.args.at) c.unwrap.result (search rules) (omega arith)
