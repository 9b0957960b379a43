use Rattle.std.proofs.Common.{sym}
use Rattle.units.proofs.Parts.{field_one}
use Rattle.units.proofs.U8InBytes.read.Goals as goal

pub returns : goal.returns
returns c = sym (field_one c.args.s.now c.args.at)
