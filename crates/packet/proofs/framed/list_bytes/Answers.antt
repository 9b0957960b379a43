use native.Mathlib.Omega.{arith}
use Rattle.packet.proofs.Answers.{list_kept}
use Rattle.packet.proofs.Passes.{list_refused, pass_on}
use Rattle.packet.proofs.framed.list_bytes.Goals as goal

pub returns-in_err-placed-clause-value : goal.returns-in_err-placed-clause-value
returns-in_err-placed-clause-value c = grind (arith, list_refused)

pub returns-in_err-placed-clause-starts_after : goal.returns-in_err-placed-clause-starts_after
returns-in_err-placed-clause-starts_after c = grind (arith, list_kept)

pub returns-in_err-placed-clause-lengths_after : goal.returns-in_err-placed-clause-lengths_after
returns-in_err-placed-clause-lengths_after c = grind (arith, list_kept)

pub returns-clause-value : goal.returns-clause-value
returns-clause-value c = grind (arith, pass_on)
