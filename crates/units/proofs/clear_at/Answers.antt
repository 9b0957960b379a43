use Rattle.std.proofs.Common.{◌≡◌, ◌*◌, ◌/◌, refl, ◌∙◌, arith}
use Rattle.units.proofs.Writes.{one_more}
use Rattle.units.proofs.clear_at.Goals as goal

pub returns-then-n-eq1 : goal.returns-then-n-eq1
returns-then-n-eq1 c =
    let a = c.args in
    one_more a.dst.now _ a.at (2 * (a.n / 2)) a.n 0 c.clear_halves.ensures (omega (arith, c.if-n-eq1.true)) (omega arith)

pub returns-else-n-eq1 : goal.returns-else-n-eq1
returns-else-n-eq1 c =
    let a = c.args in
    let even : 2 * (a.n / 2) ≡ a.n = omega (arith, c.if-n-eq1.false) in
    c.clear_halves.ensures ∙ rw even refl
