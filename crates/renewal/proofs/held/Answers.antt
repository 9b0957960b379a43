use mathlib.Core.Path.{◌≡◌}
use Prim.Native.Nat.{◌+◌, ◌*◌, ◌-◌}
use native.Mathlib.Omega.{arith}
use Rattle.renewal.proofs.Renewing.{held_forged, held_other, held_by}
use Rattle.renewal.proofs.held.Goals as goal

pub returns-then-n-gt1024 : goal.returns-then-n-gt1024
returns-then-n-gt1024 c = held_forged _ _ _ _ c.if-n-gt1024.true

pub returns-then-n-bytes : goal.returns-then-n-bytes
returns-then-n-bytes c =
    held_other _ _ _ _ c.requires.0 c.requires.1 c.if-n-gt1024.false c.if-n-bytes.true

pub returns : goal.returns
returns c =
    let long : c.args.k * 1024 + c.args.n - c.args.k * 1024 ≡ c.args.n = omega arith in
    held_by _ _ _ _ c.if-n-gt1024.false _ (rw long at c.equal.ensures)
