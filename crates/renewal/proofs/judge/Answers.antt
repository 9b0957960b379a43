use mathlib.Core.Path.{◌≡◌, sym, ◌∙◌}
use Prim.Native.Nat.{◌+◌, ◌-◌}
use native.Mathlib.Omega.{arith}
use Rattle.renewal.proofs.Passing.{taken, barred_back}
use Rattle.renewal.proofs.Renewing.{judge_refused, judge_lives, judge_differs}
use Rattle.renewal.proofs.judge.Goals as goal

pub overflow_add-start : goal.overflow_add-start
overflow_add-start c =
    let got = taken _ _ _ _ _ (sym c.in-Ok.is ∙ c.pass_window.ensures) in
    omega (arith, got.there, got.reach, c.ranges)

pub slice_bounds-held-end : goal.slice_bounds-held-end
slice_bounds-held-end c =
    let got = taken _ _ _ _ _ (sym c.in-Ok.is ∙ c.pass_window.ensures) in
    omega (arith, got.there, got.reach, got.within)

pub returns-in-Err : goal.returns-in-Err
returns-in-Err c =
    judge_refused _ _ _ _ _ _ _ _ (barred_back _ _ _ _ _ (sym c.in-Err.is ∙ c.pass_window.ensures))

pub returns-then-held : goal.returns-then-held
returns-then-held c =
    let got = taken _ _ _ _ _ (sym c.in-Ok.is ∙ c.pass_window.ensures) in
    let long : c.args.start + c.in-Ok.length - c.args.start ≡ c.in-Ok.length = omega arith in
    judge_lives _ _ _ _ _ _ _ _ got _ (rw long at c.held.ensures) c.if-held.true

pub returns-else-held : goal.returns-else-held
returns-else-held c =
    let got = taken _ _ _ _ _ (sym c.in-Ok.is ∙ c.pass_window.ensures) in
    let long : c.args.start + c.in-Ok.length - c.args.start ≡ c.in-Ok.length = omega arith in
    judge_differs _ _ _ _ _ _ _ _ got _ (rw long at c.held.ensures) _ c.if-held.false c.no_refusal.ensures
