use Rattle.std.specs.Prelude.{Err}
use Rattle.body.proofs.Walking.{Counting, counting_first, counting_stop, ending_exact, ending_over}
use Rattle.body.proofs.Steps.{turn_fault, turn_on}
use Rattle.std.proofs.lemmas.Result.{err_from_is_err_and}
use Prim.Native.Nat.{◌+◌, ◌≤◌, ◌<◌}
use lib.ListN.{length}
use borrow.Author.Rules.{rules}
use Rattle.body.specs.inner.Walks.{faulted}
use native.Mathlib.Omega.{arith}
use mathlib.Core.Path.{◌≡◌, sym, ap, ◌∙◌}
use Rattle.body.proofs.walk.count_blocks.Goals as goal

pub loop-shape-init : goal.loop-shape-init
loop-shape-init c = counting_first _ _ c.requires

pub returns-in_err-at : goal.returns-in_err-at
returns-in_err-at c =
    let m : c.map_err.result ≡ faulted c.loop-shape.at c.next_block.result = search rules in
    let f = err_from_is_err_and c.from_residual.result c.from_residual.ensures.1 in
    f.1 ∙ ap Err f.2
    ∙ sym (turn_fault _ _ _ _ _ c.loop-shape.invariant (sym c.stop_at.ensures ∙ c.loop-shape-test.true) c.next_block.ensures _ (sym m ∙ c.in_err-at.was))

-- behind a block that is whole
on : (c : goal.In_ok-at)
    → Counting c.args.shape c.args.body.now (c.loop-shape.k + 1) c.in_ok-at.at × (c.loop-shape.at < c.in_ok-at.at) × (c.in_ok-at.at ≤ length c.args.body.now)
on c =
    let m : c.map_err.result ≡ faulted c.loop-shape.at c.next_block.result = search rules in
    turn_on _ _ _ _ _ c.loop-shape.invariant (sym c.stop_at.ensures ∙ c.loop-shape-test.true) c.next_block.ensures _ (sym m ∙ c.in_ok-at.was)

pub loop-shape-smaller : goal.loop-shape-smaller
loop-shape-smaller c = let s = on c in omega (arith, s.1)

pub loop-shape-preserved : goal.loop-shape-preserved
loop-shape-preserved c = (on c).0

pub returns-then-at-body : goal.returns-then-at-body
returns-then-at-body c =
    sym (counting_stop _ _ _ _ c.loop-shape.invariant (sym c.stop_at.ensures ∙ c.loop-shape-test.false) ∙ ending_exact _ _ _ c.if-at-body.true)

pub returns-else-at-body : goal.returns-else-at-body
returns-else-at-body c =
    ap Err c.fault.ensures
    ∙ sym (counting_stop _ _ _ _ c.loop-shape.invariant (sym c.stop_at.ensures ∙ c.loop-shape-test.false) ∙ ending_over _ _ _ c.if-at-body.false)
