use Rattle.std.specs.Prelude.{Ok, Err}
use Rattle.std.proofs.lemmas.Result.{err_from_is_err_and}
use Rattle.body.proofs.Reading.{list_faulty, lists_all, lists_none}
use Rattle.body.specs.Answers.{list_of, filled_after}
use Rattle.body.specs.Answers.{message_in, tab, filled, starts_of, lengths_of}
use Rattle.body.proofs.Heads.{turn, turned}
use Rattle.body.specs.declared.Message.{Message}
use Rattle.body.proofs.Reading.{fill_next}
use Prim.Native.Nat.{◌+◌}
use native.Mathlib.Omega.{arith}
use mathlib.Core.Path.{refl, sym, ap, ◌∙◌}
use Rattle.body.proofs.list_messages.Goals as goal

pub returns-in_err-all : goal.returns-in_err-all
unfolding filled_after list_of
returns-in_err-all c =
    let f = err_from_is_err_and c.from_residual.result c.from_residual.ensures.1 in
    let is = f.1 ∙ ap Err f.2 in
    record {
      value = is ∙ list_faulty _ _ _ _ c.in_err-all.ensures;
      starts_after = rw is refl;
      lengths_after = rw is refl;
    }

pub returns-then-min-n : goal.returns-then-min-n
unfolding filled_after
returns-then-min-n c =
    record { value = sym (lists_none _ _ _ _ (c.in_ok-all.ensures.0 ∙ ap Ok (sym c.left-n.ensures)) _ _ (omega arith)); starts_after = refl; lengths_after = refl }

pub loop-k-init : goal.loop-k-init
unfolding tab filled
loop-k-init c =
    record {
      ahead = rw (c.into_iter-k-iterator.ensures.into_iter_gives, c.enumerate-k-items.ensures.source, c.enumerate-k-items.ensures.count, c.left-n.ensures) c.in_ok-all.ensures.1;
      starts = rw (c.into_iter-k-iterator.ensures.into_iter_gives, c.enumerate-k-items.ensures.count) refl;
      lengths = rw (c.into_iter-k-iterator.ensures.into_iter_gives, c.enumerate-k-items.ensures.count) refl;
    }

pub overflow_add-starts : goal.overflow_add-starts
overflow_add-starts c =
    let t = turn _ _ _ _ _ _ _ _ _ (c.in_ok-all.ensures.0 ∙ ap Ok (sym c.left-n.ensures)) c.requires c.loop-k.invariant.ahead c.in-Some.ensures.steps.0 in
    omega (arith, t.start)

pub overflow_cast-starts : goal.overflow_cast-starts
overflow_cast-starts c =
    let t = turn _ _ _ _ _ _ _ _ _ (c.in_ok-all.ensures.0 ∙ ap Ok (sym c.left-n.ensures)) c.requires c.loop-k.invariant.ahead c.in-Some.ensures.steps.0 in
    omega (arith, t.start)

pub overflow_cast-lengths : goal.overflow_cast-lengths
overflow_cast-lengths c =
    let t = turn _ _ _ _ _ _ _ _ _ (c.in_ok-all.ensures.0 ∙ ap Ok (sym c.left-n.ensures)) c.requires c.loop-k.invariant.ahead c.in-Some.ensures.steps.0 in
    omega (arith, t.short)

pub bounds-starts-k : goal.bounds-starts-k
bounds-starts-k c =
    let t = turn _ _ _ _ _ _ _ _ _ (c.in_ok-all.ensures.0 ∙ ap Ok (sym c.left-n.ensures)) c.requires c.loop-k.invariant.ahead c.in-Some.ensures.steps.0 in
    omega (arith, t.more, c.in-Some.ensures.steps.1)

pub bounds-lengths-k : goal.bounds-lengths-k
bounds-lengths-k c =
    let t = turn _ _ _ _ _ _ _ _ _ (c.in_ok-all.ensures.0 ∙ ap Ok (sym c.left-n.ensures)) c.requires c.loop-k.invariant.ahead c.in-Some.ensures.steps.0 in
    omega (arith, t.more, c.in-Some.ensures.steps.1)

pub offset_bounds-starts-k : goal.offset_bounds-starts-k
offset_bounds-starts-k c =
    let t = turn _ _ _ _ _ _ _ _ _ (c.in_ok-all.ensures.0 ∙ ap Ok (sym c.left-n.ensures)) c.requires c.loop-k.invariant.ahead c.in-Some.ensures.steps.0 in
    omega (arith, t.more, c.in-Some.ensures.steps.1)

pub offset_bounds-lengths-k : goal.offset_bounds-lengths-k
offset_bounds-lengths-k c =
    let t = turn _ _ _ _ _ _ _ _ _ (c.in_ok-all.ensures.0 ∙ ap Ok (sym c.left-n.ensures)) c.requires c.loop-k.invariant.ahead c.in-Some.ensures.steps.0 in
    omega (arith, t.more, c.in-Some.ensures.steps.1)

pub loop-k-preserved : goal.loop-k-preserved
loop-k-preserved c =
    let i = c.loop-k.invariant in
    let s = c.in-Some.ensures.steps in
    let t = turn _ _ _ _ _ _ _ _ _ (c.in_ok-all.ensures.0 ∙ ap Ok (sym c.left-n.ensures)) c.requires c.loop-k.invariant.ahead c.in-Some.ensures.steps.0 in
    record {
      ahead = rw s.2 t.ahead;
      starts = rw (s.1, s.2) (fill_next _ (starts_of c.args.base (message_in _ _ _)) _ _ _ (omega (arith, t.more)) i.starts (ap (λ (m : Message). c.args.base + m.start) t.is));
      lengths = rw (s.1, s.2) (fill_next _ (lengths_of (message_in _ _ _)) _ _ _ (omega (arith, t.more)) i.lengths (ap (λ (m : Message). m.length) t.is));
    }

pub returns : goal.returns
unfolding filled_after
returns c =
    let i = c.loop-k.invariant in
    let e = turned _ _ _ _ i.ahead c.in-None.ensures.steps.0.0 in
    record {
      value = sym (lists_all _ _ _ _ (c.in_ok-all.ensures.0 ∙ ap Ok (sym c.left-n.ensures)) _ _ (omega arith));
      starts_after = rw e at i.starts;
      lengths_after = rw e at i.lengths;
    }
