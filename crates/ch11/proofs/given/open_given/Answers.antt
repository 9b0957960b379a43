use mathlib.Core.Path.{sym, ◌∙◌}
use native.Mathlib.Omega.{arith}
use Rattle.ch11.proofs.Giving.{over_open, in_byte, opened_as, unopened_as, refused_as}
use Rattle.ch11.proofs.given.open_given.Goals as goal

pub returns-then-over_byte : goal.returns-then-over_byte
returns-then-over_byte c =
    let r = refused_as _ _ _ _ _ _ _ _ c.denied_words.ensures c.refuse.ensures (over_open _ _ _ _ (sym c.over_byte.ensures ∙ c.if-over_byte.true)) in
    record { value = r.0; buf_after = r.1 }

pub overflow_cast-kind : goal.overflow_cast-kind
overflow_cast-kind c =
    let h = in_byte c.args.kind c.args.rule (sym c.over_byte.ensures ∙ c.if-over_byte.false) in
    omega (arith, h.0)

pub overflow_cast-rule : goal.overflow_cast-rule
overflow_cast-rule c =
    let h = in_byte c.args.kind c.args.rule (sym c.over_byte.ensures ∙ c.if-over_byte.false) in
    omega (arith, h.1)

pub returns-in-Ok : goal.returns-in-Ok
returns-in-Ok c =
    let opens = c.open-step in
    let r = opened_as _ _ _ _ _ _ c.fresh.ensures opens.ensures.value _ _ _ _ _ _ c.in-Ok.is c.step_words.ensures opens.ensures.buf_after in
    record { value = r.0; buf_after = r.1 }

pub returns-in-Err : goal.returns-in-Err
returns-in-Err c =
    let opens = c.open-step in
    let r = unopened_as _ _ _ _ _ _ c.fresh.ensures opens.ensures.value _ _ _ _ _ _ _ c.in-Err.is c.denied_words-in-Err.ensures opens.ensures.buf_after in
    record { value = r.0; buf_after = r.1 }
