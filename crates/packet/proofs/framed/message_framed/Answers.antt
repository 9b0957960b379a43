use Rattle.std.specs.Prelude.{Ok, Err}
use mathlib.Core.Path.{refl, sym, ap, ◌∙◌}
use native.Mathlib.Omega.{arith}
use Rattle.packet.proofs.Answers.{start_reach, message_says, unread_faulty, fault_reach}
use Rattle.packet.proofs.framed.message_framed.Goals as goal

pub overflow_add-result : goal.overflow_add-result
overflow_add-result c =
    let reach = start_reach _ _ c.measure-layout.ensures _ c.message_rule.ensures c.args.placed.framed.sound _ _ (sym c.message_at.ensures ∙ (c.in-Ok-Some.is ∙ ap Ok c.in-Ok-Some.field-0-is)) in
    omega (arith, reach, c.args.placed.below)

pub moved-requires : goal.moved-requires
moved-requires c =
    let within = fault_reach _ _ c.measure-layout.ensures _ c.message_rule.ensures c.args.placed.framed.sound _ (unread_faulty _ _ _ _ _ (sym c.message_at.ensures ∙ c.in-Err.is)) in
    omega (arith, within, c.args.placed.below)

pub returns-in-Ok-Some : goal.returns-in-Ok-Some
returns-in-Ok-Some c =
    message_says _ _ _ c.measure-layout.ensures _ c.message_rule.ensures _ _ _ _ (c.in-Ok-Some.is ∙ ap Ok c.in-Ok-Some.field-0-is) refl c.message_at.ensures

pub returns-in-Err : goal.returns-in-Err
returns-in-Err c =
    message_says _ _ _ c.measure-layout.ensures _ c.message_rule.ensures _ _ _ _ c.in-Err.is (ap Err c.moved.ensures) c.message_at.ensures

pub returns-in-Ok-None : goal.returns-in-Ok-None
returns-in-Ok-None c =
    message_says _ _ _ c.measure-layout.ensures _ c.message_rule.ensures _ _ _ _ (c.in-Ok-None.is ∙ ap Ok c.in-Ok-None.field-0-is) (ap Err c.refuse.ensures)
    c.message_at.ensures
