use Rattle.std.specs.Prelude.{Err}
use mathlib.Core.Path.{refl, sym, ap, ◌∙◌}
use native.Mathlib.Omega.{arith}
use Rattle.packet.proofs.Answers.{list_says, unlisted_faulty, fault_reach}
use Rattle.packet.proofs.framed.list_framed.Goals as goal

pub moved-requires : goal.moved-requires
moved-requires c =
    let within = fault_reach _ _ c.measure-layout.ensures _ c.message_rule.ensures c.args.placed.framed.sound _ (unlisted_faulty _ _ _ _ _ _ (sym c.list_messages.ensures.value ∙ (c.in-Err-Faulty.is ∙ ap Err c.in-Err-Faulty.field-0-is))) in
    omega (arith, within, c.args.placed.below)

pub returns-in-Ok : goal.returns-in-Ok
returns-in-Ok c =
    let r = list_says _ _ _ c.measure-layout.ensures _ c.message_rule.ensures _ _ _ _ _ _ _ _ _ c.in-Ok.is refl c.list_messages.ensures.value c.list_messages.ensures.starts_after c.list_messages.ensures.lengths_after in
    record { value = r.0; starts_after = r.1; lengths_after = r.2 }

pub returns-in-Err-Faulty : goal.returns-in-Err-Faulty
returns-in-Err-Faulty c =
    let r = list_says _ _ _ c.measure-layout.ensures _ c.message_rule.ensures _ _ _ _ _ _ _ _ _ (c.in-Err-Faulty.is ∙ ap Err c.in-Err-Faulty.field-0-is) (ap Err c.moved.ensures) c.list_messages.ensures.value c.list_messages.ensures.starts_after c.list_messages.ensures.lengths_after in
    record { value = r.0; starts_after = r.1; lengths_after = r.2 }

pub returns-in-Err-NoRoom : goal.returns-in-Err-NoRoom
returns-in-Err-NoRoom c =
    let r = list_says _ _ _ c.measure-layout.ensures _ c.message_rule.ensures _ _ _ _ _ _ _ _ _ (c.in-Err-NoRoom.is ∙ ap Err c.in-Err-NoRoom.field-0-is) (ap Err c.no_room.ensures) c.list_messages.ensures.value c.list_messages.ensures.starts_after c.list_messages.ensures.lengths_after in
    record { value = r.0; starts_after = r.1; lengths_after = r.2 }
