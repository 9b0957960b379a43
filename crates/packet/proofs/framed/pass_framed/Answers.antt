use Rattle.std.proofs.Common.{sym, ◌∙◌, arith}
use Rattle.packet.proofs.Answers.{fault_reach, checked_is, pass_carried, pass_counted, pass_faulty}
use Rattle.packet.proofs.framed.pass_framed.Goals as goal

pub returns-in-Err : goal.returns-in-Err
returns-in-Err c = pass_carried _ _ _ c.read-in-Err.ensures c.in-Err.ensures

-- what the walk says is what the body's check says
pub moved-requires : goal.moved-requires
moved-requires c =
    let faulty = rw c.in-Ok.ensures at (sym c.walk_body.ensures ∙ c.in-Err-walk_body.is) in
    let reach = fault_reach _ _ c.measure-layout.ensures _ c.message_rule.ensures c.args.placed.framed.sound _ faulty in
    omega (arith, reach, c.args.placed.below)

pub returns-in-Err-walk_body : goal.returns-in-Err-walk_body
returns-in-Err-walk_body c =
    let faulty = rw c.in-Ok.ensures at (sym c.walk_body.ensures ∙ c.in-Err-walk_body.is) in
    pass_faulty _ _ _ _ _ (sym (checked_is _ _ c.measure-layout.ensures _ c.message_rule.ensures) ∙ faulty) c.measure-layout.ensures.body c.moved.ensures

pub returns-in-Ok-walk_body : goal.returns-in-Ok-walk_body
returns-in-Ok-walk_body c =
    let counted = rw c.in-Ok.ensures at (sym c.walk_body.ensures ∙ c.in-Ok-walk_body.is) in
    pass_counted _ _ _ _ (sym (checked_is _ _ c.measure-layout.ensures _ c.message_rule.ensures) ∙ counted) c.read.ensures
