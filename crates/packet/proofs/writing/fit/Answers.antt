use Rattle.frame.specs.Contents.{contents}
use Rattle.packet.proofs.Writes.{fit_short, fit_room, fit_faulty}
use Rattle.packet.proofs.writing.fit.Goals as goal

pub returns-then-room-length : goal.returns-then-room-length
returns-then-room-length c =
    fit_short (contents c.args.fields c.args.body.now) _ _ _ _ c.message_rule.ensures c.check_body.ensures _ _ c.in-Ok.is
    c.if-room-length.true c.no_room.ensures

pub returns-else-room-length : goal.returns-else-room-length
returns-else-room-length c =
    fit_room (contents c.args.fields c.args.body.now) _ _ _ _ c.message_rule.ensures c.check_body.ensures _ c.in-Ok.is
    c.if-room-length.false

pub returns-in-Err : goal.returns-in-Err
returns-in-Err c =
    fit_faulty (contents c.args.fields c.args.body.now) _ _ _ _ c.message_rule.ensures c.check_body.ensures _ _ c.in-Err.is
    c.placed.ensures
