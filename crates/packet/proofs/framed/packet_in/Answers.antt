use Rattle.packet.proofs.Answers.{packet_is}
use Rattle.packet.proofs.framed.packet_in.Goals as goal

pub returns : goal.returns
returns c =
    packet_is _ _ _ _ _ _ _ _ _ c.args.placed.framed.sound c.measure-layout.ensures c.fields.ensures c.read-length.ensures c.read.ensures c.read-2.ensures
    c.stored_sum.ensures
