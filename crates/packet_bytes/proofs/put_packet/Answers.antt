use Rattle.packet_bytes.proofs.Puts.{packet_put}
use Rattle.packet_bytes.proofs.put_packet.Goals as goal

pub returns : goal.returns
returns c =
    packet_put _ _ _ _ _ _ c.requires.0 c.requires.1 c.put_header.ensures c.put_secondary.ensures c.put_data.ensures
