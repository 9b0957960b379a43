use Rattle.frame.specs.Header.{fields_in}
use Rattle.packet.specs.Read.{packet_in}
use Rattle.renewal.proofs.slots.Row.of_packet.Goals as goal

pub returns : goal.returns
unfolding packet_in fields_in
returns c =
    rw (c.from.ensures, c.read.ensures, c.from-2.ensures, c.read-2.ensures, c.from-3.ensures, c.read48.ensures)
