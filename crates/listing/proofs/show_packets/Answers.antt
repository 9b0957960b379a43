use Rattle.std.proofs.Common.{sym, ◌∙◌, arith}
use Rattle.packet.proofs.Own.{accepted_fits}
use Rattle.listing.proofs.show_packets.Goals as goal

pub loop-number-smaller : goal.loop-number-smaller
loop-number-smaller g c =
    let k = accepted_fits _ _ _ _ c.in-Ok.packet (sym c.read_packet.ensures ∙ c.in-Ok.is) in
    omega (arith, k)

pub loop-number-preserved : goal.loop-number-preserved
loop-number-preserved g c =
    let k = accepted_fits _ _ _ _ c.in-Ok.packet (sym c.read_packet.ensures ∙ c.in-Ok.is) in
    (omega (arith, k), omega (arith, k, c.loop-number.invariant))
