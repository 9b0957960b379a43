use Prim.Native.Nat.{◌-◌}
use Rattle.recording.proofs.Readings.{Tally}
use Rattle.recording.proofs.read_packets.Given as goal

abbrev pub invariant-loop-at : goal.invariant-loop-at
invariant-loop-at l = Tally l.buf l.start l.end l.base l.accepted l.at

abbrev pub decreases-loop-at : goal.decreases-loop-at
decreases-loop-at l = l.end - l.at
