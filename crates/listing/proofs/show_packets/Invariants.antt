use Rattle.std.proofs.Common.{◌≤◌, ◌-◌}
use Rattle.listing.proofs.show_packets.Given as goal

abbrev pub invariant-loop-number : goal.invariant-loop-number
invariant-loop-number g l = (l.at ≤ l.end) × (l.number ≤ l.at)

abbrev pub decreases-loop-number : goal.decreases-loop-number
decreases-loop-number g l = l.end - l.at
