use mathlib.Core.Path.{refl}
use Rattle.frame.proofs.Frames.{passed_sound}
use Rattle.frame.proofs.table.frame.Goals as goal

pub invariant_of-result : goal.invariant_of-result
invariant_of-result c = record { sound = passed_sound _ _ _ _ refl c.in_ok-frame_refusal.was c.frame_refusal.ensures }
