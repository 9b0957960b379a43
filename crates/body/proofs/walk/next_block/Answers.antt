use Rattle.body.specs.declared.Message.{Message}
use Rattle.body.specs.Walk.{head_at}
use Rattle.body.proofs.Blocks.{says_short}
use native.Mathlib.Omega.{arith}
use mathlib.Core.Path.{ap}
use Rattle.body.proofs.walk.next_block.Goals as goal

pub judge_block-requires : goal.judge_block-requires
unfolding head_at
judge_block-requires c =
    let e = c.head_at.ensures in
    (omega (arith, ap (λ (m : Message). m.start) e, c.stamp_length.ensures.0), says_short _ _ _ _ e)
