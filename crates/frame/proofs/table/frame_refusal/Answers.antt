use native.Mathlib.Omega.{arith}
use Rattle.frame.specs.Table.{frame_lines}
use Rattle.frame.proofs.Tables.{stage_told, stage_some, stage_none}
use Rattle.frame.proofs.Frames.{sound, head_enough, head_numbered, value_numbered, whole_numbered, secondary_numbered}
use Rattle.frame.proofs.Stages.{not_whole, is_whole}
use Rattle.frame.proofs.table.frame_refusal.Goals as goal

-- each return: the parts that were passed give 0, and the table's answer is that of the next
pub returns-in_err-head_refusal : goal.returns-in_err-head_refusal
unfolding frame_lines
returns-in_err-head_refusal c = grind (arith, stage_told)

pub value_refusal_in-requires : goal.value_refusal_in-requires
value_refusal_in-requires c = grind (arith, head_enough)

pub returns-in_err-value_refusal_in : goal.returns-in_err-value_refusal_in
unfolding frame_lines
returns-in_err-value_refusal_in c = grind (arith, stage_none, stage_told, head_numbered)

pub read-requires : goal.read-requires
read-requires c = grind (arith, head_enough)

pub returns-then-w-read : goal.returns-then-w-read
unfolding frame_lines
returns-then-w-read c = grind (arith, stage_none, stage_some, head_numbered, value_numbered, not_whole)

pub invariant_of-framed : goal.invariant_of-framed
invariant_of-framed c = grind (arith, sound, is_whole)

pub returns-in_err-secondary_refusal : goal.returns-in_err-secondary_refusal
unfolding frame_lines
returns-in_err-secondary_refusal c = grind (arith, stage_none, stage_told, head_numbered, value_numbered, whole_numbered, is_whole)

pub returns : goal.returns
unfolding frame_lines
returns c = grind (arith, stage_none, head_numbered, value_numbered, whole_numbered, secondary_numbered, is_whole)
