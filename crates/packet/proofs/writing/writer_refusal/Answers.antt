use native.Mathlib.Omega.{arith}
use Rattle.frame.specs.Table.{first}
use Rattle.packet.specs.Write.{writer_lines, writer_refusal}
use Rattle.frame.proofs.Frames.{value_numbered}
use Rattle.frame.proofs.Tables.{stage_none, stage_told}
use Rattle.packet.proofs.writing.writer_refusal.Goals as goal

pub returns-then-not-in_range : goal.returns-then-not-in_range
unfolding writer_refusal writer_lines first
returns-then-not-in_range c = grind arith

pub returns-in_err-value_refusal : goal.returns-in_err-value_refusal
unfolding writer_refusal writer_lines first
returns-in_err-value_refusal c = grind (arith, stage_told)

pub returns-then-not-secondary_time_ok : goal.returns-then-not-secondary_time_ok
unfolding writer_refusal writer_lines first
returns-then-not-secondary_time_ok c = grind (arith, stage_none, value_numbered)

pub returns : goal.returns
unfolding writer_refusal writer_lines first
returns c = grind (arith, stage_none, value_numbered)
