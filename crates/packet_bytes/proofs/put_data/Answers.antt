use mathlib.Core.Path.{sym, ap, ◌∙◌}
use Rattle.frame.specs.Sums.{sum_width}
use Rattle.packet_bytes.proofs.Puts.{width_put, unsummed_put}
use Rattle.packet_bytes.proofs.put_data.Goals as goal

pub returns-in-Some : goal.returns-in-Some
returns-in-Some c =
    width_put _ _ _ _ _ _ _ _ _ c.in-Some.ensures c.requires.0 c.requires.1 c.body_at-at.ensures.0 (c.sum_length.ensures.0 ∙ ap sum_width (sym c.in-Some.ensures))
    c.put_body_and_filler.ensures c.put_data_sum.ensures

pub returns-in_default : goal.returns-in_default
returns-in_default c =
    unsummed_put _ _ _ _ _ _ _ c.in_default.ensures c.requires.0 c.requires.1 c.body_at-at.ensures.0 c.sum_length.ensures.0 c.put_body_and_filler.ensures
