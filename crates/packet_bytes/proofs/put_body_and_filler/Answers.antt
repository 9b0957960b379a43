use Rattle.packet_bytes.proofs.Puts.{filled_put}
use Rattle.packet_bytes.proofs.put_body_and_filler.Goals as goal

pub returns : goal.returns
returns c =
    filled_put _ _ _ _ _ _ c.requires.0 c.requires.1 c.copy_at.ensures c.clear_at.ensures
