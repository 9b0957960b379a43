use Rattle.packet_bytes.proofs.Puts.{head_put}
use Rattle.packet_bytes.proofs.put_header.Goals as goal

pub returns : goal.returns
returns c =
    head_put _ _ _ _ _ _ _ c.requires c.put_words.ensures c.header_sum-sum.ensures c.put.ensures
