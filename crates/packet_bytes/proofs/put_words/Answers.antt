use Rattle.packet_bytes.proofs.Puts.{words_put}
use Rattle.packet_bytes.proofs.put_words.Goals as goal

pub returns : goal.returns
returns c =
    words_put _ _ _ _ _ _ _ _ _ _ c.requires
    c.put_sync.ensures c.put.ensures c.put-2.ensures c.put-3.ensures c.put_bytes.ensures c.put48.ensures
