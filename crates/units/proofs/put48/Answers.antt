use Rattle.units.proofs.Writes.{put_two}
use Rattle.units.proofs.put48.Goals as goal

pub returns : goal.returns
returns c =
    put_two 4 2 c.args.s.now c.put.new.s _ c.args.at c.args.v c.requires c.put.ensures c.put-2.ensures
