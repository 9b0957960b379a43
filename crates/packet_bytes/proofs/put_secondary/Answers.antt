use Rattle.packet_bytes.proofs.Puts.{secondary_put, secondary_none}
use Rattle.packet_bytes.proofs.put_secondary.Goals as goal

pub returns-then-flags-eq1 : goal.returns-then-flags-eq1
returns-then-flags-eq1 c =
    secondary_put c.args.flags _ _ c.args.out.now _ _ _ c.if-flags-eq1.true c.requires
    c.put.ensures c.put-then-flags-eq1.ensures c.header_sum-sum.ensures c.put-then-flags-eq1-2.ensures

pub returns-else-flags-eq1 : goal.returns-else-flags-eq1
returns-else-flags-eq1 c = secondary_none _ _ _ c.if-flags-eq1.false
