use native.Mathlib.Omega.{arith}
use lib.ListN.{length}
use Rattle.frame.specs.Contents.{contents}
use Rattle.terms.proofs.Numbers.{above_none}
use Rattle.packet.proofs.Writes.{write_refused, write_on, write_capped, written_room, out_kept, out_put}
use Rattle.packet.proofs.write_packet.Goals as goal

pub returns-in_err-map_err-clause-value : goal.returns-in_err-map_err-clause-value
returns-in_err-map_err-clause-value c = grind (arith, write_refused, above_none)

pub returns-in_err-map_err-clause-out_after : goal.returns-in_err-map_err-clause-out_after
returns-in_err-map_err-clause-out_after c = grind (arith, out_kept)

pub returns-in_err-written-clause-value : goal.returns-in_err-written-clause-value
returns-in_err-written-clause-value c = grind (arith, write_on (contents c.args.fields c.args.body.now) (length c.args.out.now) c.length_for-length.result)

pub returns-in_err-written-clause-out_after : goal.returns-in_err-written-clause-out_after
returns-in_err-written-clause-out_after c = grind (arith, out_kept)

pub put_packet-requires : goal.put_packet-requires
put_packet-requires c = grind (arith, write_capped, written_room)

pub returns-clause-value : goal.returns-clause-value
returns-clause-value c = grind (arith, write_on (contents c.args.fields c.args.body.now) (length c.args.out.now) c.length_for-length.result)

pub returns-clause-out_after : goal.returns-clause-out_after
returns-clause-out_after c = grind (arith, out_put)
