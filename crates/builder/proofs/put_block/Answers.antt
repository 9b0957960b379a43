use Rattle.std.proofs.Common.{ℕ, ◌+◌, ap, arith}
use Rattle.builder.proofs.Drafts.{block_put}
use Rattle.builder.proofs.put_block.Goals as goal

pub put_stamp-requires : goal.put_stamp-requires
put_stamp-requires c = omega (arith, c.stamp_length.ensures.0)

pub put-requires : goal.put-requires
put-requires c = omega (arith, c.stamp_length.ensures.0)

pub copy_at-requires : goal.copy_at-requires
copy_at-requires c = omega (arith, c.stamp_length.ensures.0)

pub clear_at-requires : goal.clear_at-requires
clear_at-requires c = omega (arith, c.stamp_length.ensures.0)

pub returns : goal.returns
returns c =
    let e = c.stamp_length.ensures.0 in
    block_put c.args.form c.args.time c.args.upper c.args.bytes.now (c.args.at + c.stamp_length.result) c.args.at
    c.args.buf.now c.put_stamp.new.buf c.put.new.s c.copy_at.new.dst _ (ap (λ (n : ℕ). c.args.at + n) e) c.requires.1
    c.put_stamp.ensures c.put.ensures c.copy_at.ensures c.clear_at.ensures
