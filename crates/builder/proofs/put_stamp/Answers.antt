use Rattle.units.proofs.Writes.{splice_none}
use Rattle.units.specs.Units.{bytes_of}
use Rattle.body.specs.Walk.{stamp_length}
use Rattle.std.proofs.Common.{◌≡◌, sym, ◌∙◌, arith}
use Rattle.builder.proofs.put_stamp.Goals as goal

pub put-requires : goal.put-requires
unfolding stamp_length
put-requires c = let e : stamp_length c.args.form ≡ 8 = simp c.in-Stamped.is in omega arith

pub returns-in-Stamped : goal.returns-in-Stamped
unfolding stamp_length
returns-in-Stamped c = c.put.ensures ∙ simp c.in-Stamped.is

pub returns-in-Plain : goal.returns-in-Plain
unfolding stamp_length bytes_of
returns-in-Plain c = rw c.in-Plain.is (sym (splice_none c.args.buf.now c.args.at))
