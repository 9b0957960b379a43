use Rattle.std.proofs.Common.{◌≡◌, ◌%◌, [], ◌∷◌, arith}
use lib.Seq.{sets-eq}
use Rattle.units.specs.Units.{bytes_of}
use Rattle.units.proofs.U8InBytes.put.Goals as goal

pub returns : goal.returns
unfolding bytes_of
returns c =
    let a = c.args in
    let whole : a.v % 256 ≡ a.v = omega (arith, c.ranges.v.fits) in
    rw whole (sets-eq (a.v ∷ []) a.s.now a.at (omega arith))
