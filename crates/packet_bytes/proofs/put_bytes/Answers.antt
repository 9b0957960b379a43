use mathlib.Core.List.{◌∷◌, []}
use lib.Seq.{sets-eq}
use Rattle.packet_bytes.proofs.put_bytes.Goals as goal

pub returns : goal.returns
returns c =
    let f = c.args.fields in
    sets-eq (f.version ∷ f.sequence ∷ f.flags ∷ f.kind ∷ []) c.args.out.now 12 c.requires
