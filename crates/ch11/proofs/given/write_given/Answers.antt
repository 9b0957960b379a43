use Rattle.std.proofs.Common.{refl, sym, ◌∙◌, not}
use Rattle.packet.proofs.Writes.{out_kept}
use Rattle.ch11.specs.Given.{fields_of, fields_fit}
use Rattle.ch11.proofs.Giving.{unfit, fit_as, taken, not_taken}
use Rattle.ch11.proofs.given.write_given.Goals as goal

pub returns-in-None : goal.returns-in-None
returns-in-None c =
    let f = fields_of c.args.ws.now in
    let wide = not_taken (not (fields_fit f)) f (sym c.fields_of.ensures ∙ c.in-None.is) in
    record { value = unfit f _ _ _ _ refl wide c.refuse.ensures; out_after = out_kept _ _ _ _ refl }

pub returns-in-Some : goal.returns-in-Some
returns-in-Some c =
    let f = fields_of c.args.ws.now in
    let narrow = taken (not (fields_fit f)) f _ (sym c.fields_of.ensures ∙ c.in-Some.is) in
    let r = fit_as _ f _ _ _ _ _ _ refl narrow.0 narrow.1 c.write_packet.ensures.value c.write_packet.ensures.out_after in
    record { value = r.0; out_after = r.1 }
