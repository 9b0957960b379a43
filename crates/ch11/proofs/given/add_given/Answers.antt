use Rattle.std.proofs.Common.{sym, ◌∙◌, ltb, ◌||◌}
use Rattle.ch11.specs.Given.{draft_of}
use Rattle.ch11.proofs.Giving.{over_add, refused_as, add_as, taken, not_taken}
use Rattle.ch11.proofs.given.add_given.Goals as goal

pub returns-in-None : goal.returns-in-None
returns-in-None c =
    let d = draft_of c.args.ws in
    let over = not_taken (ltb 255 d.kind || ltb 255 d.rule) d (sym c.draft_of.ensures ∙ c.in-None.is) in
    let r = refused_as _ _ _ _ _ _ _ _ c.denied_words.ensures c.refuse.ensures (over_add _ _ _ _ _ over) in
    record { value = r.0; buf_after = r.1 }

pub returns-in-Some : goal.returns-in-Some
returns-in-Some c =
    let d = draft_of c.args.ws in
    let same = (taken (ltb 255 d.kind || ltb 255 d.rule) d _ (sym c.draft_of.ensures ∙ c.in-Some.is)).1 in
    let r = add_as _ _ _ _ _ _ _ c.args.bytes.now _ _ _ same c.add.ensures.value c.step_words.ensures c.add.ensures.buf_after c.bytes_beside-n.ensures.value in
    record { value = r.0; buf_after = r.1 }
