use Rattle.std.proofs.Common.{sym, ◌∙◌, ltb, ◌||◌, length}
use Rattle.builder.specs.Build.{close_step, counter_bytes}
use Rattle.ch11.specs.Given.{draft_of}
use Rattle.ch11.proofs.Giving.{over_close, refused_as, step_as, taken, not_taken}
use Rattle.ch11.proofs.given.close_given.Goals as goal

pub returns-in-None : goal.returns-in-None
returns-in-None c =
    let d = draft_of c.args.ws in
    let over = not_taken (ltb 255 d.kind || ltb 255 d.rule) d (sym c.draft_of.ensures ∙ c.in-None.is) in
    let r = refused_as _ _ _ _ _ _ _ _ c.denied_words.ensures c.refuse.ensures (over_close _ _ over) in
    record { value = r.0; buf_after = r.1 }

pub returns-in-Some : goal.returns-in-Some
returns-in-Some c =
    let d = draft_of c.args.ws in
    let same = (taken (ltb 255 d.kind || ltb 255 d.rule) d _ (sym c.draft_of.ensures ∙ c.in-Some.is)).1 in
    let r = step_as (λ d. close_step d (length c.args.buf.now)) (λ _. 0) (λ d. counter_bytes d) _ _ _ _ _ _ same c.close.ensures.value c.step_words.ensures c.close.ensures.buf_after in
    record { value = r.0; buf_after = r.1 }
