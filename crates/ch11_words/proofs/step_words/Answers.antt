use mathlib.Core.Path.{sym, ap, ◌∙◌}
use Rattle.builder.specs.Build.{step_told}
use Rattle.ch11_words.specs.Words.{draft_words}
use Rattle.ch11_words.proofs.step_words.Goals as goal

pub returns-in-Ok : goal.returns-in-Ok
unfolding draft_words
returns-in-Ok c = c.put_state.ensures ∙ sym (ap (λ s. draft_words (step_told s)) c.in-Ok.is)

pub returns-in-Err : goal.returns-in-Err
unfolding draft_words
returns-in-Err c =
    c.put_state-in-Err.ensures ∙ rw c.put_refusal.ensures (sym (ap (λ s. draft_words (step_told s)) c.in-Err.is))
