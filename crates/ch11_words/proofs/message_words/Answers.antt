use mathlib.Core.Path.{sym, ap, ◌∙◌}
use Rattle.packet.specs.Messages.{message_told}
use Rattle.ch11_words.specs.Words.{message_words}
use Rattle.ch11_words.proofs.message_words.Goals as goal

pub returns-in-Ok : goal.returns-in-Ok
unfolding message_words
returns-in-Ok c = sym (ap (λ a. message_words (message_told a)) c.in-Ok.is)

pub returns-in-Err : goal.returns-in-Err
unfolding message_words
returns-in-Err c = c.put_refusal.ensures ∙ sym (ap (λ a. message_words (message_told a)) c.in-Err.is)
