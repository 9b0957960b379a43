use mathlib.Core.Path.{refl, ap, ◌∙◌}
use Rattle.packet.specs.Messages.{message_told}
use Rattle.ch11_words.specs.Words.{message_words}
use Rattle.ch11.proofs.ch11_message.Goals as goal

pub returns : goal.returns
returns c = (c.message_words.ensures ∙ ap (λ a. message_words (message_told a)) c.message.ensures, refl)
