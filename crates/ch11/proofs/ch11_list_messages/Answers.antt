use mathlib.Core.Path.{refl, ap, ◌∙◌}
use Rattle.packet.specs.Read.{window}
use Rattle.packet.specs.Messages.{list_after, starts, lengths, list_told}
use Rattle.ch11_words.specs.Words.{list_words}
use Rattle.ch11.proofs.ch11_list_messages.Goals as goal

pub returns : goal.returns
returns c =
    let w = window c.args.buf.now c.args.start c.args.end in (
      (c.count_words.ensures.list ∙ ap (λ x. list_words (list_told x)) c.list_messages.ensures.value, refl),
      c.list_messages.ensures.starts_after ∙ ap (λ x. list_after x (starts w) c.args.starts.now) c.list_messages.ensures.value,
      c.list_messages.ensures.lengths_after ∙ ap (λ x. list_after x (lengths w) c.args.lengths.now) c.list_messages.ensures.value,
    )
