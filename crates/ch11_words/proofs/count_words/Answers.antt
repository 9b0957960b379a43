use mathlib.Core.Path.{sym, ap, ◌∙◌}
use Rattle.packet.specs.Messages.{list_told}
use Rattle.packet.specs.Write.{write_told}
use Rattle.renewal.specs.Renewal.{add_told}
use Rattle.ch11_words.specs.Words.{list_words, written_words, added_words}
use Rattle.ch11_words.proofs.count_words.Goals as goal

pub returns-in-Ok : goal.returns-in-Ok
unfolding list_words written_words added_words
returns-in-Ok c =
    record {
      list = sym (ap (λ a. list_words (list_told a)) c.in-Ok.is);
      written = sym (ap (λ a. written_words (write_told a)) c.in-Ok.is);
      added = sym (ap (λ a. added_words (add_told a)) c.in-Ok.is);
    }

pub returns-in-Err : goal.returns-in-Err
unfolding list_words written_words added_words
returns-in-Err c =
    record {
      list = c.put_refusal.ensures ∙ sym (ap (λ a. list_words (list_told a)) c.in-Err.is);
      written = c.put_refusal.ensures ∙ sym (ap (λ a. written_words (write_told a)) c.in-Err.is);
      added = c.put_refusal.ensures ∙ sym (ap (λ a. added_words (add_told a)) c.in-Err.is);
    }
