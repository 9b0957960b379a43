use mathlib.Core.Path.{refl, ap, ◌∙◌}
use Rattle.packet.specs.Read.{window}
use Rattle.renewal.specs.Renewal.{entry_in, own_bytes, table_added, store_added, add_told}
use Rattle.ch11_words.specs.Words.{added_words}
use Rattle.ch11.proofs.ch11_renewal_add.Goals as goal

pub returns : goal.returns
returns c = (
  (c.count_words.ensures.added ∙ ap (λ x. added_words (add_told x)) c.add.ensures.value, refl),
  c.add.ensures.table_after ∙ ap (λ x. table_added x c.args.table.now (entry_in c.args.recording c.args.place c.args.buf.now c.args.start c.args.end)) c.add.ensures.value,
  c.add.ensures.store_after ∙ ap (λ x. store_added x c.args.store.now (own_bytes (window c.args.buf.now c.args.start c.args.end))) c.add.ensures.value,
)
