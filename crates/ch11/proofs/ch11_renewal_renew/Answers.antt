use Rattle.std.specs.Prelude.{Ok}
use mathlib.Core.Path.{sym, ap, ◌∙◌}
use lib.ListN.{get_or}
use Rattle.renewal.specs.Table.{slot_of}
use Rattle.renewal.specs.Renewal.{table_renewed, renew_told}
use Rattle.ch11_words.specs.Words.{renewed_words}
use Rattle.ch11.proofs.ch11_renewal_renew.Goals as goal

pub returns-in-Ok-Lives : goal.returns-in-Ok-Lives
unfolding renewed_words
returns-in-Ok-Lives c =
    let read = sym (c.in-Ok-Lives.is ∙ ap Ok c.in-Ok-Lives.field-0-is) ∙ c.renew.ensures.value in (
      (c.lives_words.ensures ∙ ap (λ x. renewed_words (renew_told x)) read, sym (ap (λ ws. get_or ws 0 0) c.lives_words.ensures)),
      c.renew.ensures.table_after ∙ ap (λ x. table_renewed x c.args.table.now (slot_of c.args.recording c.args.place c.args.table.now)) c.renew.ensures.value,
    )

pub returns-in-Ok-Dropped : goal.returns-in-Ok-Dropped
unfolding renewed_words
returns-in-Ok-Dropped c =
    let read = sym (c.in-Ok-Dropped.is ∙ ap Ok c.in-Ok-Dropped.field-0-is) ∙ c.renew.ensures.value in (
      (c.dropped_words.ensures ∙ ap (λ x. renewed_words (renew_told x)) read, sym (ap (λ ws. get_or ws 0 0) c.dropped_words.ensures)),
      c.renew.ensures.table_after ∙ ap (λ x. table_renewed x c.args.table.now (slot_of c.args.recording c.args.place c.args.table.now)) c.renew.ensures.value,
    )

pub returns-in-Err : goal.returns-in-Err
unfolding renewed_words
returns-in-Err c =
    let read = sym c.in-Err.is ∙ c.renew.ensures.value in (
      (c.unrenewed_words.ensures ∙ ap (λ x. renewed_words (renew_told x)) read, sym (ap (λ ws. get_or ws 0 0) c.unrenewed_words.ensures)),
      c.renew.ensures.table_after ∙ ap (λ x. table_renewed x c.args.table.now (slot_of c.args.recording c.args.place c.args.table.now)) c.renew.ensures.value,
    )
