use Rattle.std.proofs.Common.{not, refl, ap, ◌∙◌, le-ltb, lt-ltb}
use Rattle.builder.proofs.Drafts.{denies, buf_kept}
use Rattle.builder.specs.Build.{open_step, buf_after}
use Rattle.units.proofs.Choices.{chosen, skipped}
use Rattle.builder.proofs.Draft.open.Goals as goal

pub returns-then-not-makes_body : goal.returns-then-not-makes_body
unfolding open_step
returns-then-not-makes_body c = record { value = denies _ _ _ c.refuse.ensures ∙ chosen _ _ (ap not c.makes_body.ensures) (ap not c.if-not-makes_body.true); buf_after = buf_kept _ _ _ _ _ refl }

pub returns-then-buf-lt4 : goal.returns-then-buf-lt4
unfolding open_step
returns-then-buf-lt4 c = record { value = denies _ _ _ c.no_room.ensures ∙ skipped _ _ _ (ap not c.makes_body.ensures) (ap not c.if-not-makes_body.false) (chosen _ _ refl (lt-ltb _ _ c.if-buf-lt4.true)); buf_after = buf_kept _ _ _ _ _ refl }

pub returns : goal.returns
unfolding open_step buf_after
returns c =
    record { value = skipped _ _ _ (ap not c.makes_body.ensures) (ap not c.if-not-makes_body.false) (skipped _ _ _ refl (le-ltb _ _ c.if-buf-lt4.false) refl); buf_after = c.put.ensures ∙ simp c.open_word.ensures }
