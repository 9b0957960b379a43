use Rattle.body.specs.Walk.{open_body}
use Rattle.body.specs.Answers.{check_body, tab}
use Rattle.body.specs.inner.Heads.{heads, all_whole}
use Rattle.body.proofs.ChannelWords.{type_opens}
use Rattle.body.proofs.Heads.{counted}
use mathlib.Core.Path.{refl, sym, ◌∙◌}
use Rattle.body.proofs.list.Messages.of.Goals as goal

pub invariant_of-result : goal.invariant_of-result
unfolding all_whole
invariant_of-result c = record { whole = refl }

pub returns-in_default : goal.returns-in_default
unfolding check_body open_body heads tab
returns-in_default c = (simp c.in_default.ensures, refl)

pub form_in-requires : goal.form_in-requires
form_in-requires c = (counted _ _ _ _ (type_opens c.in-Ok.opened) (sym c.walk_body.ensures ∙ c.in_ok-left.was)).long

pub invariant_of-result-2 : goal.invariant_of-result-2
invariant_of-result-2 c =
    record { whole = rw (c.form_in.ensures, ← c.in-Ok.ensures) (counted _ _ _ _ (type_opens c.in-Ok.opened) (sym c.walk_body.ensures ∙ c.in_ok-left.was)).whole }

pub returns : goal.returns
returns c =
    let has = sym c.walk_body.ensures ∙ c.in_ok-left.was in
    rw (c.form_in.ensures, ← c.in-Ok.ensures) (has, (counted _ _ _ _ (type_opens c.in-Ok.opened) has).are)
