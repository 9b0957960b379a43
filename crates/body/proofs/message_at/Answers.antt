use Rattle.std.specs.Prelude.{Err}
use Rattle.std.proofs.lemmas.Result.{err_from_is_err_and}
use Rattle.body.specs.Answers.{pick_counted, message_at}
use Rattle.std.proofs.lemmas.Iterator.Adapters.{option_map_id}
use Rattle.std.proofs.lemmas.Iterator.Consumers.{YieldsList-from_first, nth_from_yields_List}
use Rattle.body.specs.declared.Message.{Message}
use Rattle.body.specs.declared.list.Messages.{Messages}
use Rattle.body.specs.inner.Heads.{heads}
use Rattle.body.proofs.Reading.{message_missing, message_nth}
use native.Mathlib.Omega.{arith}
use mathlib.Core.Path.{sym, ap, ◌∙◌}
use Rattle.body.proofs.message_at.Goals as goal

pub returns-then-left-number : goal.returns-then-left-number
returns-then-left-number c =
    sym (message_missing _ _ _ _ c.in_ok-all.ensures.0 _ (omega (arith, c.left.ensures, c.if-left-number.true)))

pub returns : goal.returns
returns c =
    let yields = YieldsList-from_first (λ (m : Message). m) (λ (s : Messages). heads s.form s.body.now s.at s.left) {s = c.in_ok-all.all} _ c.in_ok-all.ensures.1 in
    message_nth _ _ _ _ c.in_ok-all.ensures.0 _ _ (sym (option_map_id _) ∙ nth_from_yields_List c.nth.result c.nth.new.self c.args.number c.nth.ensures.ran yields)

pub returns-in_err-all : goal.returns-in_err-all
unfolding message_at pick_counted
returns-in_err-all c =
    let f = err_from_is_err_and c.from_residual.result c.from_residual.ensures.1 in
    f.1 ∙ ap Err f.2 ∙ simp c.in_err-all.ensures
