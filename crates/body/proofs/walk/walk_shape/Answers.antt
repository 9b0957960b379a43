use Rattle.std.specs.Prelude.{Err, Some, None}
use Rattle.std.proofs.lemmas.Result.{err_from_is_err_and}
use Rattle.body.proofs.Walking.{open_long}
use Rattle.body.proofs.Exactly.{check_shaped}
use Rattle.body.specs.Answers.{check_body}
use Rattle.body.specs.inner.Walks.{opened}
use borrow.Author.Rules.{rules}
use mathlib.Core.Path.{◌≡◌, sym, ap, ◌∙◌}
use Rattle.body.proofs.walk.walk_shape.Goals as goal

pub returns-in_err-shape : goal.returns-in_err-shape
unfolding check_body
returns-in_err-shape c =
    let none : c.open_body.result ≡ None = search rules in
    let wrong : c.in_err-shape.field-0.0 ≡ c.fault.result = search rules in
    let f = err_from_is_err_and c.from_residual.result c.from_residual.ensures.1 in
    f.1 ∙ ap Err (f.2 ∙ wrong ∙ c.fault.ensures) ∙ simp (sym c.open_body.ensures ∙ ap opened none)

pub count_blocks-requires : goal.count_blocks-requires
count_blocks-requires c =
    let some : c.open_body.result ≡ Some c.in_ok-shape.shape = search rules in
    open_long _ _ _ _ (sym c.open_body.ensures ∙ ap opened some)

pub returns : goal.returns
returns c =
    let some : c.open_body.result ≡ Some c.in_ok-shape.shape = search rules in
    c.count_blocks.ensures ∙ sym (check_shaped _ _ _ _ (sym c.open_body.ensures ∙ ap opened some))
