use Rattle.std.proofs.Common.{length, sym, refl, ◌∙◌}
use Rattle.std.proofs.lemmas.Result.{err_from_is_err_and}
use Rattle.builder.proofs.Drafts.{block_facts, add_done, buf_kept, buf_put}
use Rattle.builder.specs.Build.{grown}
use Rattle.builder.proofs.Draft.add.Goals as goal

pub put_block-requires : goal.put_block-requires
unfolding grown
put_block-requires c =
    let form = c.form.ensures in
    let a = c.args in
    let f = add_done a.self (length a.buf.now) a.time (length a.bytes.now) _ (sym c.judge_add.ensures ∙ c.in_ok-added.was) in
    ((block_facts a.self (length a.bytes.now) f.1).1, rw form f.4)

pub returns-clause-buf_after : goal.returns-clause-buf_after
returns-clause-buf_after c = rw (← c.form.ensures) c.put_block.ensures ∙ buf_put _ _ _ _ _ refl

pub returns-in_err-added-clause-buf_after : goal.returns-in_err-added-clause-buf_after
returns-in_err-added-clause-buf_after c =
    buf_kept _ _ _ _ _ (err_from_is_err_and c.from_residual.result c.from_residual.ensures.1).1
