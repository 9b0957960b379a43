use Rattle.std.proofs.Common.{sym, ap, ◌∙◌, Err}
use Rattle.std.proofs.lemmas.Result.{err_from_is_err_and}
use Rattle.packet.proofs.Answers.{list_kept}
use Rattle.packet.proofs.Passes.{inside_says, list_in, window_reach, list_outside, list_inside, list_says_no, list_says_yes, after_yes, after_no}
use Rattle.packet.proofs.list_messages.Goals as goal

pub returns-in_err-w : goal.returns-in_err-w
returns-in_err-w c =
    let no = c.in_err-w.ensures.outside in
    let f = err_from_is_err_and c.from_residual.result c.from_residual.ensures.1 in
    let is = f.1 ∙ ap Err f.2 in
    record {
      value = is ∙ list_says_no _ _ _ _ _ _ _ _ (list_outside _ _ _ _ _ _ no.0) no.1;
      starts_after = rw is (list_kept _ _ _);
      lengths_after = rw is (list_kept _ _ _);
    }

pub recorded-requires : goal.recorded-requires
recorded-requires c =
    let is = c.in_ok-w.ensures.inside in
    let said = rw (is.1, is.2) at c.list_bytes.ensures.value in
    let r = window_reach _ _ _ _ _ (inside_says _ _ _ _ is.0) (list_in _ _ _ _ _ (sym said ∙ c.in-Err.is)) in
    record { start_le_place = r.0; start_bound = r.1 }

pub returns-in-Ok : goal.returns-in-Ok
returns-in-Ok c =
    let is = c.in_ok-w.ensures.inside in
    let said = rw (is.1, is.2) at c.list_bytes.ensures.value in
    record {
      value = list_says_yes _ _ _ _ _ _ _ (list_inside _ _ _ _ _ _ is.0 ∙ sym said ∙ c.in-Ok.is);
      starts_after = rw is.1 at c.list_bytes.ensures.starts_after ∙ after_yes _ _ c.in-Ok.is;
      lengths_after = rw is.1 at c.list_bytes.ensures.lengths_after ∙ after_yes _ _ c.in-Ok.is;
    }

pub returns-in-Err : goal.returns-in-Err
returns-in-Err c =
    let is = c.in_ok-w.ensures.inside in
    let said = rw (is.1, is.2) at c.list_bytes.ensures.value in
    record {
      value = list_says_no _ _ _ _ _ _ _ _ (list_inside _ _ _ _ _ _ is.0 ∙ sym said ∙ c.in-Err.is) c.recorded.ensures;
      starts_after = rw is.1 at c.list_bytes.ensures.starts_after ∙ after_no _ _ _ c.in-Err.is;
      lengths_after = rw is.1 at c.list_bytes.ensures.lengths_after ∙ after_no _ _ _ c.in-Err.is;
    }
