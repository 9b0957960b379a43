use Rattle.std.proofs.Common.{sym, ap, ◌∙◌, Err}
use Rattle.std.proofs.lemmas.Result.{err_from_is_err_and}
use Rattle.packet.proofs.Passes.{inside_says, message_in_lem, window_reach, message_outside, message_inside, message_says_no, message_says_yes}
use Rattle.packet.proofs.message.Goals as goal

pub returns-in_err-w : goal.returns-in_err-w
returns-in_err-w c =
    let no = c.in_err-w.ensures.outside in
    let f = err_from_is_err_and c.from_residual.result c.from_residual.ensures.1 in
    f.1 ∙ ap Err f.2 ∙ message_says_no _ _ _ _ _ _ _ (message_outside _ _ _ _ _ no.0) no.1

pub recorded-requires : goal.recorded-requires
recorded-requires c =
    let is = c.in_ok-w.ensures.inside in
    let said = rw (is.1, is.2) at c.message_bytes.ensures in
    let r = window_reach _ _ _ _ _ (inside_says _ _ _ _ is.0) (message_in_lem _ _ _ _ _ _ (sym said ∙ c.in-Err.is)) in
    record { start_le_place = r.0; start_bound = r.1 }

pub returns-in-Ok : goal.returns-in-Ok
returns-in-Ok c =
    let is = c.in_ok-w.ensures.inside in
    let said = rw (is.1, is.2) at c.message_bytes.ensures in
    message_says_yes _ _ _ _ _ _ (message_inside _ _ _ _ _ is.0 ∙ sym said ∙ c.in-Ok.is)

pub returns-in-Err : goal.returns-in-Err
returns-in-Err c =
    let is = c.in_ok-w.ensures.inside in
    let said = rw (is.1, is.2) at c.message_bytes.ensures in
    message_says_no _ _ _ _ _ _ _ (message_inside _ _ _ _ _ is.0 ∙ sym said ∙ c.in-Err.is)
    c.recorded.ensures
