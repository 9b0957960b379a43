use Rattle.std.proofs.Common.{sym, ap, ◌∙◌, Err}
use Rattle.std.proofs.lemmas.Result.{err_from_is_err_and}
use Rattle.packet.proofs.Passes.{inside_says, bytes_passed, pass_in, window_reach, pass_outside, pass_inside, read_barred, read_passed}
use Rattle.packet.proofs.read_packet.Goals as goal

pub returns-in_err-w : goal.returns-in_err-w
returns-in_err-w c =
    let no = c.in_err-w.ensures.outside in
    let f = err_from_is_err_and c.from_residual.result c.from_residual.ensures.1 in
    f.1 ∙ ap Err f.2 ∙ read_barred _ _ _ _ _ _ (pass_outside _ _ _ _ no.0) no.1

pub invariant_of-framed : goal.invariant_of-framed
invariant_of-framed c = record { sound = (bytes_passed _ _ _ (sym c.pass_bytes.ensures ∙ c.in-Ok.is)).sound }

pub recorded-requires : goal.recorded-requires
recorded-requires c =
    let is = c.in_ok-w.ensures.inside in
    let said = rw (is.1, is.2) at c.pass_bytes.ensures in
    let r = window_reach _ _ _ _ _ (inside_says _ _ _ _ is.0) (pass_in _ _ _ (sym said ∙ c.in-Err.is)) in
    record { start_le_place = r.0; start_bound = r.1 }

pub returns-in-Ok : goal.returns-in-Ok
returns-in-Ok c =
    let is = c.in_ok-w.ensures.inside in
    let said = rw (is.1, is.2) at c.pass_bytes.ensures in
    read_passed _ _ _ _ _ _ (pass_inside _ _ _ _ is.0 ∙ sym said ∙ c.in-Ok.is) (rw (is.1, is.2) at c.packet_in.ensures)

pub returns-in-Err : goal.returns-in-Err
returns-in-Err c =
    let is = c.in_ok-w.ensures.inside in
    let said = rw (is.1, is.2) at c.pass_bytes.ensures in
    read_barred _ _ _ _ _ _ (pass_inside _ _ _ _ is.0 ∙ sym said ∙ c.in-Err.is) c.recorded.ensures
