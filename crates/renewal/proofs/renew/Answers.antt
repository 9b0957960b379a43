use Rattle.std.specs.Prelude.{Err}
use Rattle.std.proofs.lemmas.Result.{err_from_is_err_and}
use mathlib.Core.Path.{◌≡◌, refl, sym, ap, ◌∙◌}
use Prim.Native.Nat.{◌<◌}
use native.Mathlib.Omega.{arith}
use lib.ListN.{length, get_or}
use Rattle.std.proofs.lemmas.List.{get_or_default}
use Rattle.renewal.specs.Table.{length_of, entry}
use Rattle.renewal.specs.Renewal.{table_renewed}
use Rattle.renewal.proofs.Renewing.{renew_small, renew_none, renew_outside, renew_judged}
use Rattle.renewal.proofs.Seeking.{slot_found, slot_none}
use Rattle.renewal.proofs.renew.Goals as goal

pub returns-then-store-lt65536 : goal.returns-then-store-lt65536
unfolding table_renewed
returns-then-store-lt65536 c = record { value = renew_small _ _ _ _ _ _ _ _ c.if-store-lt65536.true c.store_small.ensures; table_after = refl }

pub returns-in_default : goal.returns-in_default
unfolding table_renewed
returns-in_default c =
    record {
      value = renew_none _ _ _ _ _ _ _ c.if-store-lt65536.false _ (slot_none _ c.told-table _ _ _ c.slot_of.ensures c.in_default.is) c.bar.ensures;
      table_after = refl;
    }

pub returns-in_err-window_bytes : goal.returns-in_err-window_bytes
unfolding table_renewed
returns-in_err-window_bytes c =
    let own = slot_found _ c.told-table _ _ _ c.slot_of.ensures _ c.in-Some.is in
    let no = c.in_err-window_bytes.ensures.outside in
    let f = err_from_is_err_and c.from_residual.result c.from_residual.ensures.1 in
    let is = f.1 ∙ ap Err f.2 in
    record {
      value = is ∙ renew_outside _ _ _ _ _ _ _ c.if-store-lt65536.false _ own.0 own.1 _ no.0 no.1;
      table_after = rw is refl;
    }

pub returns : goal.returns
returns c =
    let own = slot_found _ c.told-table _ _ _ c.slot_of.ensures _ c.in-Some.is in
    let low : c.in-Some.k < length c.args.table.now = omega (arith, c.told-table, own.1) in
    let row : length_of (entry c.args.table.now c.in-Some.k) ≡ get_or c.row.inside.words 3 0 =
    ap length_of (get_or_default _ _ _ _ low ∙ sym c.row.view_is) in
    record {
      value = renew_judged _ _ _ _ _ _ _ c.if-store-lt65536.false _ own.0 own.1 _
          c.in_ok-window_bytes.ensures.inside.0 (rw row c.judge-told.ensures);
      table_after = c.settle.ensures ∙ ap (table_renewed _ _) own.0;
    }
