use Rattle.std.proofs.Common.{refl, sym, ap, ◌∙◌, Err}
use Rattle.std.proofs.lemmas.Result.{err_from_is_err_and}
use Rattle.renewal.specs.Renewal.{table_added, store_added}
use Rattle.renewal.proofs.Passing.{taken, barred_back}
use Rattle.renewal.proofs.Adding.{table_anywhere, store_own, add_small, add_refused, add_taken}
use Rattle.renewal.proofs.add.Goals as goal

pub returns-then-store-lt65536 : goal.returns-then-store-lt65536
unfolding table_added store_added
returns-then-store-lt65536 c = record { value = add_small _ _ _ _ _ _ _ _ c.if-store-lt65536.true c.store_small.ensures; table_after = refl; store_after = refl }

pub slice_bounds-put_packet-count : goal.slice_bounds-put_packet-count
slice_bounds-put_packet-count c =
    (taken _ _ _ _ _ (sym c.in_ok-n.was ∙ c.pass_window.ensures)).ordered

pub slice_bounds-put_packet-start : goal.slice_bounds-put_packet-start
slice_bounds-put_packet-start c =
    (taken _ _ _ _ _ (sym c.in_ok-n.was ∙ c.pass_window.ensures)).ordered

pub slice_bounds-put_packet-end : goal.slice_bounds-put_packet-end
slice_bounds-put_packet-end c =
    (taken _ _ _ _ _ (sym c.in_ok-n.was ∙ c.pass_window.ensures)).within

pub put_packet-requires : goal.put_packet-requires
put_packet-requires c =
    let got = taken _ _ _ _ _ (sym c.in_ok-n.was ∙ c.pass_window.ensures) in
    (c.if-store-lt65536.false, got.header, got.there)

pub returns-in_err-n : goal.returns-in_err-n
unfolding table_added store_added
returns-in_err-n c =
    let f = err_from_is_err_and c.from_residual.result c.from_residual.ensures.1 in
    let is = f.1 ∙ ap Err f.2 in
    record {
      value = is ∙ add_refused _ _ _ _ _ _ _ c.if-store-lt65536.false _ (barred_back _ _ _ _ _ (sym c.in_err-n.was ∙ c.pass_window.ensures));
      table_after = rw is refl;
      store_after = rw is refl;
    }

pub returns : goal.returns
returns c =
    let got = taken _ _ _ _ _ (sym c.in_ok-n.was ∙ c.pass_window.ensures) in
    record { value = add_taken _ _ _ _ _ _ _ c.if-store-lt65536.false _ _ got c.put_packet.ensures.value; table_after = table_anywhere _ _ _ _ _ _ _ c.put_packet.ensures.table_after; store_after = store_own _ _ _ _ _ got.own c.put_packet.ensures.store_after }
