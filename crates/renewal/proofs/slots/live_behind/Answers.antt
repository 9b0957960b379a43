use Rattle.std.proofs.Common.{◌≡◌, ℕ, drop, position, min, ap, sym, ◌∙◌}
use Rattle.std.proofs.lemmas.List.{take_rest, drop_min}
use Rattle.renewal.specs.Table.{live}
use Rattle.renewal.proofs.slots.live_behind.Goals as goal

pub returns : goal.returns
returns c =
    let t = c.args.table.now in
    c.first_live.ensures
    ∙ ap (position live) (take_rest t c.min.result ∙ ap (λ (n : ℕ). drop n t) (c.min.ensures ∙ ap (min c.args.from) (sym c.told-table)) ∙ drop_min c.args.from t)
