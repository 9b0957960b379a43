use Rattle.std.proofs.Common.{sym, ◌∙◌, arith}
use Rattle.packet.proofs.Passes.{inside_says}
use Rattle.packet.proofs.window_bytes.Goals as goal

pub slice_bounds-result-count : goal.slice_bounds-result-count
slice_bounds-result-count c =
    let i = inside_says _ _ _ _ (sym c.inside.ensures ∙ c.if-inside.true) in
    omega (arith, i.ordered, i.within)

pub slice_bounds-result-start : goal.slice_bounds-result-start
slice_bounds-result-start c =
    let i = inside_says _ _ _ _ (sym c.inside.ensures ∙ c.if-inside.true) in
    omega (arith, i.ordered, i.within)

pub slice_bounds-result-end : goal.slice_bounds-result-end
slice_bounds-result-end c =
    let i = inside_says _ _ _ _ (sym c.inside.ensures ∙ c.if-inside.true) in
    omega (arith, i.ordered, i.within)
