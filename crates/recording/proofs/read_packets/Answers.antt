use mathlib.Core.Path.{sym, ◌∙◌}
use native.Mathlib.Omega.{arith}
use Rattle.recording.proofs.Readings.{tally_first, tally_ends, tally_passed, tally_stops, tally_end, tally_reach, tally_barred}
use Rattle.recording.proofs.read_packets.Goals as goal

pub loop-at-init : goal.loop-at-init
loop-at-init c = tally_first _ _ _ _ c.requires

pub slice_bounds-pass_bytes-end : goal.slice_bounds-pass_bytes-end
slice_bounds-pass_bytes-end c = c.loop-at.invariant.inside.within

pub invariant_of-pass_bytes : goal.invariant_of-pass_bytes
invariant_of-pass_bytes c =
    let ends = tally_ends _ _ _ _ _ _ c.loop-at.invariant in
    record { below = omega (arith, ends, c.ranges) }

pub overflow_add-accepted : goal.overflow_add-accepted
overflow_add-accepted c =
    omega (arith, c.loop-at.invariant.fewer, c.loop-at.invariant.within, c.ranges, c.loop-at-test.true)

pub overflow_add-at : goal.overflow_add-at
overflow_add-at c =
    let p = tally_passed _ _ _ _ _ _ c.loop-at.invariant c.in-Ok.length c.loop-at-test.true (sym c.in-Ok.is ∙ c.pass_bytes.ensures) in
    omega (arith, p.2, c.ranges)

pub loop-at-smaller : goal.loop-at-smaller
loop-at-smaller c =
    let p = tally_passed _ _ _ _ _ _ c.loop-at.invariant c.in-Ok.length c.loop-at-test.true
    (sym c.in-Ok.is ∙ c.pass_bytes.ensures) in
    omega (arith, p.1, p.2)

pub loop-at-preserved : goal.loop-at-preserved
loop-at-preserved c =
    (tally_passed _ _ _ _ _ _ c.loop-at.invariant c.in-Ok.length c.loop-at-test.true
    (sym c.in-Ok.is ∙ c.pass_bytes.ensures)).0

pub overflow_sub-result : goal.overflow_sub-result
overflow_sub-result c = omega (arith, c.loop-at.invariant.fewer)

pub overflow_add-result : goal.overflow_add-result
overflow_add-result c =
    let below = tally_reach _ _ _ _ _ _ c.loop-at.invariant _ c.loop-at.invariant.within in
    omega (arith, below)

pub recorded-requires : goal.recorded-requires
recorded-requires c =
    let r = tally_barred _ _ _ _ _ _ c.loop-at.invariant c.in-Err.refusal (sym c.in-Err.is ∙ c.pass_bytes.ensures) in
    record { start_le_place = r.0; start_bound = r.1 }

pub returns-in-Err : goal.returns-in-Err
returns-in-Err c =
    tally_stops _ _ _ _ _ _ c.loop-at.invariant c.in-Err.refusal _ c.loop-at-test.true
    (sym c.in-Err.is ∙ c.pass_bytes.ensures) c.recorded.ensures

pub overflow_sub-result-2 : goal.overflow_sub-result-2
overflow_sub-result-2 c = omega (arith, c.loop-at.invariant.fewer)

pub overflow_add-result-2 : goal.overflow_add-result-2
overflow_add-result-2 c =
    let below = tally_reach _ _ _ _ _ _ c.loop-at.invariant _ c.loop-at.invariant.within in
    omega (arith, below)

pub returns : goal.returns
returns c = tally_end _ _ _ _ _ _ c.loop-at.invariant _ c.loop-at-test.false c.no_refusal.ensures
