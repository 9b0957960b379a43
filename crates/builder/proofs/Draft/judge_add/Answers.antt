use Rattle.std.proofs.Common.{ℕ, sym, refl, ap, ◌∙◌, arith, le-ltb, lt-ltb}
use Rattle.terms.specs.Refusals.{needing, refused}
use Rattle.builder.proofs.Drafts.{draft_facts, block_facts, denies}
use Rattle.builder.specs.Build.{denied, draft_added, add_step}
use Rattle.units.proofs.Choices.{chosen, skipped}
use Rattle.builder.proofs.Draft.judge_add.Goals as goal

pub returns-then-is_bad : goal.returns-then-is_bad
unfolding add_step
returns-then-is_bad c =
    denies _ _ _ c.refuse.ensures
    ∙ chosen _ _ c.is_bad.ensures c.if-is_bad.true

pub returns-then-bad_block : goal.returns-then-bad_block
unfolding add_step
returns-then-bad_block c =
    denies _ _ _ c.refuse-then-bad_block.ensures
    ∙ skipped _ _ _ c.is_bad.ensures c.if-is_bad.false
    (chosen _ _ c.bad_block.ensures c.if-bad_block.true)

pub returns-then-bad_time : goal.returns-then-bad_time
unfolding add_step
returns-then-bad_time c =
    denies _ _ _ c.fault.ensures
    ∙ skipped _ _ _ c.is_bad.ensures c.if-is_bad.false
    (skipped _ _ _ c.bad_block.ensures c.if-bad_block.false
    (chosen _ _ c.bad_time.ensures c.if-bad_time.true))

pub returns-then-stray_time : goal.returns-then-stray_time
unfolding add_step
returns-then-stray_time c =
    denies _ _ _ c.refuse-then-stray_time.ensures
    ∙ skipped _ _ _ c.is_bad.ensures c.if-is_bad.false
    (skipped _ _ _ c.bad_block.ensures c.if-bad_block.false
    (skipped _ _ _ c.bad_time.ensures c.if-bad_time.false
    (chosen _ _ c.stray_time.ensures c.if-stray_time.true)))

pub used_after-used-requires : goal.used_after-used-requires
used_after-used-requires c =
    let a = c.args in
    let t = draft_facts a.self a.len (sym c.is_bad.ensures ∙ c.if-is_bad.false) in
    let u = block_facts a.self a.n (sym c.bad_block.ensures ∙ c.if-bad_block.false) in
    (omega (arith, t.0, c.requires), u.1)

pub returns-then-len-used : goal.returns-then-len-used
unfolding add_step
returns-then-len-used c =
    let e = c.used_after-used.ensures in
    let draft = c.args.self in
    denies _ _ _ c.no_room.ensures
    ∙ ap (λ (used : ℕ). denied (needing used (refused 16 0)) draft) e
    ∙ skipped _ _ _ c.is_bad.ensures c.if-is_bad.false
    (skipped _ _ _ c.bad_block.ensures c.if-bad_block.false
    (skipped _ _ _ c.bad_time.ensures c.if-bad_time.false
    (skipped _ _ _ c.stray_time.ensures c.if-stray_time.false
    (chosen _ _ refl (rw e at (lt-ltb _ _ c.if-len-used.true))))))

pub returns : goal.returns
unfolding add_step draft_added
returns c =
    let e = c.used_after-used.ensures in
    skipped _ _ _ c.is_bad.ensures c.if-is_bad.false
    (skipped _ _ _ c.bad_block.ensures c.if-bad_block.false
    (skipped _ _ _ c.bad_time.ensures c.if-bad_time.false
    (skipped _ _ _ c.stray_time.ensures c.if-stray_time.false
    (skipped _ _ _ refl (rw e at (le-ltb _ _ c.if-len-used.false)) (simp e)))))
