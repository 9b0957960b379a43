use Rattle.units.proofs.Numbers.{bytes_of_mod}
use Rattle.builder.proofs.Drafts.{draft_facts, denies, buf_kept}
use Rattle.builder.specs.Build.{close_step, buf_after}
use Rattle.std.proofs.Common.{length, sym, refl, ◌∙◌, arith, eq-eqb, ne_eqb}
use Rattle.units.proofs.Choices.{chosen, skipped}
use Rattle.builder.proofs.Draft.close.Goals as goal

pub returns-then-is_bad : goal.returns-then-is_bad
unfolding close_step
returns-then-is_bad c = record { value = denies _ _ _ c.refuse.ensures ∙ chosen _ _ c.is_bad.ensures c.if-is_bad.true; buf_after = buf_kept _ _ _ _ _ refl }

pub returns-then-self-eq4 : goal.returns-then-self-eq4
unfolding close_step
returns-then-self-eq4 c = record {
  value = denies _ _ _ c.fault.ensures
      ∙ skipped _ _ _ c.is_bad.ensures c.if-is_bad.false (chosen _ _ refl (eq-eqb _ _ c.if-self-eq4.true));
  buf_after = buf_kept _ _ _ _ _ refl;
}

pub put-requires : goal.put-requires
put-requires c =
    let a = c.args in
    let f = draft_facts a.self (length a.buf.now) (sym c.is_bad.ensures ∙ c.if-is_bad.false) in
    omega (arith, f.0, f.1)

pub returns-then-counts_blocks : goal.returns-then-counts_blocks
unfolding close_step buf_after
returns-then-counts_blocks c =
    let d = c.args.self in
    let counted = sym c.counts_blocks.ensures ∙ c.if-counts_blocks.true in
    record { value = skipped _ _ _ c.is_bad.ensures c.if-is_bad.false (skipped _ _ _ refl (ne_eqb _ _ c.if-self-eq4.false) refl); buf_after = c.put.ensures ∙ simp (bytes_of_mod 2 d.blocks, counted) }

pub returns-else-counts_blocks : goal.returns-else-counts_blocks
unfolding close_step buf_after
returns-else-counts_blocks c =
    let counted = sym c.counts_blocks.ensures ∙ c.if-counts_blocks.false in
    record { value = skipped _ _ _ c.is_bad.ensures c.if-is_bad.false (skipped _ _ _ refl (ne_eqb _ _ c.if-self-eq4.false) refl); buf_after = simp counted }
