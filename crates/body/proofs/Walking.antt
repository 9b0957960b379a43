-- Laws of a block and of the walk, on plain values.
use Rattle.std.specs.Prelude.{Result, Ok, Err}
use mathlib.Core.Path.{◌≡◌, refl, sym, ap, ◌∙◌}
use mathlib.Core.List.{List}
use mathlib.Core.Bool.{Bool, true, false, not}
use Prim.Native.Nat.{ℕ, zero, suc, ◌+◌, ◌-◌, ◌%◌, ◌≤◌, ◌<◌}
use native.Mathlib.Omega.{arith}
use native.Mathlib.Numerals.{add-one}
use lib.ListN.{length}
use lib.Dec.{ltb, leb, eqb}
use borrow.Author.Tests.{ltb-false, eqb-false, not-false, lt-leb, le-ltb, eq-eqb, ne_eqb}
use Rattle.units.specs.Units.{part, field, zeros}
use Rattle.units.specs.Choice.{pick}
use Rattle.units.proofs.Choices.{passed}
use Rattle.terms.specs.Times.{time_ok}
use Rattle.body.specs.Walk.{opens, shape_by, open_body, stamp_length, head_at, block_end, judge, block_at, spot, stop_at, ending, after, walk_from, walk, Opened, Carried, Shaped, Wrong}
use Rattle.terms.specs.Refusals.{fault}
use Rattle.terms.specs.declared.TimeRule.{TimeRule}
use Rattle.terms.specs.declared.Refusal.{Refusal}
use Rattle.body.specs.declared.Shape.{Shape}
use Rattle.body.specs.declared.Message.{Message}

-- ---- one block

broken_found : (f : Refusal) (m : Message) (next : ℕ) → ◌≡◌ {A = Result (Message × ℕ) Refusal} (Err f) (Ok (m, next)) → ⊥
broken_found f m next e = let z : ◌≡◌ {A = ℕ} 0 1 = cc in omega arith

found_same : (x y : Message × ℕ) → ◌≡◌ {A = Result (Message × ℕ) Refusal} (Ok x) (Ok y) → x ≡ y
found_same x y e = cc e

-- what a block that is found stands on
pub record Stands (sh : Shape) (bs : List ℕ) (at : ℕ) (m : Message) (next : ℕ) : Type 0 where
  pub head : at + stamp_length sh.form + 4 ≤ length bs
  pub says : m ≡ head_at sh.form bs at
  pub next_is : next ≡ block_end m
  pub fits : next ≤ length bs
  pub time_ok_lem : time_ok sh.rule m.time ≡ true
  pub some : 0 < m.length
  pub pad : zeros (part bs (m.start + m.length) (m.length % 2)) ≡ true

pub found_stands : (sh : Shape) (bs : List ℕ) (at : ℕ) (m : Message) (next : ℕ) → block_at sh bs at ≡ Ok (m, next) → Stands sh bs at m next
unfolding block_at judge
found_stands sh bs at m next e =
    let h = head_at sh.form bs at in
    let pad = zeros (part bs (h.start + h.length) (h.length % 2)) in
    let p₀ = passed (leb (length bs) at) _ _ _ (broken_found _ m next) e in
    let p₁ = passed (ltb (length bs) (at + stamp_length sh.form + 4)) _ _ _ (broken_found _ m next) p₀.1 in
    let p₂ = passed (ltb (length bs) (block_end h)) _ _ _ (broken_found _ m next) p₁.1 in
    let p₃ = passed (not (time_ok sh.rule h.time)) _ _ _ (broken_found _ m next) p₂.1 in
    let p₄ = passed (eqb h.length 0) _ _ _ (broken_found _ m next) p₃.1 in
    let p₅ = passed (not pad) _ _ _ (broken_found _ m next) p₄.1 in
    let found = found_same _ _ p₅.1 in
    let is : h ≡ m = ap (λ (p : Message × ℕ). p.0) found in
    let n : block_end h ≡ next = ap (λ (p : Message × ℕ). p.1) found in
    let some : eqb h.length 0 ≡ false = p₄.0 in
    record {
      head = ltb-false (length bs) (at + stamp_length sh.form + 4) p₁.0;
      says = sym is;
      next_is = sym n ∙ ap (λ (x : Message). block_end x) is;
      fits = omega (arith, ltb-false (length bs) (block_end h) p₂.0, n);
      time_ok_lem = rw (← is) (not-false (time_ok sh.rule h.time) p₃.0);
      some = rw (← is) (above h.length some);
      pad = rw (← is) (not-false pad p₅.0);
    }
  where
    above : (n : ℕ) → eqb n 0 ≡ false → 0 < n
    above n e = omega (arith, eqb-false n 0 e)

pub stands_found : (sh : Shape) (bs : List ℕ) (at : ℕ) (m : Message) (next : ℕ) → Stands sh bs at m next → block_at sh bs at ≡ Ok (m, next)
unfolding block_at judge
stands_found sh bs at m next s =
    let f : block_end m ≤ length bs = omega (arith, s.next_is, s.fits) in
    rw (← s.says)
    (simp (
      lt-leb (length bs) at (omega (arith, s.head)),
      le-ltb (length bs) (at + stamp_length sh.form + 4) s.head,
      le-ltb (length bs) (block_end m) f,
      s.time_ok_lem,
      ne_eqb m.length 0 (λ z. omega (arith, s.some, z)),
      s.pad,
      s.next_is,
    ))

-- ---- the walk

-- a block that is found ends within the body, behind its start
pub found_next : (sh : Shape) (bs : List ℕ) (at : ℕ) (m : Message) (next : ℕ) → block_at sh bs at ≡ Ok (m, next) → (at < next) × (next ≤ length bs)
unfolding head_at
found_next sh bs at m next e =
    let s = found_stands sh bs at m next e in
    (omega (arith, s.next_is, ap (λ (x : Message). x.start) s.says), s.fits)

-- the walk stands at `at` after k blocks
abbrev pub Walking : Shape → List ℕ → ℕ → ℕ → Type 0
Walking sh bs k at = (at ≡ spot sh bs k) × (k + 4 ≤ at) × (at ≤ length bs)

pub walking_first : (sh : Shape) (bs : List ℕ) → 4 ≤ length bs → Walking sh bs 0 4
unfolding spot
walking_first sh bs h = (refl, omega arith, h)

pub walking_next : (sh : Shape) (bs : List ℕ) (k at : ℕ) (m : Message) (next : ℕ) → Walking sh bs k at → block_at sh bs at ≡ Ok (m, next)
    → Walking sh bs (k + 1) next
unfolding spot
walking_next sh bs k at m next w e =
    let n = found_next sh bs at m next e in
    (rw (add-one, ← w.0, e), omega arith, n.1)

-- one turn of the walk, as a loop has it
turn : (sh : Shape) (bs : List ℕ) (f k at : ℕ) → at ≡ spot sh bs k → 0 < f
    → walk_from sh bs f k ≡ pick (stop_at sh (length bs) k at) (ending (length bs) k at) (after (block_at sh bs at) (walk_from sh bs (f - 1) (k + 1)))
unfolding walk_from
turn sh bs zero k at is pos = absurd (omega arith)
turn sh bs (suc f) k at is pos = let e : suc f - 1 ≡ f = omega arith in simp (is, add-one, e)

module _ (sh : Shape) (bs : List ℕ) (f k at : ℕ) (is : at ≡ spot sh bs k) (pos : 0 < f) where
  pub walk_stop : stop_at sh (length bs) k at ≡ true → walk_from sh bs f k ≡ ending (length bs) k at
  walk_stop s = turn sh bs f k at is pos ∙ rw s refl

  pub walk_broken : (r : Refusal) → stop_at sh (length bs) k at ≡ false → block_at sh bs at ≡ Err r → walk_from sh bs f k ≡ Err r
  walk_broken r s e = turn sh bs f k at is pos ∙ rw (s, e) refl

  pub walk_found : (m : Message) (next : ℕ) → stop_at sh (length bs) k at ≡ false → block_at sh bs at ≡ Ok (m, next)
      → walk_from sh bs f k ≡ walk_from sh bs (f - 1) (k + 1)
  walk_found m next s e = turn sh bs f k at is pos ∙ rw (s, e) refl

-- the loop's invariant: the walk stands at `at` after k blocks, and what is still to come decides
abbrev pub Counting : Shape → List ℕ → ℕ → ℕ → Type 0
Counting sh bs k at = Walking sh bs k at × (walk sh bs ≡ walk_from sh bs (length bs + 1 - k) k)

pub counting_first : (sh : Shape) (bs : List ℕ) → 4 ≤ length bs → Counting sh bs 0 4
unfolding walk
counting_first sh bs h = let e : length bs + 1 - 0 ≡ length bs + 1 = omega arith in (walking_first sh bs h, rw e refl)

module _ (sh : Shape) (bs : List ℕ) (k at : ℕ) (now : Counting sh bs k at) where
  pub counting_stop : stop_at sh (length bs) k at ≡ true → walk sh bs ≡ ending (length bs) k at
  counting_stop s = now.1 ∙ walk_stop sh bs _ k at now.0.0 (omega arith) s

  pub counting_broken : (r : Refusal) → stop_at sh (length bs) k at ≡ false → block_at sh bs at ≡ Err r → walk sh bs ≡ Err r
  counting_broken r s e = now.1 ∙ walk_broken sh bs _ k at now.0.0 (omega arith) r s e

  pub counting_next : (m : Message) (next : ℕ) → stop_at sh (length bs) k at ≡ false → block_at sh bs at ≡ Ok (m, next) → Counting sh bs (k + 1) next
  counting_next m next s e =
      let f : length bs + 1 - k - 1 ≡ length bs + 1 - (k + 1) = omega arith in
      (walking_next sh bs k at m next now.0 e, now.1 ∙ walk_found sh bs _ k at now.0.0 (omega arith) m next s e ∙ rw f refl)

pub ending_exact : (len k at : ℕ) → at ≡ len → ending len k at ≡ Ok k
unfolding ending
ending_exact len k at e = rw (eq-eqb at len e)

pub ending_over : (len k at : ℕ) → (at ≡ len → ⊥) → ending len k at ≡ Err (fault at 6)
unfolding ending
ending_over len k at e = rw (ne_eqb at len e)

-- more turns than the body has bytes change nothing: the clause of `walk_from` that runs out is never reached
pub walk_enough : (sh : Shape) (bs : List ℕ) (f g k at : ℕ) → Walking sh bs k at → length bs < f + k → length bs < g + k
    → walk_from sh bs f k ≡ walk_from sh bs g k
walk_enough sh bs zero g k at w hf hg = absurd (omega arith)
walk_enough sh bs (suc f) zero k at w hf hg = absurd (omega arith)
walk_enough sh bs (suc f) (suc g) k at w hf hg =
    go (stop_at sh (length bs) k at) refl (block_at sh bs at) refl
    (λ next v. walk_enough sh bs f g (k + 1) next v (omega arith) (omega arith))
  where
    go : (b : Bool) → stop_at sh (length bs) k at ≡ b → (x : Result (Message × ℕ) Refusal) → block_at sh bs at ≡ x
        → ((next : ℕ) → Walking sh bs (k + 1) next → walk_from sh bs f (k + 1) ≡ walk_from sh bs g (k + 1))
        → walk_from sh bs (suc f) k ≡ walk_from sh bs (suc g) k
    go true s x e rest = walk_stop sh bs (suc f) k at w.0 (omega arith) s ∙ sym (walk_stop sh bs (suc g) k at w.0 (omega arith) s)
    go false s (Err r) e rest =
        walk_broken sh bs (suc f) k at w.0 (omega arith) r s e ∙ sym (walk_broken sh bs (suc g) k at w.0 (omega arith) r s e)
    go false s (Ok (m, next)) e rest =
        let pf : suc f - 1 ≡ f = omega arith in
        let pg : suc g - 1 ≡ g = omega arith in
        let a = walk_found sh bs (suc f) k at w.0 (omega arith) m next s e in
        let b = walk_found sh bs (suc g) k at w.0 (omega arith) m next s e in
        rw pf at a ∙ rest next (walking_next sh bs k at m next w e) ∙ sym (rw pg at b)

-- ---- the channel word

-- a body whose shape is known has its channel word
pub open_long : (kind : ℕ) (rule : TimeRule) (bs : List ℕ) (sh : Shape) → open_body kind rule bs ≡ Shaped sh → 4 ≤ length bs
unfolding open_body
open_long kind rule bs sh e =
    let w = field bs 0 4 in
    let x₁ : Opened = shape_by kind rule w in
    let x₀ : Opened = pick (ltb (length bs) 4) Wrong x₁ in
    let p = passed (not (opens kind)) Carried x₀ (Shaped sh) (λ q. let z : ◌≡◌ {A = ℕ} 0 1 = cc in omega arith) e in
    let q = passed (ltb (length bs) 4) Wrong x₁ (Shaped sh) (λ q. let z : ◌≡◌ {A = ℕ} 0 1 = cc in omega arith) p.1 in
    ltb-false (length bs) 4 q.0
