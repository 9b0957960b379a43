-- A step of the walk, by what the block it comes to is.
use Rattle.std.specs.Prelude.{Result, Ok, Err}
use mathlib.Core.Path.{◌≡◌, refl, sym, ap, ◌∙◌}
use mathlib.Core.List.{List}
use mathlib.Core.Bool.{false}
use Prim.Native.Nat.{ℕ, ◌+◌, ◌≤◌, ◌<◌}
use native.Mathlib.Omega.{arith}
use lib.ListN.{length}
use borrow.Author.Tests.{le-leb}
use Rattle.body.specs.Walk.{block_at, stop_at, walk}
use Rattle.terms.specs.Refusals.{fault}
use Rattle.body.specs.inner.Walks.{stepped, walked, faulted, reached}
use Rattle.body.specs.declared.walk.Walked.{Walked}
use Rattle.body.specs.declared.Shape.{Shape}
use Rattle.body.specs.declared.Message.{Message}
use Rattle.body.proofs.Walking.{Counting, counting_broken, counting_next, found_next}
use Rattle.body.proofs.Bounds.{broken_at}
use Rattle.terms.specs.declared.Reason.{Reason}
use Rattle.terms.specs.declared.Refusal.{Refusal}

-- nothing there
pub none_there : (sh : Shape) (bs : List ℕ) (at : ℕ) → length bs ≤ at → Err (fault at 7) ≡ block_at sh bs at
unfolding block_at
none_there sh bs at h = simp (le-leb (length bs) at h)

-- a turn of the loop, where x is what the block at `at` comes to: a fault ends the walk there, none goes on
module _ (sh : Shape) (bs : List ℕ) (k at : ℕ) (x : Result ℕ Reason) (now : Counting sh bs k at) (on : stop_at sh (length bs) k at ≡ false)
    (is : faulted at x ≡ reached (block_at sh bs at)) where
  pub turn_fault : (r : Refusal) → faulted at x ≡ Err r → walk sh bs ≡ Err r
  turn_fault r e = go (block_at sh bs at) refl
    where
      go : (b : Result (Message × ℕ) Refusal) → block_at sh bs at ≡ b → walk sh bs ≡ Err r
      go (Err f) b = let same : f ≡ r = cc (is, e, ap reached b) in counting_broken sh bs k at now r on (b ∙ ap Err same)
      go (Ok (m, n)) b = let z : ◌≡◌ {A = ℕ} 0 1 = cc (is, e, ap reached b) in absurd (omega arith)

  pub turn_on : (next : ℕ) → faulted at x ≡ Ok next → Counting sh bs (k + 1) next × (at < next) × (next ≤ length bs)
  turn_on next e = go (block_at sh bs at) refl
    where
      go : (b : Result (Message × ℕ) Refusal) → block_at sh bs at ≡ b → Counting sh bs (k + 1) next × (at < next) × (next ≤ length bs)
      go (Err f) b = let z : ◌≡◌ {A = ℕ} 0 1 = cc (is, e, ap reached b) in absurd (omega arith)
      go (Ok (m, n)) b =
          let i : next ≡ n = cc (is, e, ap reached b) in
          let f = found_next sh bs at m n b in
          rw i (counting_next sh bs k at now m n on b, f.0, f.1)

-- the same in two plain numbers, 0 and where the block ends, or the reason and the place of its fault
module _ (sh : Shape) (bs : List ℕ) (k at : ℕ) (x : Walked) (now : Counting sh bs k at) (on : stop_at sh (length bs) k at ≡ false) (is : x ≡ stepped (block_at sh bs at)) where
  pub step_fault : (x.reason ≡ 0 → ⊥) → x ≡ walked (walk sh bs)
  step_fault some = go (block_at sh bs at) refl
    where
      go : (b : Result (Message × ℕ) Refusal) → block_at sh bs at ≡ b → x ≡ walked (walk sh bs)
      go (Err r) e = is ∙ ap stepped e ∙ ap walked (sym (counting_broken sh bs k at now r on e))
      go (Ok (m, n)) e = absurd (some (ap (λ (y : Walked). y.reason) (is ∙ ap stepped e)))

  pub step_on : x.reason ≡ 0 → Counting sh bs (k + 1) x.number × (at < x.number) × (x.number ≤ length bs)
  step_on none = go (block_at sh bs at) refl
    where
      go : (b : Result (Message × ℕ) Refusal) → block_at sh bs at ≡ b → Counting sh bs (k + 1) x.number × (at < x.number) × (x.number ≤ length bs)
      go (Err r) e =
          let i : x.reason ≡ r.reason = ap (λ (y : Walked). y.reason) (is ∙ ap stepped e) in
          absurd (omega (arith, (broken_at sh bs at r e).1))
      go (Ok (m, n)) e =
          let i : x.number ≡ n = ap (λ (y : Walked). y.number) (is ∙ ap stepped e) in
          let f = found_next sh bs at m n e in
          rw i (counting_next sh bs k at now m n on e, f.0, f.1)
