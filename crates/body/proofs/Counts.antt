-- What the walk's plain numbers say of a body, and the shape of a body that has messages.
use Rattle.std.specs.Prelude.{Result, Ok, Err, None}
use mathlib.Core.Path.{◌≡◌, refl, sym, ap, ◌∙◌}
use mathlib.Core.List.{List}
use Prim.Native.Nat.{ℕ, ◌≤◌, ◌<◌}
use native.Mathlib.Omega.{arith}
use lib.ListN.{length}
use borrow.Author.Tests.{ne_eqb}
use Rattle.body.specs.Walk.{open_body, walk, Opened, Carried, Shaped, Wrong}
use Rattle.body.specs.Answers.{check_opened, check_body}
use Rattle.body.specs.inner.Walks.{form_in, walked, answered}
use Rattle.body.specs.declared.Form.TheVariants.{Plain}
use Rattle.body.specs.declared.Shape.{Shape}
use Rattle.body.specs.declared.walk.Walked.{Walked}
use Rattle.body.proofs.Bounds.{faulty_is}
use Rattle.body.proofs.Walking.{open_long}
use Rattle.body.proofs.Whole.{known}
use Rattle.terms.specs.Refusals.{fault}
use Rattle.terms.specs.declared.TimeRule.{TimeRule}
use Rattle.terms.specs.declared.Refusal.{Refusal}

-- ---- the walk's two numbers

-- they say what the check says
pub walked_back : (kind : ℕ) (rule : TimeRule) (bs : List ℕ) → answered (walked (check_body kind rule bs)) ≡ check_body kind rule bs
walked_back kind rule bs = go (check_body kind rule bs) refl
  where
    go : (x : Result ℕ Refusal) → check_body kind rule bs ≡ x → answered (walked x) ≡ x
    go (Ok n) e = refl
    go (Err f) e = let i = (faulty_is kind rule bs f e).0 in rw (ne_eqb f.reason 0 (λ z. omega (arith, i.1, z))) (ap Err (sym i.0))

module _ (kind : ℕ) (rule : TimeRule) (bs : List ℕ) (w : Walked) (is : w ≡ walked (check_body kind rule bs)) where
  said : answered w ≡ check_body kind rule bs
  said = ap answered is ∙ walked_back kind rule bs

  -- no reason: the other number is how many messages there are
  pub walked_counted : w.reason ≡ 0 → check_body kind rule bs ≡ Ok w.number
  walked_counted none = sym said ∙ rw none refl

  -- a reason: the other number is the place of the fault
  pub walked_faulty : (w.reason ≡ 0 → ⊥) → check_body kind rule bs ≡ Err (fault w.number w.reason)
  walked_faulty some = sym said ∙ rw (ne_eqb w.reason 0 some) refl

-- ---- the shape of a body that has messages

-- the shape that a body opens to, where it has one
abbrev shape_in : TimeRule → Opened → Shape
shape_in rule Carried = record { form = Plain; count = None; rule = rule }
shape_in rule (Shaped sh) = sh
shape_in rule Wrong = record { form = Plain; count = None; rule = rule }

unfoldable pub shape_of : ℕ → TimeRule → List ℕ → Shape
shape_of kind rule bs = shape_in rule (open_body kind rule bs)

-- what is known of a body that has n messages
pub record Has (kind : ℕ) (rule : TimeRule) (bs : List ℕ) (n : ℕ) : Type 0 where
  pub opened : open_body kind rule bs ≡ Shaped (shape_of kind rule bs)
  pub counted : walk (shape_of kind rule bs) bs ≡ Ok n
  pub long : 4 ≤ length bs
  pub form_is : form_in kind bs ≡ (shape_of kind rule bs).form

pub has_messages : (kind : ℕ) (rule : TimeRule) (bs : List ℕ) (n : ℕ) → check_body kind rule bs ≡ Ok n → 0 < n → Has kind rule bs n
unfolding check_body shape_of
has_messages kind rule bs n e some = go (open_body kind rule bs) refl e
  where
    go : (x : Opened) → open_body kind rule bs ≡ x → check_opened x bs ≡ Ok n → Has kind rule bs n
    go Carried q h = let z : n ≡ 0 = cc in absurd (omega arith)
    go Wrong q h = let z : ◌≡◌ {A = ℕ} 0 1 = cc in absurd (omega arith)
    go (Shaped sh) q h =
        let is : sh ≡ shape_of kind rule bs = sym (ap (shape_in rule) q) in
        record {
          opened = q ∙ ap Shaped is;
          counted = rw (← is) h;
          long = open_long kind rule bs sh q;
          form_is = rw (← is) (known kind rule bs sh q).form_is;
        }
