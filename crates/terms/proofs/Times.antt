-- Laws of time rules: of time 0, and that a rule as a mask and a limit is the rule.
use mathlib.Core.Path.{◌≡◌, refl, sym, ap, ◌∙◌}
use mathlib.Core.Bool.{true, false}
use Prim.Native.Nat.{ℕ, zero, suc, ◌%◌, ◌^◌, ◌≤◌, ◌<◌}
use native.Mathlib.Omega.{arith}
use native.Mathlib.Nat.{mod-eq_of_lt}
use lib.Dec.{ltb, eqb}
use lib.Bits.{bit_and, and_mask, and_zero_r}
use borrow.Author.Tests.{lt-ltb, le-ltb, ne_eqb}
use Rattle.terms.specs.Times.{time_ok}
use Rattle.terms.specs.inner.Masks.{mask_of, limit_of}
use Rattle.terms.specs.declared.TimeRule.{TimeRule}
use Rattle.terms.specs.declared.TimeRule.TheVariants.{Counter, Chapter4, Ieee1588, Extended}

-- time 0 is in form under every rule, so that a body without stamps is judged like the others
pub zero_ok : (rule : TimeRule) → time_ok rule 0 ≡ true
unfolding time_ok
zero_ok Counter = refl
zero_ok Chapter4 = refl
zero_ok Ieee1588 = refl
zero_ok Extended = refl

-- the bits of a time under the mask are below the limit exactly where the time is in form
pub in_form : (rule : TimeRule) (t : ℕ) → t < 2 ^ 64 → ltb (bit_and t (mask_of rule)) (limit_of rule) ≡ time_ok rule t
unfolding time_ok mask_of limit_of
in_form Counter t h = ap (λ (n : ℕ). ltb n (2 ^ 48)) (and_mask t 64 ∙ mod-eq_of_lt h)
in_form Chapter4 t h = ap (λ (n : ℕ). ltb n 1) (and_mask t 16) ∙ none (t % 2 ^ 16)
  where
    none : (n : ℕ) → ltb n 1 ≡ eqb n 0
    none zero = refl
    none (suc n) = le-ltb (suc n) 1 (omega arith) ∙ sym (ne_eqb (suc n) 0 (λ z. omega arith))
in_form Ieee1588 t h = ap (λ (n : ℕ). ltb n 1000000000) (and_mask t 32)
in_form Extended t h = ap (λ (n : ℕ). ltb n 1) (and_zero_r t)

-- the code's test, and its two ways
module _ (rule : TimeRule) (mask limit t : ℕ) (numbers : (mask ≡ mask_of rule) × (limit ≡ limit_of rule)) (h : t < 2 ^ 64) where
  pub form_is : ltb (bit_and t mask) limit ≡ time_ok rule t
  form_is = rw (numbers.0, numbers.1) (in_form rule t h)

  pub form_kept : bit_and t mask < limit → time_ok rule t ≡ true
  form_kept l = sym form_is ∙ lt-ltb _ _ l

  pub form_broken : limit ≤ bit_and t mask → time_ok rule t ≡ false
  form_broken l = sym form_is ∙ le-ltb _ _ l
