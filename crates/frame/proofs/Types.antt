-- The defined types are 35, and the code's words of bits have them and the flags that may be.
use mathlib.Core.Path.{◌≡◌, refl, sym, ap, ◌∙◌, subst}
use mathlib.Core.Bool.{Bool, true, false, not, ◌&&◌}
use Prim.Native.Nat.{ℕ, zero, suc, ◌+◌, ◌-◌, ◌/◌, ◌%◌, ◌^◌, ◌<◌, ◌≤◌}
use native.Mathlib.Omega.{arith}
use native.Mathlib.Decide.{dec_lt}
use lib.Dec.{T, eqb}
use Rattle.units.specs.Choice.{pick}
use Rattle.units.proofs.Choices.{and_true}
use Rattle.frame.specs.Rules.{type_ok, flags_ok}

-- how many below n are defined
unfoldable pub defined_below : ℕ → ℕ
defined_below zero = 0
defined_below (suc n) = pick (type_ok n) 1 0 + defined_below n

-- that is 35, of the numbers that a byte holds
pub thirty_five : defined_below 256 ≡ 35
unfolding defined_below
thirty_five = refl

-- ---- words of bits

-- bit k of a word
abbrev pub bit : ℕ → ℕ → Bool
bit word k = eqb (word / 2 ^ k % 2) 1

unfoldable same : Bool → Bool → Bool
same true b = b
same false b = not b

same_says : (a b : Bool) → same a b ≡ true → a ≡ b
unfolding same
same_says true b e = sym e
same_says false true e = absurd (subst T (sym e) tt)
same_says false false e = refl

-- whether two tests say the same of each number below n: the checker computes it
unfoldable agree : (ℕ → Bool) → (ℕ → Bool) → ℕ → Bool
agree f g zero = true
agree f g (suc n) = same (f n) (g n) && agree f g n

-- of the last number, or of one below it
last_or_below : (f g : ℕ → Bool) (n k : ℕ) → agree f g (suc n) ≡ true → k < suc n → (k < n → f k ≡ g k) → f k ≡ g k
unfolding agree
last_or_below f g n k e l below = go (dec_lt k n)
  where
    go : Dec (k < n) → f k ≡ g k
    go (yes m) = below m
    go (no m) =
        let i : k ≡ n = omega arith in
        rw i (same_says (f n) (g n) (and_true (same (f n) (g n)) (agree f g n) e).0)

agree_says : (f g : ℕ → Bool) (n k : ℕ) → agree f g n ≡ true → k < n → f k ≡ g k
unfolding agree
agree_says f g zero k e l = absurd (omega arith)
agree_says f g (suc n) k e l = last_or_below f g n k e l λ m. agree_says f g n k (and_true (same (f n) (g n)) (agree f g n) e).1 m

-- the three words in src/rules.rt
pub low_types : (k : ℕ) → k < 64 → bit 0x010102020606061F k ≡ type_ok k
unfolding agree same
low_types k l = agree_says (bit 0x010102020606061F) type_ok 64 k refl l

pub high_types : (k : ℕ) → 64 ≤ k → k < 128 → bit 0x070703010301071F (k - 64) ≡ type_ok k
unfolding agree same
high_types k h l =
    let i : k - 64 + 64 ≡ k = omega arith in
    agree_says (bit 0x070703010301071F) (λ (n : ℕ). type_ok (n + 64)) 64 (k - 64) refl (omega arith) ∙ ap type_ok i

pub no_types : (k : ℕ) → 128 ≤ k → k < 256 → false ≡ type_ok k
unfolding agree same
no_types k h l =
    let i : k - 128 + 128 ≡ k = omega arith in
    agree_says (λ (n : ℕ). false) (λ (n : ℕ). type_ok (n + 128)) 128 (k - 128) refl (omega arith) ∙ ap type_ok i

pub all_flags : (k : ℕ) → k < 256 → bit 0x7777777700007777 (k / 4) ≡ flags_ok k
unfolding agree same
all_flags k l = agree_says (λ (n : ℕ). bit 0x7777777700007777 (n / 4)) flags_ok 256 k refl l
