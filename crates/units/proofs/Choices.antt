-- Laws of choices: a test of the code, b, is the choice's test, t.
use Rattle.std.proofs.Common.{◌≡◌, Bool, true, false, ◌&&◌, ◌||◌, T, ◌⊎◌, sym, refl, subst, inl, inr}
use Rattle.units.specs.Choice.{pick}

-- ---- to a choice

pub chosen : {A : Type 0} {b t : Bool} (x y : A) → b ≡ t → b ≡ true → x ≡ pick t x y
chosen x y e p = rw (← e, p)

pub skipped : {A : Type 0} {b t : Bool} (x y z : A) → b ≡ t → b ≡ false → z ≡ y → z ≡ pick t x y
skipped x y z e p q = rw (← e, p) q

-- ---- from a choice

-- an answer that the second does not give comes from the first, and the test held
pub picked : {A : Type 0} (t : Bool) (x y z : A) → (y ≡ z → ⊥) → pick t x y ≡ z → (t ≡ true) × (x ≡ z)
picked true x y z other e = (refl, e)
picked false x y z other e = absurd (other e)

-- and one that the first does not give comes from the second
pub passed : {A : Type 0} (t : Bool) (x y z : A) → (x ≡ z → ⊥) → pick t x y ≡ z → (t ≡ false) × (y ≡ z)
passed true x y z other e = absurd (other e)
passed false x y z other e = (refl, e)

-- ---- tests

pub or_false : (a b : Bool) → (a || b) ≡ false → (a ≡ false) × (b ≡ false)
or_false true b e = absurd (subst T e tt)
or_false false b e = (refl, e)

pub or_true : (a b : Bool) → (a || b) ≡ true → (a ≡ true) ⊎ (b ≡ true)
or_true true b e = inl refl
or_true false b e = inr e

pub and_true : (a b : Bool) → (a && b) ≡ true → (a ≡ true) × (b ≡ true)
and_true true b e = (refl, e)
and_true false b e = absurd (subst T (sym e) tt)

-- two tests that hold together are one
pub same_test : (a b : Bool) → (a ≡ true → b ≡ true) → (b ≡ true → a ≡ true) → a ≡ b
same_test true b f g = sym (f refl)
same_test false true f g = g refl
same_test false false f g = refl
