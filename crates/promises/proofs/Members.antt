-- Laws of lists of numbers: which are in a list, and lists in which no number stands twice.
use mathlib.Core.Path.{◌≡◌, refl}
use mathlib.Core.List.{List, [], ◌∷◌, ◌++◌}
use mathlib.Core.Bool.{Bool, true, false, not, ◌&&◌, ◌||◌, false≢true}
use mathlib.Core.Logic.{inl, inr, ⊎_elim}
use Prim.Native.Nat.{ℕ}
use lib.Dec.{eqb}
use borrow.Author.Tests.{eqb-true, eq-eqb}
use Rattle.units.proofs.Choices.{and_true, or_true}
use Rattle.promises.specs.Refusals.{OneOf}

-- ---- one of these, as a test

abbrev pub among : ℕ → List ℕ → Bool
among k [] = false
among k (t ∷ ts) = eqb k t || among k ts

pub among_one : (k : ℕ) (ts : List ℕ) → among k ts ≡ true → OneOf k ts
among_one k [] e = absurd (false≢true e)
among_one k (t ∷ ts) e = ⊎_elim (λ h. inl (eqb-true k t h)) (λ h. inr (among_one k ts h)) (or_true (eqb k t) (among k ts) e)

pub one_among : (k : ℕ) (ts : List ℕ) → OneOf k ts → among k ts ≡ true
one_among k [] o = absurd o
one_among k (t ∷ ts) (inl e) = rw (eq-eqb k t e)
one_among k (t ∷ ts) (inr o) = go (eqb k t) (one_among k ts o)
  where
    go : (b : Bool) → among k ts ≡ true → (b || among k ts) ≡ true
    go true e = refl
    go false e = e

-- ---- of a list of two parts

pub one_ahead : (k : ℕ) (ns ms : List ℕ) → OneOf k ns → OneOf k (ns ++ ms)
one_ahead k [] ms o = absurd o
one_ahead k (n ∷ ns) ms (inl e) = inl e
one_ahead k (n ∷ ns) ms (inr o) = inr (one_ahead k ns ms o)

pub one_behind : (k : ℕ) (ns ms : List ℕ) → OneOf k ms → OneOf k (ns ++ ms)
one_behind k [] ms o = o
one_behind k (n ∷ ns) ms o = inr (one_behind k ns ms o)

-- ---- no number is 0, and none stands twice: each is neither 0 nor one of those behind it

abbrev pub apart : List ℕ → Bool
apart [] = true
apart (n ∷ ns) = not (among n (0 ∷ ns)) && apart ns

pub apart_here : (n : ℕ) (ns : List ℕ) → apart (n ∷ ns) ≡ true → ¬ OneOf n (0 ∷ ns)
apart_here n ns a o = false≢true (rw (one_among n (0 ∷ ns) o) at (and_true (not (among n (0 ∷ ns))) (apart ns) a).0)

pub apart_next : (n : ℕ) (ns : List ℕ) → apart (n ∷ ns) ≡ true → apart ns ≡ true
apart_next n ns a = (and_true (not (among n (0 ∷ ns))) (apart ns) a).1
