-- Laws of tables of rules.
use mathlib.Core.Path.{◌≡◌, refl, sym, subst, ◌∙◌}
use mathlib.Core.List.{List, [], ◌∷◌, ◌++◌}
use mathlib.Core.Bool.{Bool, true, false, not, ◌&&◌}
use Prim.Native.Nat.{ℕ}
use lib.Dec.{T, ltb}
use borrow.Author.Tests.{not-true, not-false}
use native.Mathlib.Omega.{arith}
use Rattle.terms.specs.declared.Number.{Number}
use Rattle.terms.specs.Numbers.{number_of}
use Rattle.terms.proofs.Numbers.{above_none}
use Rattle.frame.specs.Table.{Line, line, first}

-- ---- to an answer

-- a rule that does not hold gives its number
pub stands : {t : Bool} (n : ℕ) (lines : List Line) → t ≡ false → n ≡ first (line n t ∷ lines)
unfolding first
stands n lines e = rw e

-- one that holds leaves the answer to the lines behind it
pub passes : {t : Bool} (n r : ℕ) (lines : List Line) → t ≡ true → r ≡ first lines → r ≡ first (line n t ∷ lines)
unfolding first
passes n r lines e q = rw e q

-- a test of the code, b, is the line's, t, and the code asks for its contrary
pub broken : {b t : Bool} → b ≡ t → not b ≡ true → t ≡ false
broken {b} e p = sym e ∙ not-true b p

pub kept : {b t : Bool} → b ≡ t → not b ≡ false → t ≡ true
kept {b} e p = sym e ∙ not-false b p

pub none : 0 ≡ first []
unfolding first
none = refl

-- ---- from an answer: a table that gives 0 has every rule hold, for its numbers are above 0

pub holds : (n : ℕ) (t : Bool) (lines : List Line) → T (ltb 0 n) → first (line n t ∷ lines) ≡ 0 → (t ≡ true) × (first lines ≡ 0)
unfolding first
holds n true lines p e = (refl, e)
holds n false lines p e = absurd (subst (λ (k : ℕ). T (ltb 0 k)) e p)

-- ---- a table of two parts, the first tried first

-- every number of the table is above 0
abbrev pub numbered : List Line → Bool
numbered [] = true
numbered (line n t ∷ lines) = ltb 0 n && numbered lines

both : (a b : Bool) → T (a && b) → T a × T b
both true b p = (tt, p)
both false b p = absurd p

pub stage_some : (xs ys : List Line) (n : ℕ) → n ≡ first xs → (n ≡ 0 → ⊥) → n ≡ first (xs ++ ys)
unfolding first
stage_some [] ys n e h = absurd (h e)
stage_some (line k true ∷ xs) ys n e h = stage_some xs ys n e h
stage_some (line k false ∷ xs) ys n e h = e

-- where the first part names a refusal
pub stage_told : (xs ys : List Line) (e : Number) → number_of e ≡ first xs → number_of e ≡ first (xs ++ ys)
stage_told xs ys e h = stage_some xs ys (number_of e) h λ z. omega (arith, above_none e)

pub stage_none : (xs ys : List Line) → T (numbered xs) → first xs ≡ 0 → first (xs ++ ys) ≡ first ys
unfolding first
stage_none [] ys p e = refl
stage_none (line n t ∷ xs) ys p e =
    let q = both (ltb 0 n) (numbered xs) p in
    let h = holds n t xs q.0 e in
    rw h.0 (stage_none xs ys q.1 h.1)

-- the second part is asked only where the first gives 0
pub stage_same : (xs ys ys' : List Line) → (first xs ≡ 0 → first ys ≡ first ys') → first (xs ++ ys) ≡ first (xs ++ ys')
unfolding first
stage_same [] ys ys' h = h refl
stage_same (line n true ∷ xs) ys ys' h = stage_same xs ys ys' h
stage_same (line n false ∷ xs) ys ys' h = refl

pub stage_first : (xs ys : List Line) → first (xs ++ ys) ≡ 0 → first xs ≡ 0
unfolding first
stage_first [] ys e = refl
stage_first (line n true ∷ xs) ys e = stage_first xs ys e
stage_first (line n false ∷ xs) ys e = e

pub stage_second : (xs ys : List Line) → T (numbered xs) → first (xs ++ ys) ≡ 0 → first ys ≡ 0
stage_second xs ys p e = rw (← stage_none xs ys p (stage_first xs ys e)) e
