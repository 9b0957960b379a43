-- Laws of equal runs of bytes.
use Rattle.std.proofs.Common.{◌≡◌, ℕ, suc, ◌+◌, ◌-◌, ◌<◌, ◌≤◌, Bool, true, false, ◌&&◌, eqb, nat_eq, List, [], ◌∷◌, ◌++◌, length, get_or, take, drop, sym, refl, ap, ◌∙◌, add-one, arith, length-drop, take-append-drop, drop_of_length-le, drop-cons, drop-drop, eq-eqb, eqb-true}
use Rattle.std.specs.Cmp.Lexicographic.{pointwise}
use mathlib.Core.Bool.{false≢true}
use lib.Seq.{take-length}
use Rattle.units.specs.Units.{part, same}
use Rattle.units.proofs.Choices.{and_true, same_test}

-- `same` is equality
pub same_true : (a b : List ℕ) → same a b ≡ true → a ≡ b
unfolding same
same_true [] [] e = refl
same_true [] (y ∷ b) e = absurd (false≢true e)
same_true (x ∷ a) [] e = absurd (false≢true e)
same_true (x ∷ a) (y ∷ b) e = let s = and_true (eqb x y) (same a b) e in rw (eqb-true x y s.0, same_true a b s.1)

pub same_refl : (a : List ℕ) → same a a ≡ true
unfolding same
same_refl [] = refl
same_refl (x ∷ a) = rw (eq-eqb x x refl, same_refl a)

-- runs of different lengths are not equal
pub same_long : (a b : List ℕ) → (length a ≡ length b → ⊥) → same a b ≡ false
same_long a b other = go (same a b) refl
  where
    go : (t : Bool) → same a b ≡ t → t ≡ false
    go true e = absurd (other (ap length (same_true a b e)))
    go false e = refl

-- ---- byte by byte: s is what was found ahead of i

and_end : (s : Bool) → (s && true) ≡ s
and_end true = refl
and_end false = refl

module _ (a b : List ℕ) (long : length a ≡ length b) where
  here : (i : ℕ) → i < length a → same (drop i a) (drop i b) ≡ (eqb (get_or a i 0) (get_or b i 0) && same (drop (suc i) a) (drop (suc i) b))
  unfolding same
  here i h = let g : i < length b = omega arith in rw (drop-cons a i 0 h, drop-cons b i 0 g)

  pub same_next : (s : Bool) (i : ℕ) → i < length a → (s && same (drop i a) (drop i b)) ≡ same a b
      → ((s && eqb (get_or a i 0) (get_or b i 0)) && same (drop (i + 1) a) (drop (i + 1) b)) ≡ same a b
  same_next true i h q = rw (add-one i) (sym (here i h) ∙ q)
  same_next false i h q = q

  pub same_end : (s : Bool) (i : ℕ) → length a ≤ i → (s && same (drop i a) (drop i b)) ≡ same a b → s ≡ same a b
  unfolding same
  same_end s i h q =
      let g : length b ≤ i = omega arith in
      sym (and_end s) ∙ rw (drop_of_length-le a h, drop_of_length-le b g) at q

-- ---- a front and a back that meet, or share bytes

pub same_parts : (a b : List ℕ) (m k : ℕ) → k ≤ m → (same (take m a) (take m b) && same (drop k a) (drop k b)) ≡ same a b
same_parts a b m k h = same_test _ _ joined apart
  where
    joined : (same (take m a) (take m b) && same (drop k a) (drop k b)) ≡ true → same a b ≡ true
    joined e =
        let s = and_true (same (take m a) (take m b)) (same (drop k a) (drop k b)) e in
        let front : take m a ≡ take m b = same_true (take m a) (take m b) s.0 in
        let back : drop k a ≡ drop k b = same_true (drop k a) (drop k b) s.1 in
        let meets : k + (m - k) ≡ m = omega arith in
        let behind : (l : List ℕ) → drop (m - k) (drop k l) ≡ drop m l = λ l. drop-drop (m - k) k l ∙ ap (λ (n : ℕ). drop n l) meets in
        let rest : drop m a ≡ drop m b = sym (behind a) ∙ ap (drop (m - k)) back ∙ behind b in
        let is : a ≡ b = sym (take-append-drop m a) ∙ ap (λ (l : List ℕ). l ++ drop m a) front ∙ ap (λ (l : List ℕ). take m b ++ l) rest ∙ take-append-drop m b in
        rw is (same_refl b)

    apart : same a b ≡ true → (same (take m a) (take m b) && same (drop k a) (drop k b)) ≡ true
    apart e = let is : a ≡ b = same_true a b e in rw (is, same_refl (take m b)) (same_refl (drop k b))

-- the code's parts: m bytes of the front, and the last k
module _ (a b : List ℕ) (long : length a ≡ length b) (m : ℕ) where
  front_whole : (l : List ℕ) → length l ≡ length a → m ≡ length a → part l 0 (m - 0) ≡ l
  front_whole l same_long is = let e : m - 0 ≡ length l = omega arith in rw e (take-length l)

  pub same_whole : (s : Bool) → m ≡ length a → s ≡ same (part a 0 (m - 0)) (part b 0 (m - 0)) → s ≡ same a b
  same_whole s is e = e ∙ ap (λ (l : List ℕ). same l (part b 0 (m - 0))) (front_whole a refl is) ∙ ap (same a) (front_whole b (sym long) is)

  pub same_over : (k : ℕ) (s t : Bool) → k ≤ length a → length a - k ≤ m → s ≡ same (part a 0 (m - 0)) (part b 0 (m - 0))
      → t ≡ same (part a (length a - k) (length a - (length a - k))) (part b (length a - k) (length a - (length a - k))) → (s && t) ≡ same a b
  same_over k s t fits meet front back =
      let zero' : m - 0 ≡ m = omega arith in
      let last : (l : List ℕ) → length l ≡ length a → part l (length a - k) (length a - (length a - k)) ≡ drop (length a - k) l
      = λ l is. let n : length a - (length a - k) ≡ length (drop (length a - k) l) = simp length-drop (omega arith) in rw n (take-length (drop (length a - k) l)) in
      rw (front, back, zero', last a refl, last b (sym long)) (same_parts a b m (length a - k) meet)

-- and so is the library's comparison
pub pointwise_same : (a b : List ℕ) → pointwise nat_eq a b ≡ same a b
unfolding same
pointwise_same [] [] = refl
pointwise_same [] (y ∷ b) = refl
pointwise_same (x ∷ a) [] = refl
pointwise_same (x ∷ a) (y ∷ b) = ap (λ t. eqb x y && t) (pointwise_same a b)
