-- What the searches for a slot find: std's `position` is the lowest slot.
use mathlib.Core.Path.{◌≡◌, refl, sym, ◌∙◌}
use mathlib.Core.List.{List}
use mathlib.Core.Bool.{Bool, true, false, cond, not}
use Prim.Native.Nat.{ℕ, suc, ◌+◌, ◌≤◌, ◌<◌}
use native.Mathlib.Omega.{arith}
use lib.ListN.{length, drop, length-drop}
use lib.Dec.{ltb}
use borrow.Author.Tests.{lt-ltb, le-ltb, ltb-true, ltb-false}
use Rattle.std.specs.Prelude.{Option, Some, None, position}
use Rattle.std.specs.List.{position_or_len}
use Rattle.std.proofs.lemmas.List.Recursion.{is_position_or_len}
use Rattle.std.proofs.lemmas.List.Sums.{prefix_len-le-length}
use Rattle.units.specs.Choice.{pick}
use Rattle.renewal.specs.Table.{Entry, free, named, lowest, lowest_from, slot_of, free_of, home_of}
use Rattle.renewal.specs.inner.Slots.{Found}

module _ (f : Entry → Bool) (t : List Entry) where
  first : lowest f t ≡ position_or_len f t
  unfolding lowest
  first = is_position_or_len (lowest f) f refl (λ e es. choice (f e) (lowest f es)) t
    where
      choice : (b : Bool) (n : ℕ) → pick b 0 (suc n) ≡ cond b 0 (1 + n)
      choice true n = refl
      choice false n = omega arith

  found : (k : ℕ) → position f t ≡ Some k → (k ≡ lowest f t) × (k < length t)
  found k is = go (ltb (position_or_len f t) (length t)) refl is
    where
      go : (b : Bool) → ltb (position_or_len f t) (length t) ≡ b → cond b (Some (position_or_len f t)) None ≡ Some k → (k ≡ lowest f t) × (k < length t)
      go true h e =
          let same : position_or_len f t ≡ k = cc e in
          (omega (arith, first, same), omega (arith, ltb-true (position_or_len f t) (length t) h, same))
      go false h e = absurd (cc e)

  none_found : position f t ≡ None → lowest f t ≡ length t
  none_found is = go (ltb (position_or_len f t) (length t)) refl is
    where
      go : (b : Bool) → ltb (position_or_len f t) (length t) ≡ b → cond b (Some (position_or_len f t)) None ≡ None → lowest f t ≡ length t
      go true h e = absurd (cc e)
      go false h e = omega (arith, first, ltb-false (position_or_len f t) (length t) h, prefix_len-le-length (λ e. not (f e)) t)

-- ---- a table of 64 slots, r being what a search said

module _ (t : List Entry) (all : length t ≡ 64) (r : Option ℕ) where
  module _ (f : Entry → Bool) (from : ℕ) (is : r ≡ position f (drop from t)) where
    pub next_found : (k : ℕ) → r ≡ Some k → from + k ≡ lowest_from f t from
    unfolding lowest_from
    next_found k some =
        let low = found f (drop from t) k (sym is ∙ some) in
        rw (lt-ltb from 64 (omega (arith, all, low.1, length-drop from t))) (omega (arith, low.0))

    pub next_none : r ≡ None → 64 ≡ lowest_from f t from
    unfolding lowest_from
    next_none none = go (ltb from 64) refl
      where
        go : (b : Bool) → ltb from 64 ≡ b → 64 ≡ pick b (from + lowest f (drop from t)) 64
        go true h = omega (arith, all, ltb-true from 64 h, none_found f (drop from t) (sym is ∙ none), length-drop from t)
        go false h = refl

  module _ (recording place : ℕ) (is : r ≡ position (named recording place) t) where
    pub slot_found : (k : ℕ) → r ≡ Some k → (k ≡ slot_of recording place t) × (k < 64)
    slot_found k some = let low = found (named recording place) t k (sym is ∙ some) in (low.0, omega (arith, all, low.1))

    pub slot_none : r ≡ None → 64 ≤ slot_of recording place t
    slot_none none = omega (arith, all, none_found (named recording place) t (sym is ∙ none))

    pub found_own : (k : ℕ) → r ≡ Some k → Found (home_of recording place t) (Some k)
    unfolding home_of
    found_own k some =
        let own = slot_found k some in
        rw (← own.0, lt-ltb k 64 own.1) (refl, own.1)

    pub found_free : r ≡ None → (q : Option ℕ) → q ≡ position free t → Found (home_of recording place t) q
    unfolding home_of
    found_free none q low = rw (le-ltb (slot_of recording place t) 64 (slot_none none)) (go q low)
      where
        go : (q : Option ℕ) → q ≡ position free t → Found (free_of t) q
        go (Some k) low = let first = found free t k (sym low) in (first.0, omega (arith, all, first.1))
        go None low = omega (arith, all, none_found free t (sym low))

-- ---- of any table

module _ (t : List Entry) (recording place k : ℕ) (is : k ≡ slot_of recording place t) where
  pub home_own : k < 64 → k ≡ home_of recording place t
  unfolding home_of
  home_own h = rw (← is) (rw (lt-ltb k 64 h))

  pub home_free : 64 ≤ k → free_of t ≡ home_of recording place t
  unfolding home_of
  home_free h = rw (← is) (rw (le-ltb k 64 h))
