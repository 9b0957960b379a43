-- The lowest slot whose entry is as asked for, in the words of the promises.
use mathlib.Core.Path.{◌≡◌, refl, sym, ◌∙◌}
use mathlib.Core.List.{List, [], ◌∷◌}
use mathlib.Core.Bool.{Bool, true, false, ◌&&◌, true≢false}
use mathlib.Core.Logic.{◌≢◌}
use Prim.Native.Nat.{ℕ, zero, suc, ◌+◌, ◌-◌, ◌≤◌, ◌<◌}
use native.Mathlib.Omega.{arith}
use lib.ListN.{length, drop, get_or, length-drop}
use lib.Seq.{get_or-drop}
use lib.Dec.{ltb, eqb}
use borrow.Author.Tests.{ltb-true, ltb-false, lt-ltb, le-ltb, eqb-true, eqb-false, eq-eqb, ne_eqb, not-true}
use Rattle.units.specs.Choice.{pick}
use Rattle.units.proofs.Choices.{and_true}
use Rattle.renewal.specs.Table.{Entry, live, free, named, lowest, slot_of, free_of, home_of, lowest_from, next_live}
use Rattle.renewal_promises.specs.Slots.{Rows, row, word, LiveAt, FreeAt, HeldAt, First}

-- ---- the lowest place where a test holds

module _ (f : Entry → Bool) where
  lowest_le : (l : List Entry) → lowest f l ≤ length l
  unfolding lowest
  lowest_le [] = omega arith
  lowest_le (e ∷ es) = go (f e) (lowest_le es)
    where
      go : (t : Bool) → lowest f es ≤ length es → pick t 0 (suc (lowest f es)) ≤ suc (length es)
      go true h = omega arith
      go false h = omega arith

  lowest_holds : (l : List Entry) → lowest f l < length l → f (get_or l (lowest f l) []) ≡ true
  unfolding lowest
  lowest_holds [] h = absurd (omega arith)
  lowest_holds (e ∷ es) h = go (f e) refl (lowest_holds es) h
    where
      go : (t : Bool) → f e ≡ t → (lowest f es < length es → f (get_or es (lowest f es) []) ≡ true)
          → pick t 0 (suc (lowest f es)) < suc (length es) → f (get_or (e ∷ es) (pick t 0 (suc (lowest f es))) []) ≡ true
      go true q ih h = q
      go false q ih h = ih (omega arith)

  -- below it the test fails
  lowest_first : (l : List Entry) (i : ℕ) → i < lowest f l → f (get_or l i []) ≡ false
  unfolding lowest
  lowest_first [] i h = absurd (omega arith)
  lowest_first (e ∷ es) i h = go (f e) refl i (λ j. lowest_first es j) h
    where
      go : (t : Bool) → f e ≡ t → (i : ℕ) → ((j : ℕ) → j < lowest f es → f (get_or es j []) ≡ false)
          → i < pick t 0 (suc (lowest f es)) → f (get_or (e ∷ es) i []) ≡ false
      go true q i ih h = absurd (omega arith)
      go false q zero ih h = q
      go false q (suc i) ih h = ih i (omega arith)

-- ---- in words: Such k says that the test holds of slot k

module _ (l : List Entry) (f : Entry → Bool) (Such : ℕ → Type 0) (says : (k : ℕ) → k < length l → f (get_or l k []) ≡ true → Such k)
    (said : (k : ℕ) → Such k → (k < length l) × (f (get_or l k []) ≡ true)) where
  pub finds : lowest f l < length l → First Such (lowest f l)
  finds h =
      (says (lowest f l) h (lowest_holds f l h), λ j below such. true≢false (sym (said j such).1 ∙ lowest_first f l j below))

  pub finds_none : length l ≤ lowest f l → (k : ℕ) → ¬ Such k
  finds_none h k such = true≢false (sym (said k such).1 ∙ lowest_first f l k (omega (arith, (said k such).0)))

  pub found : (k : ℕ) → First Such k → lowest f l ≡ k
  found k (such, least) = go (ltb (lowest f l) k) (ltb k (lowest f l)) refl refl
    where
      go : (a b : Bool) → ltb (lowest f l) k ≡ a → ltb k (lowest f l) ≡ b → lowest f l ≡ k
      go true b p q =
          let below = ltb-true (lowest f l) k p in
          absurd (least (lowest f l) below (finds (omega (arith, (said k such).0))).0)
      go false true p q = absurd (true≢false (sym (said k such).1 ∙ lowest_first f l k (ltb-true k (lowest f l) q)))
      go false false p q = omega (arith, ltb-false (lowest f l) k p, ltb-false k (lowest f l) q)

  pub none_found : ((k : ℕ) → ¬ Such k) → lowest f l ≡ length l
  none_found none = go (ltb (lowest f l) (length l)) refl
    where
      go : (a : Bool) → ltb (lowest f l) (length l) ≡ a → lowest f l ≡ length l
      go true p = absurd (none (lowest f l) (finds (ltb-true (lowest f l) (length l) p)).0)
      go false p = omega (arith, ltb-false (lowest f l) (length l) p, lowest_le f l)

-- ---- the tests, in words

live_says : (e : Entry) → live e ≡ true → get_or e 0 0 ≢ 0
live_says e h = eqb-false (get_or e 0 0) 0 (not-true (eqb (get_or e 0 0) 0) h)

says_live : (e : Entry) → get_or e 0 0 ≢ 0 → live e ≡ true
says_live e h = rw (ne_eqb (get_or e 0 0) 0 h)

module _ (recording place : ℕ) (e : Entry) where
  named_says : named recording place e ≡ true → (get_or e 0 0 ≢ 0) × (get_or e 1 0 ≡ recording) × (get_or e 2 0 ≡ place)
  named_says h =
      let a = and_true (live e && eqb (get_or e 1 0) recording) (eqb (get_or e 2 0) place) h in
      let b = and_true (live e) (eqb (get_or e 1 0) recording) a.0 in
      (live_says e b.0, eqb-true (get_or e 1 0) recording b.1, eqb-true (get_or e 2 0) place a.1)

  says_named : (get_or e 0 0 ≢ 0) → get_or e 1 0 ≡ recording → get_or e 2 0 ≡ place → named recording place e ≡ true
  says_named lives number where' = rw (ne_eqb (get_or e 0 0) 0 lives, eq-eqb (get_or e 1 0) recording number, eq-eqb (get_or e 2 0) place where')

-- ---- the slots of a table of 64

module _ (t : Rows) (all : length t ≡ 64) where
  module _ (recording place : ℕ) where
    held_says : (k : ℕ) → k < length t → named recording place (row t k) ≡ true → HeldAt t recording place k
    held_says k h n = let w = named_says recording place (row t k) n in (omega (arith, all), w.0, w.1, w.2)

    held_said : (k : ℕ) → HeldAt t recording place k → (k < length t) × (named recording place (row t k) ≡ true)
    held_said k (slot, lives, number, where') = (omega (arith, all), says_named recording place (row t k) lives number where')

    pub slot_held : slot_of recording place t < 64 → First (HeldAt t recording place) (slot_of recording place t)
    slot_held h = finds t (named recording place) (HeldAt t recording place) held_says held_said (omega (arith, all))

    pub slot_none : 64 ≤ slot_of recording place t → (k : ℕ) → ¬ HeldAt t recording place k
    slot_none h = finds_none t (named recording place) (HeldAt t recording place) held_says held_said (omega (arith, all))

    pub held_slot : (k : ℕ) → First (HeldAt t recording place) k → slot_of recording place t ≡ k
    held_slot = found t (named recording place) (HeldAt t recording place) held_says held_said

    pub none_slot : ((k : ℕ) → ¬ HeldAt t recording place k) → slot_of recording place t ≡ 64
    none_slot none = none_found t (named recording place) (HeldAt t recording place) held_says held_said none ∙ all

    pub held_below : (k : ℕ) → HeldAt t recording place k → slot_of recording place t < 64
    held_below k held = go (ltb (slot_of recording place t) 64) refl
      where
        go : (a : Bool) → ltb (slot_of recording place t) 64 ≡ a → slot_of recording place t < 64
        go true p = ltb-true (slot_of recording place t) 64 p
        go false p = absurd (slot_none (ltb-false (slot_of recording place t) 64 p) k held)

  free_says : (k : ℕ) → k < length t → free (row t k) ≡ true → FreeAt t k
  free_says k h f = (omega (arith, all), eqb-true (word t k 0) 0 f)

  free_said : (k : ℕ) → FreeAt t k → (k < length t) × (free (row t k) ≡ true)
  free_said k (slot, zero') = (omega (arith, all), eq-eqb (word t k 0) 0 zero')

  pub free_first : free_of t < 64 → First (FreeAt t) (free_of t)
  free_first h = finds t free (FreeAt t) free_says free_said (omega (arith, all))

  pub first_free : (k : ℕ) → First (FreeAt t) k → free_of t ≡ k
  first_free = found t free (FreeAt t) free_says free_said

  pub all_live : 64 ≤ free_of t → (k : ℕ) → k < 64 → LiveAt t k
  all_live h k slot = (slot, λ zero'. finds_none t free (FreeAt t) free_says free_said (omega (arith, all)) k (slot, zero'))

  pub live_all : ((k : ℕ) → k < 64 → LiveAt t k) → free_of t ≡ 64
  live_all lives = none_found t free (FreeAt t) free_says free_said (λ k (slot, zero'). (lives k slot).1 zero') ∙ all

  -- ---- where a name is to be held

  module _ (recording place : ℕ) where
    pub home_own : slot_of recording place t < 64 → home_of recording place t ≡ slot_of recording place t
    unfolding home_of
    home_own h = rw (lt-ltb (slot_of recording place t) 64 h)

    pub home_free : 64 ≤ slot_of recording place t → home_of recording place t ≡ free_of t
    unfolding home_of
    home_free h = rw (le-ltb (slot_of recording place t) 64 h)

  -- ---- the live entries, one by one

  module _ (from : ℕ) where
    live_from_says : (i : ℕ) → i < length (drop from t) → live (get_or (drop from t) i []) ≡ true → LiveAt t (from + i)
    live_from_says i h l =
        let here : live (row t (from + i)) ≡ true = rw get_or-drop at l in
        (omega (arith, all, rw length-drop at h), live_says (row t (from + i)) here)

    live_from_said : (i : ℕ) → LiveAt t (from + i) → (i < length (drop from t)) × (live (get_or (drop from t) i []) ≡ true)
    live_from_said i (slot, lives) = (rw length-drop (omega (arith, all)), rw get_or-drop (says_live (row t (from + i)) lives))

    pub next_first : (k : ℕ) → First (λ j. (from ≤ j) × LiveAt t j) k → next_live t from ≡ k
    unfolding lowest_from
    next_first k ((behind, (slot, lives)), least) =
        let i : from + (k - from) ≡ k = omega arith in
        let low : lowest live (drop from t) ≡ k - from =
        found (drop from t) live (λ i. LiveAt t (from + i)) live_from_says live_from_said (k - from)
        (rw i (slot, lives), λ j below such. least (from + j) (omega arith) (omega arith, such)) in
        rw (lt-ltb from 64 (omega arith), low) i

    pub next_none : ((j : ℕ) → from ≤ j → ¬ LiveAt t j) → next_live t from ≡ 64
    unfolding lowest_from
    next_none none = go (ltb from 64) refl
      where
        go : (b : Bool) → ltb from 64 ≡ b → pick b (from + lowest live (drop from t)) 64 ≡ 64
        go true p =
            let low : lowest live (drop from t) ≡ length (drop from t) =
            none_found (drop from t) live (λ i. LiveAt t (from + i)) live_from_says live_from_said (λ i such. none (from + i) (omega arith) such) in
            omega (arith, low, length-drop from t, all, ltb-true from 64 p)
        go false p = refl
