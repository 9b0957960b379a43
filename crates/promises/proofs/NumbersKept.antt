-- The tests of numbers that reader and writer share say what document 01 says.
use mathlib.Core.Path.{◌≡◌, refl}
use mathlib.Core.List.{List, [], ◌∷◌}
use mathlib.Core.Bool.{Bool, true, false, not, ◌&&◌, ◌||◌}
use mathlib.Core.Logic.{◌↔◌, ◌⊎◌, inl, inr, ⊎_elim, ◌≢◌}
use Prim.Native.Nat.{ℕ, zero, suc, ◌+◌, ◌-◌, ◌*◌, ◌%◌, ◌^◌, ◌≤◌, ◌<◌}
use native.Mathlib.Omega.{arith}
use native.Mathlib.Decide.{dec_le}
use lib.Dec.{leb, eqb}
use borrow.Author.Tests.{eqb-true, eqb-false, eq-eqb, ne_eqb, leb-true, le-leb, ltb-true, lt-ltb, not-true}
use Rattle.units.specs.Choice.{pick}
use Rattle.units.proofs.Choices.{and_true, or_true}
use Rattle.terms.specs.Times.{time_ok, rule_of}
use Rattle.frame.specs.Header.{secondary_bit, absolute_bit, time_format, sum_length, unfilled_length, length_for}
use Rattle.frame.specs.Rules as Rules
use Rattle.frame.specs.Rules.{message_rule}
use Rattle.frame.proofs.Frames.{lengths_say, length_is}
use Rattle.promises.specs.Refusals.{OneOf}
use Rattle.promises.specs.Numbers.{VersionKept, defined_types, TypeKept, FlagsKept, ChannelKept, LengthsKept, InFormat, TimeInForm}
use Rattle.promises.proofs.Members.{among, among_one}

-- ---- 5: version

pub version_exactly : (v : ℕ) → (Rules.version_ok v ≡ true) ↔ VersionKept v
version_exactly v = (
  λ t. let o = and_true (leb 1 v) (leb v 9) t in (leb-true 1 v o.0, leb-true v 9 o.1),
  λ r. rw (le-leb 1 v r.0, le-leb v 9 r.1),
)

-- ---- 6: type, by computing the tests of the 35 and of all bytes

every : (ℕ → Bool) → List ℕ → Bool
every test [] = true
every test (k ∷ ks) = test k && every test ks

every_one : (test : ℕ → Bool) (ks : List ℕ) (k : ℕ) → every test ks ≡ true → OneOf k ks → test k ≡ true
unfolding every
every_one test [] k all o = absurd o
every_one test (t ∷ ts) k all (inl e) = rw e (and_true (test t) (every test ts) all).0
every_one test (t ∷ ts) k all (inr o) = every_one test ts k (and_true (test t) (every test ts) all).1 o

pub type_made : (k : ℕ) → TypeKept k → Rules.type_ok k ≡ true
unfolding every
type_made k o = every_one Rules.type_ok defined_types k refl o

-- every type below n that the test lets through is among the 35
listed_below : ℕ → Bool
listed_below zero = true
listed_below (suc n) = (not (Rules.type_ok n) || among n defined_types) && listed_below n

listed_below_lem : (n k : ℕ) → k < n → listed_below n ≡ true → Rules.type_ok k ≡ true → among k defined_types ≡ true
unfolding listed_below
listed_below_lem zero k l e t = absurd (omega arith)
listed_below_lem (suc n) k l e t =
    let o = and_true (not (Rules.type_ok n) || among n defined_types) (listed_below n) e in
    go (dec_le n k) o.0 (λ h. listed_below_lem n k h o.1 t)
  where
    go : Dec (n ≤ k) → (not (Rules.type_ok n) || among n defined_types) ≡ true → (k < n → among k defined_types ≡ true) → among k defined_types ≡ true
    go (yes h) here before = let z : n ≡ k = omega arith in rw t at (rw z at here)
    go (no h) here before = before (omega arith)

pub type_says : (k : ℕ) → k < 256 → Rules.type_ok k ≡ true → TypeKept k
unfolding listed_below
type_says k l t = among_one k defined_types (listed_below_lem 256 k l refl t)

-- ---- 7: flags

pub flags_exactly : (f : ℕ) → (Rules.flags_ok f ≡ true) ↔ FlagsKept f
flags_exactly f = (says, λ r. rw (ne_eqb (time_format f) 3 r.0) (made (dec_le 1 (absolute_bit f)) r.1))
  where
    says : Rules.flags_ok f ≡ true → (time_format f ≢ 3) × (absolute_bit f ≡ 1 → secondary_bit f ≡ 1)
    says t =
        let o = and_true (not (eqb (time_format f) 3)) (eqb (absolute_bit f) 0 || eqb (secondary_bit f) 1) t in
        (eqb-false (time_format f) 3 (not-true (eqb (time_format f) 3) o.0), λ one. eqb-true (secondary_bit f) 1 (rw one at o.1))

    made : Dec (1 ≤ absolute_bit f) → (absolute_bit f ≡ 1 → secondary_bit f ≡ 1) → (eqb (absolute_bit f) 0 || eqb (secondary_bit f) 1) ≡ true
    made (yes h) r = let one : absolute_bit f ≡ 1 = omega arith in rw (one, eq-eqb (secondary_bit f) 1 (r one))
    made (no h) r = rw (eq-eqb (absolute_bit f) 0 (omega arith))

-- ---- 8: channel

pub channel_exactly : (c k : ℕ) → (Rules.channel_ok c k ≡ true) ↔ ChannelKept c k
channel_exactly c k = (says, made (eqb c 0) refl)
  where
    says : Rules.channel_ok c k ≡ true → c ≡ 0 → (k ≡ 0x01) ⊎ (k ≡ 0x04)
    says t z = ⊎_elim (λ h. inl (eqb-true k 0x01 h)) (λ h. inr (eqb-true k 0x04 h)) (or_true (eqb k 0x01) (eqb k 0x04) (rw z at t))

    either : (k ≡ 0x01) ⊎ (k ≡ 0x04) → (eqb k 0x01 || eqb k 0x04) ≡ true
    either (inl e) = rw e
    either (inr e) = rw e

    made : (b : Bool) → eqb c 0 ≡ b → (c ≡ 0 → (k ≡ 0x01) ⊎ (k ≡ 0x04)) → Rules.channel_ok c k ≡ true
    made true e r = rw e (either (r (eqb-true c 0 e)))
    made false e r = rw e

-- ---- 9: lengths

limit_exactly : (k p : ℕ) → (p ≤ Rules.limit k) ↔ ((p ≤ 524288) ⊎ ((k ≡ 0x01) × (p ≤ 134217728)))
unfolding Rules.limit
limit_exactly k p = (says (eqb k 0x01) refl, made (eqb k 0x01) refl)
  where
    says : (b : Bool) → eqb k 0x01 ≡ b → p ≤ pick b 134217728 524288 → (p ≤ 524288) ⊎ ((k ≡ 0x01) × (p ≤ 134217728))
    says true e h = inr (eqb-true k 0x01 e, h)
    says false e h = inl h

    made : (b : Bool) → eqb k 0x01 ≡ b → (p ≤ 524288) ⊎ ((k ≡ 0x01) × (p ≤ 134217728)) → p ≤ pick b 134217728 524288
    made true e (inl h) = omega arith
    made true e (inr h) = h.1
    made false e (inl h) = h
    made false e (inr h) = absurd (eqb-false k 0x01 e h.0)

-- P's parts, with the filler that is left
abbrev InParts : ℕ → ℕ → ℕ → Type 0
InParts f p d = (filler : ℕ) × (filler ≤ 3) × (p ≡ 24 + 12 * secondary_bit f + d + filler + sum_length f)

parts_exactly : (f p d : ℕ) → ((unfilled_length f d ≤ p) × (p ≤ unfilled_length f d + 3)) ↔ InParts f p d
parts_exactly f p d = (
  λ h. (p - unfilled_length f d, omega (arith, h.0, h.1), omega (arith, h.0)),
  λ (n, few, is). (omega (arith, is), omega (arith, is, few)),
)

lengths_made : (k f p d : ℕ) → p % 4 ≡ 0 → p ≤ Rules.limit k → 1 ≤ d → unfilled_length f d ≤ p → p ≤ unfilled_length f d + 3 → Rules.lengths_ok k f p d ≡ true
lengths_made k f p d fours most some parts few =
    rw (
      eq-eqb (p % 4) 0 fours,
      le-leb p (Rules.limit k) most,
      le-leb 1 d some,
      le-leb (unfilled_length f d) p parts,
      le-leb p (unfilled_length f d + 3) few,
    )

-- what the test says, and back
pub lengths_exactly : (k f p d : ℕ) → (Rules.lengths_ok k f p d ≡ true) ↔ LengthsKept k f p d
lengths_exactly k f p d = (
  λ t.
      let l = lengths_say k f p d t in
      record { fours = l.fours; most = (limit_exactly k p).0 l.within; some = l.some; parts = (parts_exactly f p d).0 (l.parts, l.few) },
  λ r.
      let o = (parts_exactly f p d).1 r.parts in
      lengths_made k f p d r.fours ((limit_exactly k p).1 r.most) r.some o.0 o.1,
)

-- there is one P for each D
pub length_one : (k f p d : ℕ) → LengthsKept k f p d → p ≡ length_for f d
length_one k f p d r = length_is k f p d ((lengths_exactly k f p d).1 r)

-- ---- times

-- by the format
time_says : (m t : ℕ) → time_ok (rule_of (2 + m)) t ≡ true → InFormat m t
unfolding time_ok rule_of
time_says m t h = record { chapter4 = λ e. eqb-true (t % 2 ^ 16) 0 (rw e at h); ieee1588 = λ e. ltb-true (t % 2 ^ 32) 1000000000 (rw e at h) }

time_made : (m t : ℕ) → InFormat m t → time_ok (rule_of (2 + m)) t ≡ true
unfolding time_ok rule_of
time_made zero t r = eq-eqb (t % 2 ^ 16) 0 (r.chapter4 refl)
time_made (suc zero) t r = lt-ltb (t % 2 ^ 32) 1000000000 (r.ieee1588 refl)
time_made (suc (suc m)) t r =
    let n = 2 + suc (suc m) in
    rw (ne_eqb n 1 (λ e. omega arith), ne_eqb n 2 (λ e. omega arith), ne_eqb n 3 (λ e. omega arith))

pub time_exactly : (m t : ℕ) → (time_ok (rule_of (2 + m)) t ≡ true) ↔ InFormat m t
time_exactly m t = (time_says m t, time_made m t)

pub counter_exactly : (t : ℕ) → (time_ok (rule_of 1) t ≡ true) ↔ (t < 2 ^ 48)
unfolding time_ok rule_of
counter_exactly t = (ltb-true t (2 ^ 48), lt-ltb t (2 ^ 48))

-- the rule's number, by the bit and the format
time_by : (a m t : ℕ) → a < 2 → (time_ok (rule_of (pick (eqb a 0) 1 (2 + m))) t ≡ true) ↔ ((a ≡ 0 → t < 2 ^ 48) × (a ≡ 1 → InFormat m t))
time_by zero m t l = (λ h. (λ z. (counter_exactly t).0 h, λ o. absurd (omega arith)), λ r. (counter_exactly t).1 (r.0 refl))
time_by (suc zero) m t l = (λ h. (λ z. absurd (omega arith), λ o. time_says m t h), λ r. time_made m t (r.1 refl))
time_by (suc (suc a)) m t l = absurd (omega arith)

pub message_time_exactly : (flags t : ℕ) → (time_ok (message_rule flags) t ≡ true) ↔ TimeInForm flags t
unfolding message_rule
message_time_exactly flags t =
    let by = time_by (absolute_bit flags) (time_format flags) t (omega arith) in
    (λ h. let r = by.0 h in record { counter = r.0; absolute = r.1 }, λ r. by.1 (r.counter, r.absolute))
