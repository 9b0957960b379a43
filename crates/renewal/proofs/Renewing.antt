-- What renewing says and leaves behind, path by path.
use Rattle.std.specs.Prelude.{Result, Ok, Err}
use mathlib.Core.Path.{◌≡◌, refl, sym, ap, ◌∙◌}
use mathlib.Core.List.{List}
use mathlib.Core.Bool.{Bool, true, false}
use Prim.Native.Nat.{ℕ, ◌*◌, ◌≤◌, ◌<◌}
use native.Mathlib.Omega.{arith}
use lib.ListN.{length, take}
use borrow.Author.Tests.{lt-ltb, le-ltb, le-leb, lt-leb}
use Rattle.units.specs.Units.{part, same}
use Rattle.units.proofs.Parts.{length_part}
use Rattle.units.proofs.Sames.{same_long}
use Rattle.terms.specs.Refusals.{no_refusal}
use Rattle.terms.specs.declared.Refusal.{Refusal}
use Rattle.packet.specs.Read.{inside, window, read_packet}
use Rattle.renewal.specs.Table.{Entry, length_of, entry, slot_of}
use Rattle.renewal.specs.Renewal.{barred, store_small, own_bytes, holds, judged, renew_entry, table_renewed}
use Rattle.packet.proofs.Window.{own_part}
use Rattle.renewal.proofs.Passing.{Taken}
use Rattle.renewal.specs.declared.Renewed.{Renewed}
use Rattle.renewal.specs.declared.Renewed.TheVariants.{Lives, Dropped}

-- ---- the held bytes

module _ (store : List ℕ) (k n : ℕ) (bytes : List ℕ) where
  pub held_forged : 1024 < n → false ≡ holds store k n bytes
  unfolding holds
  held_forged h = rw (lt-leb n 1024 h)

  pub held_other : 65536 ≤ length store → k < 64 → n ≤ 1024 → (n ≡ length bytes → ⊥) → false ≡ holds store k n bytes
  unfolding holds
  held_other room slot short other =
      let long : length (part store (k * 1024) n) ≡ n = length_part store (k * 1024) n (omega arith) in
      rw (le-leb n 1024 short) (sym (same_long (part store (k * 1024) n) bytes (λ q. other (sym long ∙ q))))

  pub held_by : n ≤ 1024 → (r : Bool) → r ≡ same (part store (k * 1024) n) bytes → r ≡ holds store k n bytes
  unfolding holds
  held_by short r is = is ∙ rw (le-leb n 1024 short)

-- ---- the judgement

module _ (store : List ℕ) (k n : ℕ) (buf : List ℕ) (s e place : ℕ) where
  pub judge_refused : (r : Refusal) → read_packet buf s e place ≡ Err r → Ok (Dropped r) ≡ judged (read_packet buf s e place) store k n (window buf s e)
  unfolding judged
  judge_refused r read = rw read

  module _ (p : ℕ) (got : Taken buf s e place p) (b : Bool) (is : b ≡ holds store k n (part buf s p)) where
    own : b ≡ holds store k n (own_bytes (window buf s e))
    own =
        let bytes : part buf s p ≡ own_bytes (window buf s e) = own_part buf s e p (omega (arith, got.there, got.reach)) ∙ ap (λ (m : ℕ). take m (window buf s e)) got.own in
        is ∙ ap (holds store k n) bytes

    pub judge_lives : b ≡ true → (Ok Lives) ≡ judged (read_packet buf s e place) store k n (window buf s e)
    unfolding judged
    judge_lives h = rw (got.read, ← own, h)

    pub judge_differs : (r : Refusal) → b ≡ false → r ≡ no_refusal → Ok (Dropped r) ≡ judged (read_packet buf s e place) store k n (window buf s e)
    unfolding judged
    judge_differs r h none = rw (got.read, ← own, h, none)

-- ---- the call

module _ (t : List Entry) (store : List ℕ) (recording place : ℕ) (buf : List ℕ) (s e : ℕ) where
  abbrev told : Result Renewed Refusal
  told = renew_entry t store recording place buf s e

  pub renew_small : (r : Refusal) → length store < 65536 → r ≡ store_small s place → Err r ≡ told
  unfolding renew_entry
  renew_small r h is = rw (lt-ltb (length store) 65536 h, is)

  module _ (room : 65536 ≤ length store) where
    pub renew_none : (r : Refusal) → 64 ≤ slot_of recording place t → r ≡ barred 20 s place → Err r ≡ told
    unfolding renew_entry
    renew_none r h is = rw (le-ltb (length store) 65536 room, le-leb 64 (slot_of recording place t) h, is)

    module _ (k : ℕ) (slot : k ≡ slot_of recording place t) (low : k < 64) where
      pub renew_outside : (r : Refusal) → inside buf s e place ≡ false → r ≡ barred 1 s place → Err r ≡ told
      unfolding renew_entry
      renew_outside r i is = rw (le-ltb (length store) 65536 room, ← slot) (rw (lt-leb 64 k low, i, is))

      pub renew_judged : (x : Result Renewed Refusal) → inside buf s e place ≡ true
          → x ≡ judged (read_packet buf s e place) store k (length_of (entry t k)) (window buf s e) → x ≡ told
      unfolding renew_entry
      renew_judged x i is = rw (le-ltb (length store) 65536 room, ← slot) (rw (lt-leb 64 k low, i) is)

-- ---- what a refusal leaves

pub table_kept : (r : Refusal) (t : List Entry) (k : ℕ) → t ≡ table_renewed (Err r) t k
unfolding table_renewed
table_kept r t k = refl
