-- Tables made by adding and renewing: 64 slots, each name at most once, and what is withdrawn is gone.
use Rattle.std.specs.Prelude.{Result, Ok, Err}
use mathlib.Core.Path.{◌≡◌, refl, sym, ap, subst, ◌∙◌}
use mathlib.Core.List.{List, []}
use mathlib.Core.Bool.{Bool, true, false}
use mathlib.Core.Logic.{⊎_elim, ◌≢◌}
use Prim.Native.Nat.{ℕ, ◌≤◌, ◌<◌}
use native.Mathlib.Omega.{arith}
use lib.ListN.{length, get_or, replicate, length-set, get_or-replicate}
use lib.Dec.{ltb, eqb}
use borrow.Author.Tests.{ltb-true, ltb-false, eqb-true, eqb-false}
use Rattle.packet.specs.declared.Packet.{Packet}
use Rattle.promises.specs.Handed.{Within}
use Rattle.renewal.specs.Table.{Entry, no_entry, slot_of, home_of}
use Rattle.renewal.specs.Renewal.{entry_in, table_added, table_renewed, RenewTold}
use Rattle.renewal_promises.specs.Slots.{Rows, row, HeldAt, First, Equals}
use Rattle.renewal_promises.specs.Adding.{Put}
use Rattle.renewal_promises.specs.Renewing.{Drops}
use Rattle.renewal_promises.specs.Calls.{Add, Renew}
use Rattle.renewal_promises.specs.Keeping.{Made, empty, added, renewed}
use Rattle.renewal_promises.proofs.Finding.{slot_held, slot_none, held_slot, home_own}
use Rattle.renewal_promises.proofs.Added as adding
use Rattle.renewal_promises.proofs.Renewed as renewing
use Rattle.terms.specs.declared.Refusal.{Refusal}
use Rattle.renewal.specs.declared.Renewed.{Renewed}
use Rattle.renewal.specs.declared.Renewed.TheVariants.{Lives, Dropped}

-- a name is held where the row says so
pub held_row : (t u : Rows) (recording place j : ℕ) → row u j ≡ row t j → HeldAt u recording place j → HeldAt t recording place j
held_row t u recording place j same held =
    subst (λ (e : List ℕ). (j < 64) × (get_or e 0 0 ≢ 0) × (get_or e 1 0 ≡ recording) × (get_or e 2 0 ≡ place)) same held

-- a slot that is dropped holds no name
pub not_dropped : (t t' : Rows) (k : ℕ) → Drops t k t' → (recording place : ℕ) → ¬ HeldAt t' recording place k
not_dropped t t' k d recording place held = held.1 (ap (λ (e : List ℕ). get_or e 0 0) d.free)

-- ---- 64 slots

module _ (t : Rows) where
  added_long : (r : Result ℕ Refusal) (e : Entry) → length (table_added r t e) ≡ length t
  unfolding table_added
  added_long (Ok k) e = length-set t k e
  added_long (Err f) e = refl

  renewed_long : (r : Result Renewed Refusal) (k : ℕ) → length (table_renewed r t k) ≡ length t
  unfolding table_renewed
  renewed_long (Ok Lives) k = refl
  renewed_long (Ok (Dropped f)) k = length-set t k no_entry
  renewed_long (Err f) k = refl

pub slots : (t : Rows) → Made t → length t ≡ 64
slots _ empty = refl
slots _ (added {t} m store recording place buf start end r store' (is, ti, si)) = ap length ti ∙ added_long t r (entry_in recording place buf start end) ∙ slots t m
slots _ (renewed {t} m store recording place buf start end r (is, ti)) = ap length ti ∙ renewed_long t r (slot_of recording place t) ∙ slots t m

-- ---- each name at most once

abbrev pub Single : Rows → Type 0
Single t = (recording place j k : ℕ) → HeldAt t recording place j → HeldAt t recording place k → j ≡ k

-- one slot is written, and what it holds there no other slot holds
single_set : (t u : Rows) (h : ℕ) → ((j : ℕ) → j ≢ h → row u j ≡ row t j) → Single t
    → ((recording place k : ℕ) → HeldAt u recording place h → k ≢ h → HeldAt t recording place k → ⊥) → Single u
single_set t u h others single alone recording place j k held-j held-k = go (eqb j h) (eqb k h) refl refl
  where
    go : (a b : Bool) → eqb j h ≡ a → eqb k h ≡ b → j ≡ k
    go true true p q = eqb-true j h p ∙ sym (eqb-true k h q)
    go true false p q =
        let other = eqb-false k h q in
        absurd (alone recording place k (subst (HeldAt u recording place) (eqb-true j h p) held-j) other (held_row t u recording place k (others k other) held-k))
    go false true p q =
        let other = eqb-false j h p in
        absurd (alone recording place j (subst (HeldAt u recording place) (eqb-true k h q) held-k) other (held_row t u recording place j (others j other) held-j))
    go false false p q =
        let j-other = eqb-false j h p in
        let k-other = eqb-false k h q in
        single recording place j k (held_row t u recording place j (others j j-other) held-j) (held_row t u recording place k (others k k-other) held-k)

-- where a name goes no other slot holds it, if none is held twice
pub home_alone : (t : Rows) → length t ≡ 64 → Single t → (recording place k : ℕ) → k ≢ home_of recording place t → ¬ HeldAt t recording place k
home_alone t all single recording place k other held = go (ltb (slot_of recording place t) 64) refl
  where
    go : (b : Bool) → ltb (slot_of recording place t) 64 ≡ b → ⊥
    go true h =
        let low = ltb-true (slot_of recording place t) 64 h in
        other (single recording place k (slot_of recording place t) held (slot_held t all recording place low).0 ∙ sym (home_own t all recording place low))
    go false h = slot_none t all recording place (ltb-false (slot_of recording place t) 64 h) k held

-- the name of what adding puts down is its own
pub put_name : (t t' : Rows) (store store' : List ℕ) (recording place : ℕ) (buf : List ℕ) (start : ℕ) (p : Packet) (k : ℕ)
    → Put t store recording place buf start p k t' store' → (recording' place' : ℕ) → HeldAt t' recording' place' k → (recording ≡ recording') × (place ≡ place')
put_name t t' store store' recording place buf start p k put recording' place' (slot, lives, number, there) =
    (sym (ap (λ (e : List ℕ). get_or e 1 0) put.entry) ∙ number, sym (ap (λ (e : List ℕ). get_or e 2 0) put.entry) ∙ there)

module _ (t : Rows) (all : length t ≡ 64) (single : Single t) (store : List ℕ) (recording place : ℕ) (buf : List ℕ) (start end : ℕ) where
  single_add : (r : Result ℕ Refusal) (t' : Rows) (store' : List ℕ) → Add t store recording place buf start end r t' store' → Single t'
  single_add r t' store' call =
      ⊎_elim
      (λ kept. subst Single (sym kept.0) single)
      (λ p. single_set t t' (home_of recording place t) p.put.others single
      (λ recording' place' k held other.
      let name = put_name t t' store store' recording place buf start p.packet (home_of recording place t) p.put recording' place' held in
      subst (λ (m : ℕ). ¬ HeldAt t m place' k) name.0
      (subst (λ (m : ℕ). ¬ HeldAt t recording m k) name.1 (home_alone t all single recording place k other))))
      (adding.effect t all store recording place buf start end r t' store' call)

  single_renew : (r : Result Renewed Refusal) (t' : Rows) → Renew t store recording place buf start end r t' → Single t'
  single_renew r t' call =
      ⊎_elim
      (λ kept. subst Single (sym kept) single)
      (λ d. single_set t t' (slot_of recording place t) d.drops.others single
      (λ recording' place' k held other found. not_dropped t t' (slot_of recording place t) d.drops recording' place' held))
      (renewing.effect t all store recording place buf start end r t' call)

-- the empty table holds no name
pub none_empty : (recording place k : ℕ) → ¬ HeldAt (replicate 64 (replicate 7 0)) recording place k
none_empty recording place k (slot, lives, number, there) =
    lives (ap (λ (e : List ℕ). get_or e 0 0) (get_or-replicate 64 k (replicate 7 0) [] slot))

pub once : (t : Rows) → Made t → Single t
once _ empty = λ recording place j k held-j held-k. absurd (none_empty recording place j held-j)
once _ (added {t} {t'} m store recording place buf start end r store' call) = single_add t (slots t m) (once t m) store recording place buf start end r t' store' call
once _ (renewed {t} {t'} m store recording place buf start end r call) = single_renew t (slots t m) (once t m) store recording place buf start end r t' call

-- ---- what is withdrawn is gone

module _ (t : Rows) (made : Made t) (store : List ℕ) (recording place : ℕ) (buf : List ℕ) (start end : ℕ) (r : Result Renewed Refusal) (t' : Rows)
    (call : Renew t store recording place buf start end r t') (room : 65536 ≤ length store) (window : Within buf start end place)
    (away : (k : ℕ) → HeldAt t recording place k → ¬ Equals t store k buf start end place) where
  abbrev all : length t ≡ 64
  all = slots t made

  gone_held : slot_of recording place t < 64 → (k : ℕ) → ¬ HeldAt t' recording place k
  gone_held low k held =
      let first = slot_held t all recording place low in
      let judged = (renewing.renews t all store recording place buf start end r t' call).judged room (slot_of recording place t) first window in
      go (eqb k (slot_of recording place t)) refl first (judged.dropped (λ one. away (slot_of recording place t) first.0 (judged.lives.0 one))).1
    where
      go : (b : Bool) → eqb k (slot_of recording place t) ≡ b → First (HeldAt t recording place) (slot_of recording place t) → Drops t (slot_of recording place t) t' → ⊥
      go true is first dropped =
          not_dropped t t' (slot_of recording place t) dropped recording place (subst (HeldAt t' recording place) (eqb-true k (slot_of recording place t) is) held)
      go false is first dropped =
          let other = eqb-false k (slot_of recording place t) is in
          other (once t made recording place k (slot_of recording place t) (held_row t t' recording place k (dropped.others k other) held) first.0)

  gone_none : 64 ≤ slot_of recording place t → (k : ℕ) → ¬ HeldAt t' recording place k
  gone_none none k held =
      let says = renewing.renews t all store recording place buf start end r t' call in
      let told = says.absent room (slot_none t all recording place none) in
      let same : t' ≡ t = says.untouched (λ z. absurd (omega (arith, sym (ap (λ (x : RenewTold). x.refusal.number) told) ∙ z))) in
      slot_none t all recording place none k (subst (λ (u : Rows). HeldAt u recording place k) same held)

  pub gone : (k : ℕ) → ¬ HeldAt t' recording place k
  gone = go (ltb (slot_of recording place t) 64) refl
    where
      go : (b : Bool) → ltb (slot_of recording place t) 64 ≡ b → (k : ℕ) → ¬ HeldAt t' recording place k
      go true h = gone_held (ltb-true (slot_of recording place t) 64 h)
      go false h = gone_none (ltb-false (slot_of recording place t) 64 h)

-- ---- of a name held twice the other entry stays

pub second : (t : Rows) → length t ≡ 64 → (store : List ℕ) (recording place : ℕ) (buf : List ℕ) (start end : ℕ) (r : Result Renewed Refusal) (t' : Rows)
    → Renew t store recording place buf start end r t'
    → (k : ℕ) → First (HeldAt t recording place) k → (j : ℕ) → j ≢ k → HeldAt t recording place j → HeldAt t' recording place j
second t all store recording place buf start end r t' call k first j other held =
    ⊎_elim
    (λ kept. subst (λ (u : Rows). HeldAt u recording place j) (sym kept) held)
    (λ d. held_row t' t recording place j (sym (d.drops.others j (λ is. other (is ∙ held_slot t all recording place k first)))) held)
    (renewing.effect t all store recording place buf start end r t' call)
