-- What a table keeps: the entry that was added, and the others, with their bytes.
use Rattle.std.specs.Prelude.{Result}
use mathlib.Core.Path.{◌≡◌, refl, sym, ap, subst, ◌∙◌}
use mathlib.Core.List.{List, [], ◌∷◌}
use mathlib.Core.Bool.{Bool, true, false}
use mathlib.Core.Logic.{◌↔◌, ⊎_elim, ◌≢◌}
use Prim.Native.Nat.{ℕ, ◌+◌, ◌*◌, ◌≤◌, ◌<◌}
use native.Mathlib.Omega.{arith}
use lib.ListN.{length, take, drop, get_or}
use lib.Seq.{take-take}
use lib.Dec.{ltb, eqb}
use borrow.Author.Tests.{ltb-true, ltb-false, eqb-true, eqb-false}
use Rattle.units.specs.Units.{part, splice}
use Rattle.units.proofs.Writes.{part_splice_before, part_splice_behind}
use Rattle.packet.specs.declared.Packet.{Packet}
use Rattle.promises.specs.Handed.{Within}
use Rattle.promises.proofs.Ends.{accepted_is}
use Rattle.renewal.specs.Table.{slot_of, home_of}
use Rattle.renewal.specs.Renewal.{add_told, table_renewed, renew_told}
use Rattle.renewal_promises.specs.Slots.{Rows, row, word, HeldAt, Accepts, Equals}
use Rattle.renewal_promises.specs.Calls.{Add, Renew}
use Rattle.renewal_promises.specs.Keeping.{Keeps, Other, Kept}
use Rattle.renewal_promises.proofs.Finding.{slot_held, slot_none, free_first, home_own, home_free}
use Rattle.renewal_promises.proofs.Added as adding
use Rattle.renewal_promises.proofs.Renewed as renewing
use Rattle.renewal_promises.proofs.Made.{held_row, not_dropped, put_name}
use Rattle.terms.specs.declared.Refusal.{Refusal}
use Rattle.renewal.specs.declared.Renewed.{Renewed}

-- two names in one slot are one
one_name : (t : Rows) (recording place recording' place' k : ℕ) → Other recording place recording' place' → HeldAt t recording place k → HeldAt t recording' place' k → ⊥
one_name t recording place recording' place' k other held held' =
    ⊎_elim (λ n. n (sym held'.2 ∙ held.2)) (λ n. n (sym held'.3 ∙ held.3)) other

-- ---- where a name goes, no other name is held

module _ (t : Rows) (all : length t ≡ 64) (recording place recording' place' : ℕ) (other : Other recording place recording' place') where
  not_home : (j : ℕ) → HeldAt t recording' place' j → home_of recording place t < 64 → j ≢ home_of recording place t
  not_home j held slot is = go (ltb (slot_of recording place t) 64) refl
    where
      go : (b : Bool) → ltb (slot_of recording place t) 64 ≡ b → ⊥
      go true h =
          let low = ltb-true (slot_of recording place t) 64 h in
          let own = home_own t all recording place low in
          one_name t recording place recording' place' j other (subst (HeldAt t recording place) (sym (is ∙ own)) (slot_held t all recording place low).0) held
      go false h =
          let none = ltb-false (slot_of recording place t) 64 h in
          let new = home_free t all recording place none in
          let free = (free_first t all (omega (arith, new, slot))).0 in
          held.1 (subst (λ (k : ℕ). word t k 0 ≡ 0) (sym (is ∙ new)) free.1)

  not_slot : (j : ℕ) → HeldAt t recording' place' j → slot_of recording place t < 64 → j ≢ slot_of recording place t
  not_slot j held low is =
      one_name t recording place recording' place' j other (subst (HeldAt t recording place) (sym is) (slot_held t all recording place low).0) held

-- the bytes of another slot
other_slot : (store : List ℕ) (j k : ℕ) (vs : List ℕ) → j ≢ k → k < 64 → 65536 ≤ length store → length vs ≤ 1024
    → part (splice store (k * 1024) vs) (j * 1024) 1024 ≡ part store (j * 1024) 1024
other_slot store j k vs other slot room short = go (ltb j k) refl
  where
    fits : k * 1024 + length vs ≤ length store
    fits = omega arith

    go : (b : Bool) → ltb j k ≡ b → part (splice store (k * 1024) vs) (j * 1024) 1024 ≡ part store (j * 1024) 1024
    go true h = part_splice_before store (k * 1024) vs fits (j * 1024) 1024 (omega (arith, ltb-true j k h))
    go false h = part_splice_behind store (k * 1024) vs fits (j * 1024) 1024 (omega (arith, ltb-false j k h, other))

module _ (t : Rows) (all : length t ≡ 64) (store : List ℕ) (recording place : ℕ) (buf : List ℕ) (start end : ℕ) where
  -- ---- other entries

  module _ (recording' place' : ℕ) (other : Other recording place recording' place') where
    pub add_others : (r : Result ℕ Refusal) (t' : Rows) (store' : List ℕ) → Add t store recording place buf start end r t' store' → (j : ℕ) → HeldAt t recording' place' j
        → Kept t store j t' store'
    add_others r t' store' call j held =
        ⊎_elim
        (λ kept. (ap (λ (u : Rows). row u j) kept.0, ap (λ (s : List ℕ). part s (j * 1024) 1024) kept.1))
        (λ p.
        let apart = not_home t all recording place recording' place' other j held p.slot in
        let long = adding.own_long buf start end place p.packet p.read in (
          p.put.others j apart,
          ap (λ (s : List ℕ). part s (j * 1024) 1024) p.written
              ∙ other_slot store j (home_of recording place t) (part buf start p.packet.length) apart p.slot p.room (omega (arith, long, p.short)),
        ))
        (adding.effect t all store recording place buf start end r t' store' call)

    pub renew_others : (r : Result Renewed Refusal) (t' : Rows) → Renew t store recording place buf start end r t' → (j : ℕ) → HeldAt t recording' place' j → Kept t store j t' store
    renew_others r t' call j held =
        ⊎_elim
        (λ kept. (ap (λ (u : Rows). row u j) kept, refl))
        (λ d. (d.drops.others j (not_slot t all recording place recording' place' other j held d.slot), refl))
        (renewing.effect t all store recording place buf start end r t' call)

    -- what they keep
    keeps_on : (t' : Rows) (store' bytes : List ℕ) → (k : Keeps t store recording' place' bytes) → Kept t store k.slot t' store'
        → ((j : ℕ) → j < k.slot → ¬ HeldAt t' recording' place' j) → Keeps t' store' recording' place' bytes
    keeps_on t' store' bytes k kept least =
        record {
          slot = k.slot;
          held = (held_row t' t recording' place' k.slot (sym kept.0) k.held.0, least);
          long = ap (λ (e : List ℕ). get_or e 3 0) kept.0 ∙ k.long;
          short = k.short;
          there =
              sym (take-take (length bytes) 1024 (drop (k.slot * 1024) store') k.short)
              ∙ ap (take (length bytes)) kept.1
              ∙ take-take (length bytes) 1024 (drop (k.slot * 1024) store) k.short
              ∙ k.there;
        }

    pub add_keeps_others : (r : Result ℕ Refusal) (t' : Rows) (store' : List ℕ) → Add t store recording place buf start end r t' store' → (bytes : List ℕ)
        → Keeps t store recording' place' bytes → Keeps t' store' recording' place' bytes
    add_keeps_others r t' store' call bytes k =
        keeps_on t' store' bytes k (add_others r t' store' call k.slot k.held.0) (λ j below held. ⊎_elim
        (λ kept. k.held.1 j below (subst (λ (u : Rows). HeldAt u recording' place' j) kept.0 held))
        (λ p. go j below held p (eqb j (home_of recording place t)) refl)
        (adding.effect t all store recording place buf start end r t' store' call))
      where
        go : (j : ℕ) → j < k.slot → HeldAt t' recording' place' j → adding.PutHome t all store recording place buf start end r t' store'
            → (b : Bool) → eqb j (home_of recording place t) ≡ b → ⊥
        go j below held p true is =
            let name = put_name t t' store store' recording place buf start p.packet (home_of recording place t) p.put recording' place'
            (subst (HeldAt t' recording' place') (eqb-true j (home_of recording place t) is) held) in
            ⊎_elim (λ n. n (sym name.0)) (λ n. n (sym name.1)) other
        go j below held p false is = k.held.1 j below (held_row t t' recording' place' j (p.put.others j (eqb-false j (home_of recording place t) is)) held)

    pub renew_keeps_others : (r : Result Renewed Refusal) (t' : Rows) → Renew t store recording place buf start end r t' → (bytes : List ℕ)
        → Keeps t store recording' place' bytes → Keeps t' store recording' place' bytes
    renew_keeps_others r t' call bytes k =
        keeps_on t' store bytes k (renew_others r t' call k.slot k.held.0) (λ j below held. ⊎_elim
        (λ kept. k.held.1 j below (subst (λ (u : Rows). HeldAt u recording' place' j) kept held))
        (λ d. go j below held d (eqb j (slot_of recording place t)) refl)
        (renewing.effect t all store recording place buf start end r t' call))
      where
        go : (j : ℕ) → j < k.slot → HeldAt t' recording' place' j → renewing.DropsHome t all store recording place buf start end t'
            → (b : Bool) → eqb j (slot_of recording place t) ≡ b → ⊥
        go j below held d true is =
            not_dropped t t' (slot_of recording place t) d.drops recording' place' (subst (HeldAt t' recording' place') (eqb-true j (slot_of recording place t) is) held)
        go j below held d false is = k.held.1 j below (held_row t t' recording' place' j (d.drops.others j (eqb-false j (slot_of recording place t) is)) held)

  -- ---- the entry that was added

  -- below its slot the name is not held
  least_home : (j : ℕ) → j < home_of recording place t → ¬ HeldAt t recording place j
  least_home j below held = go (ltb (slot_of recording place t) 64) refl
    where
      go : (b : Bool) → ltb (slot_of recording place t) 64 ≡ b → ⊥
      go true h =
          let low = ltb-true (slot_of recording place t) 64 h in
          (slot_held t all recording place low).1 j (omega (arith, home_own t all recording place low, below)) held
      go false h = slot_none t all recording place (ltb-false (slot_of recording place t) 64 h) j held

  keeps_put : (r : Result ℕ Refusal) (t' : Rows) (store' : List ℕ) → (p : adding.PutHome t all store recording place buf start end r t' store')
      → Keeps t' store' recording place (part buf start p.packet.length)
  keeps_put r t' store' p =
      let k = home_of recording place t in
      let long = adding.own_long buf start end place p.packet p.read in
      let word_of : (i : ℕ) → word t' k i ≡ get_or (1 ∷ recording ∷ place ∷ p.packet.length ∷ p.packet.fields.channel ∷ p.packet.fields.sequence ∷ p.packet.fields.rtc ∷ []) i 0
      = λ i. ap (λ (e : List ℕ). get_or e i 0) p.put.entry in
      record {
        slot = k;
        held = (
          (p.slot, λ z. absurd (omega (arith, sym (word_of 0) ∙ z)), word_of 1, word_of 2),
          λ j below held. least_home j below (held_row t t' recording place j (p.put.others j (λ is. omega (arith, is, below))) held),
        );
        long = word_of 3 ∙ sym long;
        short = omega (arith, long, p.short);
        there = ap (part store' (k * 1024)) long ∙ p.put.bytes;
      }

  pub add_keeps : (r : Result ℕ Refusal) (t' : Rows) (store' : List ℕ) (p : Packet) → Add t store recording place buf start end r t' store' → (add_told r).refusal.number ≡ 0
      → Accepts buf start end place p → Keeps t' store' recording place (part buf start p.length)
  add_keeps r t' store' p call z accepted =
      ⊎_elim
      (λ kept. absurd (kept.2 z))
      (λ put.
      let one = adding.one_packet buf start end place put.packet p put.read (accepted_is buf start end place p accepted) in
      subst (λ (q : Packet). Keeps t' store' recording place (part buf start q.length)) one (keeps_put r t' store' put))
      (adding.effect t all store recording place buf start end r t' store' call)

  -- ---- its renewal

  pub renew_keeps : (r : Result Renewed Refusal) (t' : Rows) (bytes : List ℕ) → Renew t store recording place buf start end r t' → (renew_told r).lives ≡ 1
      → Keeps t store recording place bytes → Keeps t' store recording place bytes
  unfolding table_renewed
  renew_keeps r t' bytes call one k =
      let lives = (renewing.renews t all store recording place buf start end r t' call).answers one in
      let same : t' ≡ t = call.1 ∙ rw lives in
      subst (λ (u : Rows). Keeps u store recording place bytes) (sym same) k

  pub keeps_lives : (r : Result Renewed Refusal) (t' : Rows) (bytes : List ℕ) → Renew t store recording place buf start end r t' → 65536 ≤ length store
      → Within buf start end place → Keeps t store recording place bytes
      → ((renew_told r).lives ≡ 1) ↔ ((p : Packet) × Accepts buf start end place p × (part buf start p.length ≡ bytes))
  keeps_lives r t' bytes call room within k =
      let judged = (renewing.renews t all store recording place buf start end r t' call).judged room k.slot k.held within in
      (λ one. equal (judged.lives.0 one), λ (p, accepted, is). judged.lives.1 (equals p accepted is))
    where
      equal : Equals t store k.slot buf start end place → (p : Packet) × Accepts buf start end place p × (part buf start p.length ≡ bytes)
      equal e =
          let long : e.packet.length ≡ length bytes = sym e.long ∙ k.long in
          (e.packet, e.accepted, sym e.bytes ∙ ap (part store (k.slot * 1024)) long ∙ k.there)

      equals : (p : Packet) → Accepts buf start end place p → part buf start p.length ≡ bytes → Equals t store k.slot buf start end place
      equals p accepted is =
          let long : p.length ≡ length bytes = sym (adding.own_long buf start end place p (accepted_is buf start end place p accepted)) ∙ ap length is in
          record {
            packet = p;
            accepted = accepted;
            short = omega (arith, long, k.short);
            long = k.long ∙ sym long;
            bytes = ap (part store (k.slot * 1024)) long ∙ k.there ∙ sym is;
          }
