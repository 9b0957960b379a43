-- Nothing outside the window has a say.
use Rattle.std.specs.Prelude.{Result, Ok, Err}
use mathlib.Core.Path.{◌≡◌, refl, sym, ap, subst, ◌∙◌}
use mathlib.Core.List.{List}
use mathlib.Core.Bool.{Bool, true, false}
use mathlib.Core.Logic.{⊎_elim, ◌≢◌}
use Prim.Native.Nat.{ℕ, ◌*◌, ◌≤◌, ◌<◌}
use native.Mathlib.Omega.{arith}
use lib.ListN.{length, set}
use lib.Dec.{ltb, eqb}
use borrow.Author.Tests.{ltb-true, ltb-false, eqb-true, eqb-false}
use Rattle.units.specs.Units.{part}
use Rattle.terms.specs.declared.Refusal.{Refusal}
use Rattle.packet.specs.Read.{window, packet_in, read_packet, packet_told}
use Rattle.packet.specs.declared.Packet.{Packet}
use Rattle.packet.proofs.Passes.{inside_made, inside_same, PassedBytes}
use Rattle.packet.proofs.Own.{packet_in_length, accepted_at, at_accepted}
use Rattle.packet.proofs.Told.{refusal_numbered}
use Rattle.packet.proofs.Window.{read_window}
use Rattle.promises.specs.Endings.{refused_there}
use Rattle.promises.specs.Handed.{Within}
use Rattle.promises.proofs.HandedOut.{within_inside}
use Rattle.promises.proofs.Refusing.{all_lines, number_is}
use Rattle.promises.proofs.Ends.{accepted_is}
use Rattle.renewal.specs.Table.{no_entry, slot_of, home_of}
use Rattle.renewal.specs.Renewal.{add_entry, entry_in, own_bytes, AddTold, add_told, renew_entry, table_renewed, RenewTold, renew_told}
use Rattle.renewal_promises.specs.Slots.{Rows, Equals}
use Rattle.renewal_promises.specs.Adding.{small_store, Comes, Adding}
use Rattle.renewal_promises.specs.Renewing.{refused_told, Judged, Renewing}
use Rattle.renewal_promises.specs.Calls.{Add, Renew}
use Rattle.renewal_promises.proofs.Finding.{slot_held, slot_none}
use Rattle.renewal_promises.proofs.Added as adding
use Rattle.renewal_promises.proofs.Added.{own_bytes_lem, told_accepted}
use Rattle.renewal_promises.proofs.Renewed.{renews}
use Rattle.renewal.specs.declared.Renewed.{Renewed}
use Rattle.renewal.specs.declared.Renewed.TheVariants.{Dropped}

-- ---- two buffers that both reach to the end, with the same bytes from start to it

module _ (t : Rows) (store : List ℕ) (recording place : ℕ) (a b : List ℕ) (start end : ℕ) (in_a : end ≤ length a) (in_b : end ≤ length b)
    (same : window a start end ≡ window b start end) where
  pub add_inside : (r q : Result ℕ Refusal) (t₁ t₂ : Rows) (store₁ store₂ : List ℕ) → Add t store recording place a start end r t₁ store₁
      → Add t store recording place b start end q t₂ store₂ → (r ≡ q) × (t₁ ≡ t₂) × (store₁ ≡ store₂)
  unfolding add_entry
  add_inside r q t₁ t₂ store₁ store₂ (ra, ta, sa) (rb, tb, sb) =
      let told : r ≡ q = ra ∙ rw (read_window a b start end place in_a in_b same) (sym rb) in (
        told,
        ta ∙ rw (told, same) (sym tb),
        sa ∙ rw (told, same) (sym sb),
      )

  pub renew_inside : (r q : Result Renewed Refusal) (t₁ t₂ : Rows) → Renew t store recording place a start end r t₁ → Renew t store recording place b start end q t₂
      → (r ≡ q) × (t₁ ≡ t₂)
  unfolding renew_entry
  renew_inside r q t₁ t₂ (ra, ta) (rb, tb) =
      let told : r ≡ q = ra ∙ rw (read_window a b start end place in_a in_b same, inside_same a b start end place in_a in_b, same) (sym rb) in
      (told, ta ∙ rw told (sym tb))

-- ---- the same bytes elsewhere in a buffer

-- the packet there
module _ (a b : List ℕ) (s e s' e' place : ℕ) (in_b : Within b s' e' place) (same : window a s e ≡ window b s' e') where
  pub read_elsewhere : (p : Packet) → read_packet a s e place ≡ Ok p → (q : Packet) × (read_packet b s' e' place ≡ Ok q) × (q.length ≡ p.length)
  read_elsewhere p read =
      let at = accepted_at a s e place p read in
      let w = window b s' e' in
      let long : p.length ≡ (packet_in w s' place).length = rw same at at.passes.long ∙ packet_in_length w s' place in
      let passes : PassedBytes w (packet_in w s' place).length = subst (PassedBytes w) long (subst (λ (v : List ℕ). PassedBytes v p.length) same at.passes) in
      (packet_in w s' place, at_accepted b s' e' place (packet_in w s' place) (within_inside b s' e' place in_b) passes refl, sym long)

  -- and the number of what is said of it
  pub number_elsewhere : Within a s e place → (packet_told (read_packet a s e place)).refusal.number ≡ (packet_told (read_packet b s' e' place)).refusal.number
  unfolding all_lines
  number_elsewhere in_a =
      number_is a s e place
      ∙ rw (inside_made a s e place (within_inside a s e place in_a), inside_made b s' e' place (within_inside b s' e' place in_b), same) refl
      ∙ sym (number_is b s' e' place)

  pub equals_elsewhere : (t : Rows) (store : List ℕ) (k : ℕ) → Equals t store k a s e place → Equals t store k b s' e' place
  equals_elsewhere t store k eq =
      let p = eq.packet in
      let read = accepted_is a s e place p eq.accepted in
      let there = read_elsewhere p read in
      let q = there.0 in
      let bytes : part a s p.length ≡ part b s' q.length = sym (own_bytes_lem a s e place p read) ∙ ap own_bytes same ∙ own_bytes_lem b s' e' place q there.1 in
      record {
        packet = q;
        accepted = told_accepted b s' e' place q there.1;
        short = omega (arith, there.2, eq.short);
        long = eq.long ∙ sym there.2;
        bytes = ap (part store (k * 1024)) there.2 ∙ eq.bytes ∙ bytes;
      }

module _ (t : Rows) (all : length t ≡ 64) (store : List ℕ) (recording place : ℕ) (a b : List ℕ) (s e s' e' : ℕ) (in_a : Within a s e place) (in_b : Within b s' e' place)
    (same : window a s e ≡ window b s' e') (r q : Result Renewed Refusal) (t₁ t₂ : Rows) (call-a : Renew t store recording place a s e r t₁)
    (call-b : Renew t store recording place b s' e' q t₂) where
  abbrev Alike : Type 0
  Alike =
      ((renew_told r).refusal.number ≡ (renew_told q).refusal.number) × ((renew_told r).lives ≡ (renew_told q).lives)
      × ((renew_told r).cause.number ≡ (renew_told q).cause.number) × (t₁ ≡ t₂)

  -- a refusal leaves the table as it was
  both_refused : (f g : Refusal) → f.number ≡ g.number → f.number ≢ 0 → g.number ≢ 0 → renew_told r ≡ refused_told f → renew_told q ≡ refused_told g → Alike
  both_refused f g one some-f some-g told-a told-b =
      let says-a = renews t all store recording place a s e r t₁ call-a in
      let says-b = renews t all store recording place b s' e' q t₂ call-b in
      let number : RenewTold → ℕ = λ x. x.refusal.number in (
        ap number told-a ∙ one ∙ sym (ap number told-b),
        ap (λ (x : RenewTold). x.lives) told-a ∙ sym (ap (λ (x : RenewTold). x.lives) told-b),
        ap (λ (x : RenewTold). x.cause.number) told-a ∙ sym (ap (λ (x : RenewTold). x.cause.number) told-b),
        says-a.untouched (λ z. some-f (sym (ap number told-a) ∙ z)) ∙ sym (says-b.untouched (λ z. some-g (sym (ap number told-b) ∙ z))),
      )

  -- a table whose entry of the name is dropped
  after_drop : (x : Result Renewed Refusal) (u : Rows) (f : Refusal) → u ≡ table_renewed x t (slot_of recording place t) → x ≡ Ok (Dropped f) → u ≡ set t (slot_of recording place t) no_entry
  unfolding table_renewed
  after_drop x u f is drop = is ∙ rw drop

  both_judged : 65536 ≤ length store → slot_of recording place t < 64 → Alike
  both_judged room low =
      let first = slot_held t all recording place low in
      let says-a = renews t all store recording place a s e r t₁ call-a in
      let says-b = renews t all store recording place b s' e' q t₂ call-b in
      let judged-a = says-a.judged room (slot_of recording place t) first in_a in
      let judged-b = says-b.judged room (slot_of recording place t) first in_b in
      go says-a says-b judged-a judged-b (eqb (renew_told r).lives 1) refl
    where
      none : Judged t store recording place a s e (slot_of recording place t) r t₁ → Judged t store recording place b s' e' (slot_of recording place t) q t₂
          → (renew_told r).refusal.number ≡ (renew_told q).refusal.number
      none judged-a judged-b = ap (λ (x : Refusal). x.number) (judged-a.accepted ∙ sym judged-b.accepted)

      cause : Judged t store recording place a s e (slot_of recording place t) r t₁ → Judged t store recording place b s' e' (slot_of recording place t) q t₂
          → (renew_told r).cause.number ≡ (renew_told q).cause.number
      cause judged-a judged-b =
          ap (λ (x : Refusal). x.number) judged-a.cause ∙ number_elsewhere a b s e s' e' place in_b same in_a ∙ sym (ap (λ (x : Refusal). x.number) judged-b.cause)

      go : Renewing t store recording place a s e r t₁ → Renewing t store recording place b s' e' q t₂
          → Judged t store recording place a s e (slot_of recording place t) r t₁ → Judged t store recording place b s' e' (slot_of recording place t) q t₂
          → (x : Bool) → eqb (renew_told r).lives 1 ≡ x → Alike
      go says-a says-b judged-a judged-b true h =
          let one-a = eqb-true (renew_told r).lives 1 h in
          let one_b = judged-b.lives.1 (equals_elsewhere a b s e s' e' place in_b same t store (slot_of recording place t) (judged-a.lives.0 one-a)) in
          (none judged-a judged-b, one-a ∙ sym one_b, cause judged-a judged-b, judged-a.stays one-a ∙ sym (judged-b.stays one_b))
      go says-a says-b judged-a judged-b false h =
          let not_a = eqb-false (renew_told r).lives 1 h in
          let not-b : (renew_told q).lives ≢ 1 = λ one. not_a (judged-a.lives.1 (equals_elsewhere b a s' e' s e place in_a (sym same) t store (slot_of recording place t) (judged-b.lives.0 one))) in
          let drop-a = says-a.answers_dropped (ap (λ (x : Refusal). x.number) judged-a.accepted) not_a in
          let drop-b = says-b.answers_dropped (ap (λ (x : Refusal). x.number) judged-b.accepted) not-b in (
            none judged-a judged-b,
            (judged-a.dropped not_a).0 ∙ sym (judged-b.dropped not-b).0,
            cause judged-a judged-b,
            after_drop r t₁ _ call-a.1 drop-a ∙ sym (after_drop q t₂ _ call-b.1 drop-b),
          )

  pub renew_elsewhere : Alike
  renew_elsewhere = go (ltb (length store) 65536) refl (ltb (slot_of recording place t) 64) refl
    where
      go : (x : Bool) → ltb (length store) 65536 ≡ x → (y : Bool) → ltb (slot_of recording place t) 64 ≡ y → Alike
      go true h y l =
          let small = ltb-true (length store) 65536 h in
          both_refused (small_store s place) (small_store s' place) refl (λ (z : ◌≡◌ {A = ℕ} 16 0). omega arith) (λ (z : ◌≡◌ {A = ℕ} 16 0). omega arith)
          ((renews t all store recording place a s e r t₁ call-a).first small) ((renews t all store recording place b s' e' q t₂ call-b).first small)
      go false h true l = both_judged (ltb-false (length store) 65536 h) (ltb-true (slot_of recording place t) 64 l)
      go false h false l =
          let room = ltb-false (length store) 65536 h in
          let none = slot_none t all recording place (ltb-false (slot_of recording place t) 64 l) in
          both_refused (refused_there 20 s place) (refused_there 20 s' place) refl (λ (z : ◌≡◌ {A = ℕ} 20 0). omega arith) (λ (z : ◌≡◌ {A = ℕ} 20 0). omega arith)
          ((renews t all store recording place a s e r t₁ call-a).absent room none) ((renews t all store recording place b s' e' q t₂ call-b).absent room none)

-- ---- adding them

-- where the packet stands in its buffer has no say in its entry
entry_elsewhere : (recording place : ℕ) (a b : List ℕ) (s e s' e' : ℕ) → window a s e ≡ window b s' e' → entry_in recording place a s e ≡ entry_in recording place b s' e'
unfolding packet_in
entry_elsewhere recording place a b s e s' e' same = rw same

module _ (t : Rows) (all : length t ≡ 64) (store : List ℕ) (recording place : ℕ) where
  -- what one window is refused for the other is too
  only_one : (a b : List ℕ) (s e s' e' : ℕ) → Within a s e place → window b s' e' ≡ window a s e → (r q : Result ℕ Refusal) (t₁ t₂ : Rows) (store₁ store₂ : List ℕ)
      → Add t store recording place a s e r t₁ store₁ → (add_told r).refusal.number ≢ 0 → adding.PutHome t all store recording place b s' e' q t₂ store₂ → ⊥
  only_one a b s e s' e' in_a same r q t₁ t₂ store₁ store₂ (is, ti, si) some put =
      let there = read_elsewhere b a s' e' s e place in_a same put.packet put.read in
      let said : adding.Way t store recording place a s e r = rw is (adding.way t store recording place a s e) in
      let comes : Comes t store recording place a s e there.0 = record { room = put.room; accepted = told_accepted a s e place there.0 there.1; short = omega (arith, there.2, put.short) } in
      some (ap (λ (x : AddTold). x.refusal.number) (adding.told_slot t all store recording place a s e r said there.0 comes (home_of recording place t) (refl, put.slot)))

  refused_slot : (r : Result ℕ Refusal) → (add_told r).refusal.number ≢ 0 → (add_told r).slot ≡ 0
  refused_slot (Ok k) some = absurd (some refl)
  refused_slot (Err f) some = refl

  module _ (a b : List ℕ) (s e s' e' : ℕ) (in_a : Within a s e place) (in_b : Within b s' e' place) (same : window a s e ≡ window b s' e') (r q : Result ℕ Refusal) (t₁ t₂ : Rows)
      (store₁ store₂ : List ℕ) (call-a : Add t store recording place a s e r t₁ store₁) (call-b : Add t store recording place b s' e' q t₂ store₂) where
    abbrev number : AddTold → ℕ
    number x = x.refusal.number

    abbrev SaysA : Type 0
    SaysA = Adding t store recording place a s e r t₁ store₁

    abbrev SaysB : Type 0
    SaysB = Adding t store recording place b s' e' q t₂ store₂

    -- a packet that comes to the question of its slot, at both places
    one_home : SaysA → SaysB → (p p' : Packet) → Comes t store recording place a s e p → Comes t store recording place b s' e' p'
        → number (add_told r) ≡ number (add_told q)
    one_home says-a says-b p p' comes comes' = go (ltb (home_of recording place t) 64) refl
      where
        go : (x : Bool) → ltb (home_of recording place t) 64 ≡ x → number (add_told r) ≡ number (add_told q)
        go true h =
            let low = ltb-true (home_of recording place t) 64 h in
            let way_a : adding.Way t store recording place a s e r = rw call-a.0 (adding.way t store recording place a s e) in
            let way-b : adding.Way t store recording place b s' e' q = rw call-b.0 (adding.way t store recording place b s' e') in
            ap number (adding.told_slot t all store recording place a s e r way_a p comes (home_of recording place t) (refl, low))
            ∙ sym (ap number (adding.told_slot t all store recording place b s' e' q way-b p' comes' (home_of recording place t) (refl, low)))
        go false h =
            let none = ltb-false (home_of recording place t) 64 h in
            ap number (says-a.full p comes (adding.others t all store recording place a s e none))
            ∙ sym (ap number (says-b.full p' comes' (adding.others t all store recording place b s' e' none)))

    one_accepted : SaysA → SaysB → 65536 ≤ length store → (p : Packet) → read_packet a s e place ≡ Ok p → number (add_told r) ≡ number (add_told q)
    one_accepted says-a says-b room p read = go (ltb 1024 p.length) refl (read_elsewhere a b s e s' e' place in_b same p read)
      where
        go : (x : Bool) → ltb 1024 p.length ≡ x → (p' : Packet) × (read_packet b s' e' place ≡ Ok p') × (p'.length ≡ p.length)
            → number (add_told r) ≡ number (add_told q)
        go true h (p', read', long) =
            let over = ltb-true 1024 p.length h in
            ap number (says-a.long room p (told_accepted a s e place p read) over)
            ∙ sym (ap number (says-b.long room p' (told_accepted b s' e' place p' read') (omega (arith, long, over))))
        go false h (p', read', long) =
            let short = ltb-false 1024 p.length h in
            one_home says-a says-b p p' (record { room = room; accepted = told_accepted a s e place p read; short = short })
            (record { room = room; accepted = told_accepted b s' e' place p' read'; short = omega (arith, long, short) })

    one_number : number (add_told r) ≡ number (add_told q)
    one_number =
        go (adding.adds t all store recording place a s e r t₁ store₁ call-a) (adding.adds t all store recording place b s' e' q t₂ store₂ call-b)
        (ltb (length store) 65536) refl (read_packet a s e place) refl
      where
        go : SaysA → SaysB → (x : Bool) → ltb (length store) 65536 ≡ x → (y : Result Packet Refusal) → read_packet a s e place ≡ y → number (add_told r) ≡ number (add_told q)
        go says-a says-b true h y read =
            let small = ltb-true (length store) 65536 h in
            ap number (says-a.first small) ∙ sym (ap number (says-b.first small))
        go says-a says-b false h (Ok p) read = one_accepted says-a says-b (ltb-false (length store) 65536 h) p read
        go says-a says-b false h (Err f) read =
            let room = ltb-false (length store) 65536 h in
            let same_number = number_elsewhere a b s e s' e' place in_b same in_a in
            let is : (packet_told (read_packet a s e place)).refusal.number ≡ f.number = ap (λ (x : Result Packet Refusal). (packet_told x).refusal.number) read in
            let some : (packet_told (read_packet a s e place)).refusal.number ≢ 0 = λ z. refusal_numbered a s e place f read (sym is ∙ z) in
            ap number (says-a.reader room some) ∙ same_number ∙ sym (ap number (says-b.reader room (λ z. some (same_number ∙ z))))

    pub add_elsewhere : ((add_told r).refusal.number ≡ (add_told q).refusal.number) × ((add_told r).slot ≡ (add_told q).slot) × (t₁ ≡ t₂) × (store₁ ≡ store₂)
    add_elsewhere =
        ⊎_elim
        (λ ka. ⊎_elim
        (λ kb. (one_number, refused_slot r ka.2 ∙ sym (refused_slot q kb.2), ka.0 ∙ sym kb.0, ka.1 ∙ sym kb.1))
        (λ pb. absurd (only_one a b s e s' e' in_a (sym same) r q t₁ t₂ store₁ store₂ call-a ka.2 pb))
        (adding.effect t all store recording place b s' e' q t₂ store₂ call-b))
        (λ pa. ⊎_elim
        (λ kb. absurd (only_one b a s' e' s e in_b same q r t₂ t₁ store₂ store₁ call-b kb.2 pa))
        (λ pb.
        let told : r ≡ q = pa.told ∙ sym pb.told in (
          one_number,
          ap (λ (x : Result ℕ Refusal). (add_told x).slot) told,
          call-a.1 ∙ rw (told, entry_elsewhere recording place a b s e s' e' same) (sym call-b.1),
          call-a.2 ∙ rw (told, same) (sym call-b.2),
        ))
        (adding.effect t all store recording place b s' e' q t₂ store₂ call-b))
        (adding.effect t all store recording place a s e r t₁ store₁ call-a)
