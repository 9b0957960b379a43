-- What renewing says and leaves behind.
use Rattle.std.specs.Prelude.{Result, Ok, Err}
use mathlib.Core.Path.{◌≡◌, refl, sym, ap, subst, ◌∙◌}
use mathlib.Core.List.{List, []}
use mathlib.Core.Bool.{Bool, true, false, not, true≢false}
use mathlib.Core.Logic.{◌⊎◌, inl, inr, ⊎_elim, ◌≢◌}
use Prim.Native.Nat.{ℕ, ◌*◌, ◌≤◌, ◌<◌}
use native.Mathlib.Omega.{arith}
use lib.ListN.{length, set, length-set}
use lib.Seq.{get_or-set_same, get_or-set_other}
use lib.Dec.{ltb, leb}
use borrow.Author.Tests.{ltb-true, ltb-false, leb-true, leb-false, le-leb}
use Rattle.units.specs.Choice.{pick}
use Rattle.units.specs.Units.{part, same}
use Rattle.units.proofs.Choices.{and_true}
use Rattle.units.proofs.Parts.{length_part}
use Rattle.units.proofs.Sames.{same_true, same_refl}
use Rattle.terms.specs.Refusals.{no_refusal}
use Rattle.terms.specs.declared.Refusal.{Refusal}
use Rattle.packet.specs.Read.{inside, window, read_packet, packet_told}
use Rattle.packet.specs.declared.Packet.{Packet}
use Rattle.packet.proofs.Passes.{inside_made}
use Rattle.packet.proofs.Told.{refusal_numbered}
use Rattle.promises.specs.Refusals.{OneOf, reader_refusals}
use Rattle.promises.specs.Endings.{refused_there}
use Rattle.promises.proofs.Refusing.{read_numbered}
use Rattle.promises.proofs.HandedOut.{inside_within, within_inside, not_inside}
use Rattle.promises.proofs.Places.{places}
use Rattle.promises.proofs.Ends.{accepted_is}
use Rattle.renewal.specs.Table.{no_entry, slot_of}
use Rattle.renewal.specs.Renewal.{barred, store_small, own_bytes, holds, judged, renew_entry, table_renewed, renew_told}
use Rattle.renewal_promises.specs.Slots.{Rows, word, Equals}
use Rattle.renewal_promises.specs.Adding.{small_store}
use Rattle.renewal_promises.specs.Renewing.{renew_refusals, causes, refused_told, NoneOr, Drops, Judged, Renewing}
use Rattle.renewal_promises.specs.Calls.{Renew}
use Rattle.renewal_promises.proofs.Finding.{held_slot, none_slot, held_below}
use Rattle.renewal_promises.proofs.Added.{barred_there, small_there, own_bytes_lem, own_long, not_both, one_packet, told_accepted}
use Rattle.renewal.specs.declared.Renewed.{Renewed}
use Rattle.renewal.specs.declared.Renewed.TheVariants.{Lives, Dropped}

-- ---- the held bytes

module _ (t : Rows) (store : List ℕ) (k : ℕ) (room : 65536 ≤ length store) (slot : k < 64) (buf : List ℕ) (start end place : ℕ) (p : Packet)
    (read : read_packet buf start end place ≡ Ok p) where
  pub held_equals : holds store k (word t k 3) (own_bytes (window buf start end)) ≡ true → Equals t store k buf start end place
  unfolding holds
  held_equals h =
      let both = and_true (leb (word t k 3) 1024) (same (part store (k * 1024) (word t k 3)) (own_bytes (window buf start end))) h in
      let short = leb-true (word t k 3) 1024 both.0 in
      let is : part store (k * 1024) (word t k 3) ≡ part buf start p.length = same_true _ _ both.1 ∙ own_bytes_lem buf start end place p read in
      let long : word t k 3 ≡ p.length =
      sym (length_part store (k * 1024) (word t k 3) (omega arith)) ∙ ap length is ∙ own_long buf start end place p read in
      record {
        packet = p;
        accepted = told_accepted buf start end place p read;
        short = omega (arith, long, short);
        long = long;
        bytes = ap (part store (k * 1024)) (sym long) ∙ is;
      }

  pub equals_held : Equals t store k buf start end place → holds store k (word t k 3) (own_bytes (window buf start end)) ≡ true
  unfolding holds
  equals_held e =
      let one : e.packet ≡ p = one_packet buf start end place e.packet p (accepted_is buf start end place e.packet e.accepted) read in
      let long : word t k 3 ≡ p.length = e.long ∙ ap (λ (x : Packet). x.length) one in
      let bytes : part store (k * 1024) p.length ≡ part buf start p.length = rw one at e.bytes in
      let short : word t k 3 ≤ 1024 = omega (arith, e.long, e.short) in
      rw (le-leb (word t k 3) 1024 short, long, bytes, own_bytes_lem buf start end place p read) (same_refl (part buf start p.length))

-- ---- the six ways that it goes

module _ (t : Rows) (store : List ℕ) (recording place : ℕ) (buf : List ℕ) (start end : ℕ) where
  abbrev home : ℕ
  home = slot_of recording place t

  pub data Way : Result Renewed Refusal → Type 0 where
    small : length store < 65536 → Way (Err (small_store start place))
    absent : 65536 ≤ length store → 64 ≤ home → Way (Err (refused_there 20 start place))
    outside : 65536 ≤ length store → home < 64 → inside buf start end place ≡ false → Way (Err (refused_there 1 start place))
    refused : 65536 ≤ length store → home < 64 → inside buf start end place ≡ true → (f : Refusal) → read_packet buf start end place ≡ Err f → Way (Ok (Dropped f))
    lives : 65536 ≤ length store → home < 64 → inside buf start end place ≡ true → (p : Packet) → read_packet buf start end place ≡ Ok p
        → holds store home (word t home 3) (own_bytes (window buf start end)) ≡ true → Way (Ok Lives)
    differs : 65536 ≤ length store → home < 64 → inside buf start end place ≡ true → (p : Packet) → read_packet buf start end place ≡ Ok p
        → holds store home (word t home 3) (own_bytes (window buf start end)) ≡ false → Way (Ok (Dropped no_refusal))

  pub way : Way (renew_entry t store recording place buf start end)
  unfolding renew_entry judged
  way = go (ltb (length store) 65536) refl
    where
      held : 65536 ≤ length store → home < 64 → inside buf start end place ≡ true → (p : Packet) → read_packet buf start end place ≡ Ok p
          → (b : Bool) → holds store home (word t home 3) (own_bytes (window buf start end)) ≡ b → Way (pick b (Ok Lives) (Ok (Dropped no_refusal)))
      held room slot i p read true h = lives room slot i p read h
      held room slot i p read false h = differs room slot i p read h

      reads : 65536 ≤ length store → home < 64 → inside buf start end place ≡ true → (x : Result Packet Refusal) → read_packet buf start end place ≡ x
          → Way (judged x store home (word t home 3) (window buf start end))
      reads room slot i (Err f) read = refused room slot i f read
      reads room slot i (Ok p) read = held room slot i p read (holds store home (word t home 3) (own_bytes (window buf start end))) refl

      windows : 65536 ≤ length store → home < 64 → (b : Bool) → inside buf start end place ≡ b
          → Way (pick (not b) (Err (barred 1 start place)) (judged (read_packet buf start end place) store home (word t home 3) (window buf start end)))
      windows room slot true i = reads room slot i (read_packet buf start end place) refl
      windows room slot false i = rw (barred_there 1 start place) (outside room slot i)

      slots : 65536 ≤ length store → (b : Bool) → leb 64 home ≡ b
          → Way (pick b (Err (barred 20 start place))
          (pick (not (inside buf start end place)) (Err (barred 1 start place)) (judged (read_packet buf start end place) store home (word t home 3) (window buf start end))))
      slots room true h = rw (barred_there 20 start place) (absent room (leb-true 64 home h))
      slots room false h = windows room (leb-false 64 home h) (inside buf start end place) refl

      go : (b : Bool) → ltb (length store) 65536 ≡ b
          → Way (pick b (Err (store_small start place)) (pick (leb 64 home) (Err (barred 20 start place))
          (pick (not (inside buf start end place)) (Err (barred 1 start place)) (judged (read_packet buf start end place) store home (word t home 3) (window buf start end)))))
      go true h = rw (small_there start place) (small (ltb-true (length store) 65536 h))
      go false h = slots (ltb-false (length store) 65536 h) (leb 64 home) refl

-- ---- it in words

module _ (t : Rows) (all : length t ≡ 64) (store : List ℕ) (recording place : ℕ) (buf : List ℕ) (start end : ℕ) where
  abbrev Goes : Result Renewed Refusal → Type 0
  Goes = Way t store recording place buf start end

  told_ends : (r : Result Renewed Refusal) → Goes r → NoneOr renew_refusals (renew_told r).refusal
  told_ends _ (small h) = inr (inl refl)
  told_ends _ (absent room none) = inr (inr (inl refl))
  told_ends _ (outside room slot o) = inr (inr (inr (inl refl)))
  told_ends _ (refused room slot i f read) = inl refl
  told_ends _ (lives room slot i p read h) = inl refl
  told_ends _ (differs room slot i p read h) = inl refl

  told_cause : (r : Result Renewed Refusal) → Goes r → NoneOr causes (renew_told r).cause
  told_cause _ (small h) = inl refl
  told_cause _ (absent room none) = inl refl
  told_cause _ (outside room slot o) = inl refl
  told_cause _ (refused room slot i f read) =
      let numbered : OneOf f.number reader_refusals = rw read at (read_numbered buf start end place (rw read (refusal_numbered buf start end place f read))) in
      inr (⊎_elim
      (λ one. absurd (places.read_within buf start end place (inside_within buf start end place i) (ap (λ (x : Result Packet Refusal). (packet_told x).refusal.number) read ∙ one)))
      (λ o. o)
      numbered)
  told_cause _ (lives room slot i p read h) = inl refl
  told_cause _ (differs room slot i p read h) = inl refl

  told_small : (r : Result Renewed Refusal) → Goes r → length store < 65536 → renew_told r ≡ refused_told (small_store start place)
  told_small _ (small h) l = refl
  told_small _ (absent room none) l = absurd (omega arith)
  told_small _ (outside room slot o) l = absurd (omega arith)
  told_small _ (refused room slot i f read) l = absurd (omega arith)
  told_small _ (lives room slot i p read h) l = absurd (omega arith)
  told_small _ (differs room slot i p read h) l = absurd (omega arith)

  told_absent : (r : Result Renewed Refusal) → Goes r → 65536 ≤ length store → 64 ≤ slot_of recording place t → renew_told r ≡ refused_told (refused_there 20 start place)
  told_absent _ (small h) room none = absurd (omega arith)
  told_absent _ (absent _ _) room none = refl
  told_absent _ (outside _ slot o) room none = absurd (omega arith)
  told_absent _ (refused _ slot i f read) room none = absurd (omega arith)
  told_absent _ (lives _ slot i p read h) room none = absurd (omega arith)
  told_absent _ (differs _ slot i p read h) room none = absurd (omega arith)

  told_outside : (r : Result Renewed Refusal) → Goes r → 65536 ≤ length store → slot_of recording place t < 64 → inside buf start end place ≡ false
      → renew_told r ≡ refused_told (refused_there 1 start place)
  told_outside _ (small h) room slot o = absurd (omega arith)
  told_outside _ (absent _ none) room slot o = absurd (omega arith)
  told_outside _ (outside _ _ _) room slot o = refl
  told_outside _ (refused _ _ i f read) room slot o = absurd (true≢false (sym i ∙ o))
  told_outside _ (lives _ _ i p read h) room slot o = absurd (true≢false (sym i ∙ o))
  told_outside _ (differs _ _ i p read h) room slot o = absurd (true≢false (sym i ∙ o))

  told_untouched : (r : Result Renewed Refusal) (t' : Rows) → t' ≡ table_renewed r t (slot_of recording place t) → (renew_told r).refusal.number ≢ 0 → t' ≡ t
  unfolding table_renewed
  told_untouched (Ok Lives) t' is some = absurd (some refl)
  told_untouched (Ok (Dropped f)) t' is some = absurd (some refl)
  told_untouched (Err f) t' is some = is

  told_lives : (r : Result Renewed Refusal) → (renew_told r).lives ≡ 1 → r ≡ (Ok Lives)
  told_lives (Ok Lives) one = refl
  told_lives (Ok (Dropped f)) one = absurd (omega (arith, one))
  told_lives (Err f) one = absurd (omega (arith, one))

  told_dropped : (r : Result Renewed Refusal) → Goes r → (renew_told r).refusal.number ≡ 0 → (renew_told r).lives ≢ 1 → r ≡ Ok (Dropped (renew_told r).cause)
  told_dropped _ (small h) z not-one = absurd (omega (arith, z))
  told_dropped _ (absent room none) z not-one = absurd (omega (arith, z))
  told_dropped _ (outside room slot o) z not-one = absurd (omega (arith, z))
  told_dropped _ (refused room slot i f read) z not-one = refl
  told_dropped _ (lives room slot i p read h) z not-one = absurd (not-one refl)
  told_dropped _ (differs room slot i p read h) z not-one = refl

  told_refused : (r : Result Renewed Refusal) → (renew_told r).refusal.number ≢ 0 → r ≡ Err (renew_told r).refusal
  told_refused (Ok Lives) some = absurd (some refl)
  told_refused (Ok (Dropped f)) some = absurd (some refl)
  told_refused (Err f) some = refl

  -- ---- the judgement

  drops : (k : ℕ) → k < 64 → Drops t k (set t k no_entry)
  drops k slot =
      record {
        free = get_or-set_same t k no_entry [] (omega (arith, all));
        others = λ j other. get_or-set_other t k j no_entry [] other;
        slots = length-set t k no_entry;
      }

  abbrev Judges : ℕ → Result Renewed Refusal → Type 0
  Judges k r = Judged t store recording place buf start end k r (table_renewed r t k)

  judge_refused : (k : ℕ) → k < 64 → (f : Refusal) → read_packet buf start end place ≡ Err f → Judges k (Ok (Dropped f))
  unfolding table_renewed
  judge_refused k slot f read =
      record {
        accepted = refl;
        lives = (λ one. absurd (omega (arith, one)), λ e. absurd (not_both buf start end place f e.packet read (accepted_is buf start end place e.packet e.accepted)));
        stays = λ one. absurd (omega (arith, one));
        dropped = λ not-one. (refl, drops k slot);
        forged = λ long. (refl, drops k slot);
        cause = ap (λ (x : Result Packet Refusal). (packet_told x).refusal) (sym read);
      }

  judge_lives : (k : ℕ) → k < 64 → 65536 ≤ length store → (p : Packet) → read_packet buf start end place ≡ Ok p
      → holds store k (word t k 3) (own_bytes (window buf start end)) ≡ true → Judges k (Ok Lives)
  unfolding table_renewed
  judge_lives k slot room p read h =
      let e = held_equals t store k room slot buf start end place p read h in
      record {
        accepted = refl;
        lives = (λ one. e, λ e. refl);
        stays = λ one. refl;
        dropped = λ not-one. absurd (not-one refl);
        forged = λ long. absurd (omega (arith, e.long, e.short));
        cause = ap (λ (x : Result Packet Refusal). (packet_told x).refusal) (sym read);
      }

  judge_differs : (k : ℕ) → k < 64 → 65536 ≤ length store → (p : Packet) → read_packet buf start end place ≡ Ok p
      → holds store k (word t k 3) (own_bytes (window buf start end)) ≡ false → Judges k (Ok (Dropped no_refusal))
  unfolding table_renewed
  judge_differs k slot room p read h =
      record {
        accepted = refl;
        lives = (λ one. absurd (omega (arith, one)), λ e. absurd (true≢false (sym (equals_held t store k room slot buf start end place p read e) ∙ h)));
        stays = λ one. absurd (omega (arith, one));
        dropped = λ not-one. (refl, drops k slot);
        forged = λ long. (refl, drops k slot);
        cause = ap (λ (x : Result Packet Refusal). (packet_told x).refusal) (sym read);
      }

  pub judges : (r : Result Renewed Refusal) → Goes r → 65536 ≤ length store → slot_of recording place t < 64 → inside buf start end place ≡ true
      → Judges (slot_of recording place t) r
  judges _ (small h) room slot i = absurd (omega arith)
  judges _ (absent _ none) room slot i = absurd (omega arith)
  judges _ (outside _ _ o) room slot i = absurd (true≢false (sym i ∙ o))
  judges _ (refused _ _ _ f read) room slot i = judge_refused (slot_of recording place t) slot f read
  judges _ (lives _ _ _ p read h) room slot i = judge_lives (slot_of recording place t) slot room p read h
  judges _ (differs _ _ _ p read h) room slot i = judge_differs (slot_of recording place t) slot room p read h

  -- everything that is promised of it
  pub renews : (r : Result Renewed Refusal) (t' : Rows) → Renew t store recording place buf start end r t' → Renewing t store recording place buf start end r t'
  renews r t' (is, ti) =
      let said : Goes r = rw is (way t store recording place buf start end) in
      record {
        ends = told_ends r said;
        named = told_cause r said;
        first = told_small r said;
        absent = λ room none. told_absent r said room (omega (arith, none_slot t all recording place none));
        outside = λ room k held o. told_outside r said room (held_below t all recording place k held) (not_inside buf start end place o);
        judged = λ room k held w.
            let slot = held_slot t all recording place k held in
            let made = judges r said room (omega (arith, slot, held.0.0)) (inside_made buf start end place (within_inside buf start end place w)) in
            subst (λ (j : ℕ). Judged t store recording place buf start end j r t') slot
            (subst (λ (u : Rows). Judged t store recording place buf start end (slot_of recording place t) r u) (sym ti) made);
        untouched = told_untouched r t' ti;
        answers = told_lives r;
        answers_dropped = told_dropped r said;
        answers_refused = told_refused r;
      }

  -- what becomes of the table: nothing, or the entry of the name is dropped
  pub record DropsHome (t' : Rows) : Type 0 where
    pub slot : slot_of recording place t < 64
    pub drops : Drops t (slot_of recording place t) t'

  pub effect : (r : Result Renewed Refusal) (t' : Rows) → Renew t store recording place buf start end r t' → (t' ≡ t) ⊎ DropsHome t'
  unfolding table_renewed
  effect r t' (is, ti) = go r (rw is (way t store recording place buf start end)) ti
    where
      go : (x : Result Renewed Refusal) → Goes x → t' ≡ table_renewed x t (slot_of recording place t) → (t' ≡ t) ⊎ DropsHome t'
      go _ (small h) ti = inl ti
      go _ (absent room none) ti = inl ti
      go _ (outside room slot o) ti = inl ti
      go _ (refused room slot i f read) ti = inr (record { slot = slot; drops = rw ti (drops (slot_of recording place t) slot) })
      go _ (lives room slot i p read h) ti = inl ti
      go _ (differs room slot i p read h) ti = inr (record { slot = slot; drops = rw ti (drops (slot_of recording place t) slot) })
