-- Reading ahead: a recording in pieces is read as in one, and the reading ends.
use mathlib.Core.Path.{◌≡◌, refl, sym, ap, subst, ◌∙◌}
use mathlib.Core.List.{List, [], ◌∷◌, ◌++◌, map, append_assoc, map-append}
use mathlib.Core.Bool.{Bool, true, false, false≢true}
use mathlib.Core.Logic.{◌⊎◌, inl, inr, ⊎_elim}
use Prim.Native.Nat.{ℕ, zero, suc, ◌+◌, ◌-◌, ◌≤◌, ◌<◌}
use native.Mathlib.Omega.{arith}
use native.Mathlib.Nat.{add-zero}
use lib.ListN.{length, take, length-append, length-map}
use lib.Seq.{take_at}
use lib.Dec.{eqb}
use borrow.Author.Tests.{eqb-true, eqb-false}
use Rattle.units.specs.Units.{part}
use Rattle.terms.specs.declared.Refusal.{Refusal}
use Rattle.packet.specs.declared.Packet.{Packet}
use Rattle.packet.proofs.Passes.{Inside, inside_on}
use Rattle.recording.specs.Reading.{Reading, read_recording}
use Rattle.recording.specs.declared.Recording.{Recording}
use Rattle.recording.proofs.Readings.{from, joined}
use Rattle.promises.specs.Handed.{length_of, HandsOut}
use Rattle.promises.specs.Ahead.{waiting, Waits, Seen, seen, refused_in, SameTold, Piece, answer, Last, seen_in, accepted_in, InTurn, Onward, Ends}
use Rattle.promises.specs.Refusals.{OneOf}
use Rattle.promises.proofs.HandedOut as handed
use Rattle.promises.proofs.HandedOut.{within_inside}
use Rattle.promises.proofs.Members.{among, among_one, one_among}
use Rattle.promises.proofs.Further.{reads_on, SameFrom, from_elsewhere, recording_from, packets_from, some_length, come, from_decided}

module _ (whole : List ℕ) (start end base : ℕ) (i : Inside whole start end base) where
  abbrev One : Type 0
  One = Piece whole start end base

  -- what is read of the whole from so far behind its start on
  abbrev rest : ℕ → Reading
  rest d = from whole (start + d) end (base + d)

  -- ---- one window

  module _ (x : One) where
    abbrev long : ℕ
    long = x.to - x.from

    abbrev own : Reading
    own = from x.buf x.from x.to (base + x.distance)

    -- the same bytes, where they stand in the whole
    abbrev there : Reading
    there = from whole (start + x.distance) (start + x.distance + long) (base + x.distance)

    own_inside : Inside x.buf x.from x.to (base + x.distance)
    own_inside = within_inside x.buf x.from x.to (base + x.distance) x.within

    there_inside : Inside whole (start + x.distance) (start + x.distance + long) (base + x.distance)
    there_inside = record { ordered = omega arith; within = omega (arith, x.fits, i.within); fits = omega (arith, x.fits, i.fits) }

    rest_inside : Inside whole (start + x.distance) end (base + x.distance)
    rest_inside = inside_on whole start end base x.distance i (omega (arith, x.fits))

    own_there : SameFrom x.buf whole own there
    own_there =
        let n : long ≡ start + x.distance + long - (start + x.distance) = omega arith in
        from_elsewhere x.buf whole x.to (start + x.distance + long) x.from (start + x.distance) (base + x.distance) own_inside there_inside
        (x.same ∙ ap (part whole (start + x.distance)) n)

    answer_own : answer x ≡ handed.answer own
    answer_own = recording_from x.buf x.from x.to (base + x.distance) own_inside

    packets_own : x.packets ≡ own.packets
    packets_own = packets_from x.buf x.from x.to (base + x.distance) own_inside _ x.packets x.handed

    seen_there : map (seen x.buf) x.packets ≡ map (seen whole) there.packets
    seen_there = ap (map (seen x.buf)) packets_own ∙ own_there.packets

    -- the whole is read on from where the window stops
    on : (d : ℕ) → base + d ≡ (answer x).recording_reached → rest x.distance ≡ joined there.packets (rest d)
    on d next =
        let c = come whole (start + x.distance) (start + x.distance + long) (base + x.distance) there_inside in
        let stop : (answer x).recording_reached ≡ base + x.distance + c.0 = ap (λ (r : Recording). r.recording_reached) answer_own ∙ own_there.reached ∙ c.2 in
        let same : start + d ≡ there.reached = omega (arith, next, stop, c.1) in
        let base_same : base + d ≡ there.recording_reached = next ∙ stop ∙ sym c.2 in
        rw (same, base_same)
        (reads_on whole (start + x.distance + long) end x.fits (start + x.distance) (base + x.distance) there_inside rest_inside)

    -- how far it comes
    steps : (k : ℕ) × ((answer x).recording_reached ≡ base + x.distance + k) × (x.distance + k ≤ end - start)
    steps =
        let c = come whole (start + x.distance) (start + x.distance + long) (base + x.distance) there_inside in (
          c.0,
          ap (λ (r : Recording). r.recording_reached) answer_own ∙ own_there.reached ∙ c.2,
          omega (arith, c.3, x.fits),
        )

    -- the reading ends with it
    last_told : Last x → SameFrom x.buf whole own (rest x.distance)
    last_told (inl holds) = rw holds at own_there
    last_told (inr stands) =
        let number : own.refusal.number ≡ there.refusal.number = ap (λ (r : Refusal). r.number) own_there.refusal in
        let stays : ¬ Waits (handed.answer there) =
        λ w. stands (subst (λ (n : ℕ). OneOf n waiting) (sym (ap (λ (r : Recording). r.refusal.number) answer_own ∙ number)) w) in
        let same = from_decided whole (start + x.distance) (start + x.distance + long) end (base + x.distance) there_inside rest_inside x.fits stays in
        rw same own_there

  -- ---- windows one behind the other

  -- a reading of the whole: these packets, and then what is read from so far on
  record Then (packets : List Seen) (d : ℕ) : Type 0 where
    told : map (seen whole) (rest 0).packets ≡ packets ++ map (seen whole) (rest d).packets
    reached : (rest 0).recording_reached ≡ (rest d).recording_reached
    refusal : (rest 0).refusal ≡ (rest d).refusal

  module _ (piece : ℕ → One) where
    none_yet : (piece 0).distance ≡ 0 → Then (seen_in piece 0) (piece 0).distance
    unfolding seen_in
    none_yet first = rw first (record { told = refl; reached = refl; refusal = refl })

    -- a window, and what is read from where it stops
    one_more : (m d : ℕ) → Then (seen_in piece m) (piece m).distance → base + d ≡ (answer (piece m)).recording_reached → Then (seen_in piece (suc m)) d
    unfolding seen_in
    one_more m d before next =
        let x = piece m in
        let go_on = on x d next in
        let packets : map (seen whole) (rest x.distance).packets ≡ map (seen x.buf) x.packets ++ map (seen whole) (rest d).packets =
        ap (λ (r : Reading). map (seen whole) r.packets) go_on ∙ map-append (seen whole) (there x).packets (rest d).packets
        ∙ ap (λ (l : List Seen). l ++ map (seen whole) (rest d).packets) (sym (seen_there x)) in
        record {
          told =
              before.told ∙ ap (λ (l : List Seen). seen_in piece m ++ l) packets
              ∙ sym (append_assoc (seen_in piece m) (map (seen x.buf) x.packets) (map (seen whole) (rest d).packets));
          reached = before.reached ∙ ap (λ (r : Reading). r.recording_reached) go_on;
          refusal = before.refusal ∙ ap (λ (r : Reading). r.refusal) go_on;
        }

    up_to : (n : ℕ) → InTurn piece n → Then (seen_in piece n) (piece n).distance
    up_to zero turn = none_yet turn.first
    up_to (suc n) turn =
        one_more n (piece (suc n)).distance (up_to n (record { first = turn.first; next = λ k l. turn.next k (omega (arith, l)) })) (turn.next n (omega arith))

    -- the whole's packets are those that are read from its start on
    packets_whole : (qs : List Packet) → HandsOut whole start end base (read_recording whole start end base) qs → qs ≡ (rest 0).packets
    packets_whole qs h =
        let here : start + 0 ≡ start = omega arith in
        let base-here : base + 0 ≡ base = omega arith in
        rw (here, base-here) (packets_from whole start end base i _ qs h)

    pub told_so_far : (n : ℕ) → InTurn piece n → (qs : List Packet) → HandsOut whole start end base (read_recording whole start end base) qs
        → take (length (seen_in piece (suc n))) (map (seen whole) qs) ≡ seen_in piece (suc n)
    told_so_far n turn qs h =
        let s = steps (piece n) in
        let stop : base + ((piece n).distance + s.0) ≡ (answer (piece n)).recording_reached = omega (arith, s.1) in
        let all = one_more n ((piece n).distance + s.0) (up_to n turn) stop in
        ap (λ (l : List Packet). take (length (seen_in piece (suc n))) (map (seen whole) l)) (packets_whole qs h)
        ∙ ap (take (length (seen_in piece (suc n)))) all.told
        ∙ take_at (seen_in piece (suc n)) _ (length (seen_in piece (suc n))) refl

    -- as many are seen as are accepted
    seen_accepted : (n : ℕ) → length (seen_in piece n) ≡ accepted_in piece n
    unfolding seen_in accepted_in
    seen_accepted zero = refl
    seen_accepted (suc n) =
        let x = piece n in
        length-append (seen_in piece n) (map (seen x.buf) x.packets)
        ∙ omega (arith, seen_accepted n, length-map x.packets (seen x.buf), x.handed.number)

    pub told_in_one : (n : ℕ) → InTurn piece n → Last (piece n) → (qs : List Packet) → HandsOut whole start end base (read_recording whole start end base) qs
        → SameTold (seen_in piece (suc n)) (map (seen whole) qs) (answer (piece n)) (read_recording whole start end base)
        × (accepted_in piece (suc n) ≡ (read_recording whole start end base).accepted)
    unfolding seen_in
    told_in_one n turn ended qs h =
        let x = piece n in
        let before = up_to n turn in
        let last = last_told x ended in
        let here : start + 0 ≡ start = omega arith in
        let base-here : base + 0 ≡ base = omega arith in
        let all : read_recording whole start end base ≡ handed.answer (rest 0) = rw (here, base-here) (recording_from whole start end base i) in
        let own-packets : map (seen x.buf) x.packets ≡ map (seen whole) (rest x.distance).packets = ap (map (seen x.buf)) (packets_own x) ∙ last.packets in
        let packets : seen_in piece (suc n) ≡ map (seen whole) qs =
        ap (λ (l : List Seen). seen_in piece n ++ l) own-packets ∙ sym before.told ∙ ap (map (seen whole)) (sym (packets_whole qs h)) in (
          record {
            packets = packets;
            recorded =
                ap (λ (r : Recording). r.recording_reached) (answer_own x) ∙ last.reached ∙ sym before.reached
                ∙ sym (ap (λ (r : Recording). r.recording_reached) all);
            refusal =
                ap (λ (r : Recording). refused_in r.refusal) (answer_own x) ∙ last.refusal ∙ ap refused_in (sym before.refusal)
                ∙ sym (ap (λ (r : Recording). refused_in r.refusal) all);
          },
          sym (seen_accepted (suc n)) ∙ ap length packets ∙ length-map qs (seen whole) ∙ sym h.number,
        )

    -- ---- the reading ends

    -- whether a window is the last is a matter of numbers
    last_or_not : (x : One) → Last x ⊎ (¬ Last x)
    last_or_not x = go (eqb (start + x.distance + long x) end) refl (among (answer x).refusal.number waiting) refl
      where
        go : (b : Bool) → eqb (start + x.distance + long x) end ≡ b → (w : Bool) → among (answer x).refusal.number waiting ≡ w → Last x ⊎ (¬ Last x)
        go true h w q = inl (inl (eqb-true (start + x.distance + long x) end h))
        go false h false q = inl (inr (λ o. false≢true (sym q ∙ one_among (answer x).refusal.number waiting o)))
        go false h true q =
            inr (⊎_elim (eqb-false (start + x.distance + long x) end h) (λ stands. stands (among_one (answer x).refusal.number waiting q)))

    -- a window comes as far as its packets are long
    comes : (x : One) → (answer x).recording_reached ≡ base + x.distance + length_of x.packets
    comes x = x.handed.recorded

    -- one that accepts a packet comes further, one that accepts none doesn't
    further_on : (x : One) → 1 ≤ (answer x).accepted → base + x.distance < (answer x).recording_reached
    further_on x some =
        omega (arith, comes x, some_length x.buf x.from x.to (base + x.distance) (answer x) x.packets x.handed (omega (arith, some, x.handed.number)))

    stays : (x : One) → (answer x).accepted ≡ 0 → (answer x).recording_reached ≡ base + x.distance
    unfolding length_of
    stays x none = go x.packets (comes x) (sym x.handed.number ∙ none)
      where
        go : (ps : List Packet) → (answer x).recording_reached ≡ base + x.distance + length_of ps → length ps ≡ 0 → (answer x).recording_reached ≡ base + x.distance
        go [] q z = q ∙ add-zero (base + x.distance)
        go (p ∷ ps) q z = absurd (omega (arith, z))

    module _ (onward : Onward piece) where
      -- the first so many windows are not the last
      abbrev None : ℕ → Type 0
      None n = (k : ℕ) → k < n → ¬ Last (piece k)

      none_more : (n : ℕ) → None n → ¬ Last (piece n) → None (suc n)
      none_more n none other k l = go (eqb k n) refl
        where
          go : (b : Bool) → eqb k n ≡ b → ¬ Last (piece k)
          go true h = rw (eqb-true k n h) other
          go false h = none k (omega (arith, l, eqb-false k n h))

      -- up to the j-th one there is a last one, or there is none
      to_last : (j : ℕ) → ((n : ℕ) × None n × Last (piece n)) ⊎ None (suc j)
      to_last j = go (suc j)
        where
          go : (m : ℕ) → ((n : ℕ) × None n × Last (piece n)) ⊎ None m
          go zero = inr (λ k l. absurd (omega (arith, l)))
          go (suc m) =
              ⊎_elim inl
              (λ none. ⊎_elim (λ last. inl (m, none, last)) (λ other. inr (none_more m none other)) (last_or_not (piece m)))
              (go m)

      -- so long as none is the last, they don't go back
      not_back : (m n : ℕ) → m ≤ n → None n → (piece m).distance ≤ (piece n).distance
      not_back m zero l none = let same : m ≡ 0 = omega (arith, l) in rw same (omega arith)
      not_back m (suc n) l none = go (eqb m (suc n)) refl (λ h. not_back m n h (λ k q. none k (omega (arith, q))))
        where
          go : (b : Bool) → eqb m (suc n) ≡ b → (m ≤ n → (piece m).distance ≤ (piece n).distance) → (piece m).distance ≤ (piece (suc n)).distance
          go true h before = rw (eqb-true m (suc n) h) (omega arith)
          go false h before =
              let s = steps (piece n) in
              omega (arith, before (omega (arith, l, eqb-false m (suc n) h)), s.1, onward.next n (none n (omega arith)))

      to_end : ((k : ℕ) → (j : ℕ) × (k ≤ j) × (Last (piece j) ⊎ (1 ≤ (answer (piece j)).accepted)))
          → (left k : ℕ) → end - start < (piece k).distance + left → (n : ℕ) × None n × Last (piece n)
      to_end moves zero k l = absurd (omega (arith, l, (steps (piece k)).2))
      to_end moves (suc left) k l =
          let m = moves k in
          ⊎_elim (λ found. found)
          (λ none.
          ⊎_elim (λ last. absurd (none m.0 (omega arith) last))
          (λ some.
          let further = further_on (piece m.0) some in
          let after = onward.next m.0 (none m.0 (omega arith)) in
          to_end moves left (suc m.0) (omega (arith, l, further, after, not_back k m.0 m.1 (λ q h. none q (omega (arith, h))))))
          m.2)
          (to_last m.0)

      pub ends_in : ((k : ℕ) → (j : ℕ) × (k ≤ j) × (Last (piece j) ⊎ (1 ≤ (answer (piece j)).accepted))) → Ends piece
      ends_in moves =
          let found = to_end moves (suc (end - start)) 0 (omega arith) in
          (found.0, record { first = onward.first; next = λ k l. onward.next k (found.1 k l) }, found.2)

      -- a window that accepts no packet is followed by a longer one at its place, until one holds the whole rest
      module _ (grow : (k : ℕ) → ¬ Last (piece k) → (answer (piece k)).accepted ≡ 0 → long (piece k) < long (piece (suc k))) where
        grown : (left k : ℕ) → end - (start + (piece k).distance + long (piece k)) ≤ left → (j : ℕ) × (k ≤ j) × (Last (piece j) ⊎ (1 ≤ (answer (piece j)).accepted))
        grown zero k l = (k, omega arith, inl (inl (omega (arith, l, (piece k).fits))))
        grown (suc left) k l = go (last_or_not (piece k)) (eqb (answer (piece k)).accepted 0) refl (grown left (suc k))
          where
            go : Last (piece k) ⊎ (¬ Last (piece k)) → (b : Bool) → eqb (answer (piece k)).accepted 0 ≡ b
                → (end - (start + (piece (suc k)).distance + long (piece (suc k))) ≤ left
                → (j : ℕ) × (suc k ≤ j) × (Last (piece j) ⊎ (1 ≤ (answer (piece j)).accepted)))
                → (j : ℕ) × (k ≤ j) × (Last (piece j) ⊎ (1 ≤ (answer (piece j)).accepted))
            go (inl last) b h later = (k, omega arith, inl last)
            go (inr other) false h later = (k, omega arith, inr (omega (arith, eqb-false (answer (piece k)).accepted 0 h)))
            go (inr other) true h later =
                let none = eqb-true (answer (piece k)).accepted 0 h in
                let same : base + (piece (suc k)).distance ≡ base + (piece k).distance = onward.next k other ∙ stays (piece k) none in
                let found = later (omega (arith, l, same, grow k other none, (piece (suc k)).fits)) in
                (found.0, omega (arith, found.1), found.2)

        pub ends_grown : Ends piece
        ends_grown = ends_in (λ k. grown (end - (start + (piece k).distance + long (piece k))) k (omega arith))
