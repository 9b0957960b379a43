-- Contents that the writer accepts, written end to end in a window, are handed out, and an altered packet behind them ends the reading.
use mathlib.Core.Path.{◌≡◌, refl, sym, ap, subst, ◌∙◌}
use mathlib.Core.List.{List, [], ◌∷◌, ◌++◌, map, append_assoc, append-nil}
use Prim.Native.Nat.{ℕ, ◌+◌, ◌-◌, ◌≤◌, ◌<◌}
use native.Mathlib.Omega.{arith}
use native.Mathlib.Nat.{add-zero}
use lib.ListN.{length, take, drop, length-append, length-map}
use lib.Seq.{take_at, drop_at}
use Rattle.units.specs.Units.{part}
use Rattle.terms.specs.Refusals.{refused, no_refusal}
use Rattle.terms.specs.declared.Refusal.{Refusal}
use Rattle.frame.specs.Table.{first, frame_lines}
use Rattle.packet.specs.Read.{window}
use Rattle.frame.specs.Contents.{Contents}
use Rattle.packet_bytes.specs.Bytes.{packet_bytes}
use Rattle.packet.specs.declared.Packet.{Packet}
use Rattle.packet.proofs.Passes.{Inside, inside_made, inside_on, window_ends, pass_refused, pass_inside, read_barred}
use Rattle.packet.proofs.Window.{own_part}
use Rattle.recording.specs.Reading.{Reading, stopped, ahead, reading, read_recording}
use Rattle.recording.proofs.Readings.{from, joined, from_end, from_on, from_stops, reading_inside}
use Rattle.promises.proofs.HandedOut.{hands_out, window_behind}
use Rattle.promises.specs.Contents.{Accepts, AllAccepted, nil, cons, written, contents_of}
use Rattle.promises.specs.Altered.{UnitOf, sync, primary, secondary, trailer, Altered}
use Rattle.promises.specs.Endings.{refused_there}
use Rattle.promises.specs.ReadsAs.{answered, ReadsAs}
use Rattle.promises.proofs.Writer.{length_of_lem}
use Rattle.promises.proofs.Written.{read_written}
use Rattle.promises.proofs.Alterations.{altered_refused}
use Rattle.promises.proofs.Refusing.{start_recorded}

-- ---- an altered packet

unit_number : (c : Contents) (n at width : ℕ) → UnitOf c n at width → n ≡ 0 → ⊥
unit_number c n at width sync z = omega (arith, z)
unit_number c n at width (primary j some most) z = omega (arith, z)
unit_number c n at width (secondary j most) z = omega (arith, z)
unit_number c n at width (trailer j some most) z = omega (arith, z)

altered_number : (c : Contents) (n : ℕ) (ys : List ℕ) → Altered c n ys → n ≡ 0 → ⊥
altered_number c n ys h = unit_number c n h.place h.width h.unit

altered_some : (c : Contents) (n : ℕ) (ys : List ℕ) → Altered c n ys → 0 < length ys
altered_some c n ys h = omega (arith, h.change.long, length_of_lem c)

-- ---- a window that begins with some bytes

module _ (buf : List ℕ) (end at base : ℕ) (in_buf : Inside buf at end base) (xs bs : List ℕ) (holds : window buf at end ≡ xs ++ bs) where
  front_fits : at + length xs ≤ end
  front_fits = omega (arith, window_ends buf at end base in_buf, ap length holds, length-append xs bs)

  front_is : part buf at (length xs) ≡ xs
  front_is =
      own_part buf at end (length xs) (omega (arith, front_fits))
      ∙ ap (take (length xs)) holds
      ∙ take_at xs bs (length xs) refl

  back_is : window buf (at + length xs) end ≡ bs
  back_is = sym (window_behind buf at (length xs) end) ∙ ap (drop (length xs)) holds ∙ drop_at xs bs (length xs) refl

  -- behind them, with the base moved on as far
  back_in : Inside buf (at + length xs) end (base + length xs)
  back_in = inside_on buf at end base (length xs) in_buf front_fits

-- ---- packets one behind the other

module _ (buf : List ℕ) (end : ℕ) where
  record Front (at base : ℕ) (cs : List Contents) (bs : List ℕ) : Type 0 where
    packets : List Packet
    contents : map (contents_of buf) packets ≡ cs
    reads : from buf at end base ≡ joined packets (from buf (at + length (written cs)) end (base + length (written cs)))
    in_buf : Inside buf (at + length (written cs)) end (base + length (written cs))
    behind : window buf (at + length (written cs)) end ≡ bs

  front_written : (cs : List Contents) → AllAccepted cs → (at base : ℕ) → Inside buf at end base → (bs : List ℕ) → window buf at end ≡ written cs ++ bs
      → Front at base cs bs
  unfolding written
  front_written [] nil at base i bs holds = record {
    packets = [];
    contents = refl;
    reads = rw (add-zero at, add-zero base);
    in_buf = rw (add-zero at, add-zero base) i;
    behind = rw (add-zero at) holds;
  }
  front_written (c ∷ cs) (cons a rest) at base i bs holds =
      let x = packet_bytes c in
      let split : window buf at end ≡ x ++ (written cs ++ bs) = holds ∙ append_assoc x (written cs) bs in
      let fits = front_fits buf end at base i x (written cs ++ bs) split in
      let (p, accepted, contents, long) = read_written c a buf at end base i fits (front_is buf end at base i x (written cs ++ bs) split) in
      let next =
      front_written cs rest (at + length x) (base + length x) (back_in buf end at base i x (written cs ++ bs) split) bs
      (back_is buf end at base i x (written cs ++ bs) split) in
      let place : at + length (x ++ written cs) ≡ at + length x + length (written cs) = omega (arith, length-append x (written cs)) in
      let recorded : base + length (x ++ written cs) ≡ base + length x + length (written cs) = omega (arith, length-append x (written cs)) in
      let some : at < end = omega (arith, fits, length_of_lem c) in
      record {
        packets = p ∷ next.packets;
        contents = λ i. contents i ∷ next.contents i;
        reads = from_on buf at end base p some accepted ∙ rw (long, place, recorded) (ap (ahead p) next.reads);
        in_buf = rw (place, recorded) next.in_buf;
        behind = rw place next.behind;
      }

-- ---- and then the end, or a packet that is refused

module _ (buf : List ℕ) (start end base : ℕ) (in_buf : Inside buf start end base) (cs : List Contents) (good : AllAccepted cs) (bs : List ℕ)
    (holds : window buf start end ≡ written cs ++ bs) where
  front : Front buf end start base cs bs
  front = front_written buf end cs good start base in_buf bs holds

  abbrev reached : ℕ
  reached = start + length (written cs)

  abbrev recorded_reached : ℕ
  recorded_reached = base + length (written cs)

  reads_on : (refusal : Refusal) → from buf reached end recorded_reached ≡ stopped reached recorded_reached refusal
      → ReadsAs buf start end base cs reached recorded_reached refusal
  unfolding read_recording
  reads_on refusal q =
      let ps = front.packets in
      let e : reading buf start end base ≡ joined ps (stopped reached recorded_reached refusal) =
      reading_inside buf start end base (inside_made buf start end base in_buf) ∙ front.reads ∙ ap (joined ps) q in
      let same : (reading buf start end base).packets ≡ ps = ap (λ (r : Reading). r.packets) e ∙ append-nil ps in
      let count : length (reading buf start end base).packets ≡ length cs = ap length same ∙ sym (length-map ps (contents_of buf)) ∙ ap length front.contents in
      let answer : read_recording buf start end base ≡ answered cs reached recorded_reached refusal =
      λ i. record { accepted = count i; reached = (e i).reached; recording_reached = (e i).recording_reached; refusal = (e i).refusal } in
      record { answer = answer; packets = ps; handed = rw (← answer, ← same) (hands_out buf start end base); contents = front.contents }

  pub reads_to_end : bs ≡ [] → ReadsAs buf start end base cs end (base + (end - start)) no_refusal
  reads_to_end z =
      let f = front in
      let here : reached ≡ end = omega (arith, f.in_buf.ordered, window_ends buf reached end recorded_reached f.in_buf, ap length (f.behind ∙ z)) in
      let far : recorded_reached ≡ base + (end - start) = omega (arith, here) in
      rw (← far) (subst (λ (place : ℕ). ReadsAs buf start end base cs place recorded_reached no_refusal) here
      (reads_on no_refusal (from_end buf reached end recorded_reached (omega arith))))

  pub reads_to_altered : (c : Contents) → Accepts c → (n : ℕ) (ys rest : List ℕ) → Altered c n ys → bs ≡ ys ++ rest
      → ReadsAs buf start end base cs reached recorded_reached (refused_there n reached recorded_reached)
  reads_to_altered c a n ys rest h e =
      let f = front in
      let w = f.behind ∙ e in
      let number : n ≡ first (frame_lines (window buf reached end)) = sym (ap (λ (l : List ℕ). first (frame_lines l)) w ∙ altered_refused c a rest n ys h) in
      let barred = pass_refused (window buf reached end) reached (refused n reached) (rw (← number) (altered_number c n ys h)) (rw (← number) refl) in
      let stops = pass_inside buf reached end recorded_reached (inside_made buf reached end recorded_reached f.in_buf) ∙ sym barred in
      let some : reached < end = omega (arith, front_fits buf end reached recorded_reached f.in_buf ys rest w, altered_some c n ys h) in
      reads_on (refused_there n reached recorded_reached)
      (from_stops buf reached end recorded_reached _ some
      (sym (read_barred buf reached end recorded_reached (refused n reached) _ stops (sym (start_recorded recorded_reached reached n 0)))))
