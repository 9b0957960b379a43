-- Reading ahead: the sentences of specs/Ahead.antt.
use Rattle.std.specs.Prelude.{Result, Ok, Err}
use mathlib.Core.Path.{◌≡◌, refl, sym, ap, subst, ◌∙◌}
use mathlib.Core.List.{List, [], ◌∷◌, ◌++◌, map}
use mathlib.Core.Bool.{Bool, true, false}
use mathlib.Core.Logic.{◌⊎◌, inl, inr, ⊎_elim, ◌≢◌, ◌↔◌}
use Prim.Native.Nat.{ℕ, ◌+◌, ◌-◌, ◌≤◌, ◌<◌}
use native.Mathlib.Omega.{arith}
use native.Mathlib.Nat.{add-zero}
use lib.ListN.{length, take, length-append}
use lib.Seq.{take_at}
use lib.Dec.{leb}
use borrow.Author.Tests.{leb-false}
use Rattle.units.specs.Units.{part}
use Rattle.units.proofs.Parts.{field_front}
use Rattle.terms.specs.declared.Refusal.{Refusal}
use Rattle.frame.specs.Header.{channel_in, version_in, kind_in, flags_in, packet_length, data_length}
use Rattle.frame.specs.Table.{line, first, head_lines, value_lines, values_in, whole_lines, secondary_lines, trailer_lines, frame_lines}
use Rattle.frame.proofs.Frames.{valued_says, lengths_say, limit_cap, head_enough, head_front, values_front, short_2, cut_longer}
use Rattle.frame.proofs.Tables.{stage_none}
use Rattle.packet.specs.Read.{inside, window, body_checked, read_packet, packet_told}
use Rattle.packet.specs.declared.Packet.{Packet}
use Rattle.packet.proofs.Passes.{Inside, inside_on, window_ends}
use Rattle.packet.proofs.Window.{read_window}
use Rattle.recording.specs.Reading.{Reading, read_recording}
use Rattle.recording.specs.declared.Recording.{Recording}
use Rattle.recording.proofs.Readings.{from, joined}
use Rattle.promises.specs.Handed.{length_of, Within, HandsOut}
use Rattle.promises.specs.Keeps.{P}
use Rattle.promises.specs.Refusals.{OneOf}
use Rattle.promises.specs.Ahead.{Further, waiting, Waits, bytes_in, in_recording, refused_in, Seen, seen, SameTold, Piece, answer, Last, Ahead}
use Rattle.promises.proofs.HandedOut as handed
use Rattle.promises.proofs.HandedOut.{inside_within, within_inside, read_outside, hands_out_once, recording_window, reading_window, window_longer}
use Rattle.promises.proofs.Refusing.{first_one, stage_other, stage_front, line_kept, bytes_lines, frame_numbered}
use Rattle.promises.proofs.BodiesKept.{body_passes}
use Rattle.promises.proofs.Members.{among}
use Rattle.promises.proofs.Further.{told_first, told_frame, read_longer, reads_on, in_read, answers_elsewhere, from_elsewhere, reading_from, recording_from, packets_from, come, from_decided}
use Rattle.promises.proofs.Pieces.{told_in_one, told_so_far, ends_in, ends_grown}

-- the bytes of what is seen
bytes_seen : (buf : List ℕ) (ps : List Packet) → map (bytes_in buf) ps ≡ map (λ (x : Seen). x.bytes) (map (seen buf) ps)
bytes_seen buf [] = refl
bytes_seen buf (p ∷ ps) = ap (λ (l : List (List ℕ)). bytes_in buf p ∷ l) (bytes_seen buf ps)

-- ---- 2 and 10 in the table

-- what is told as 2 or 10 is told by the frame's table
by_frame : (buf : List ℕ) (s e base n : ℕ) → Inside buf s e base → among n (0 ∷ 15 ∷ []) ≡ false → (packet_told (read_packet buf s e base)).refusal.number ≡ n
    → first (frame_lines (window buf s e)) ≡ n
by_frame buf s e base n i other q =
    stage_front (frame_lines (window buf s e)) _ n (frame_numbered (window buf s e)) other (sym (told_first buf s e base i) ∙ q)

two_says : (w : List ℕ) → first (frame_lines w) ≡ 2 → length w < 24
unfolding frame_lines head_lines value_lines whole_lines secondary_lines trailer_lines
two_says w q = go (leb 24 (length w)) refl
  where
    go : (b : Bool) → leb 24 (length w) ≡ b → length w < 24
    go true h = absurd (line_kept 2 (leb 24 (length w)) _ h refl q)
    go false h = leb-false 24 (length w) h

-- a header that keeps its rules, and less of its packet than it declares
record Cut (w : List ℕ) : Type 0 where
  header : 24 ≤ length w
  head : first (head_lines w) ≡ 0
  values : first (values_in w) ≡ 0
  there : length w < packet_length w
  capped : packet_length w ≤ 134217728

ten_says : (w : List ℕ) → first (frame_lines w) ≡ 10 → Cut w
unfolding frame_lines head_lines value_lines whole_lines secondary_lines trailer_lines
ten_says w q =
    let h = stage_other (head_lines w) _ 10 tt refl q in
    let v = stage_other (values_in w) _ 10 tt refl h.1 in
    let l = lengths_say (kind_in w) (flags_in w) (packet_length w) (data_length w) (valued_says (channel_in w) (version_in w) (flags_in w) (kind_in w) (packet_length w) (data_length w) v.0).lengths_ok in
    record {
      header = head_enough w h.0;
      head = h.0;
      values = v.0;
      there = go (leb (packet_length w) (length w)) refl v.1;
      capped = omega (arith, l.within, limit_cap (kind_in w));
    }
  where
    go : (b : Bool) → leb (packet_length w) (length w) ≡ b → first (whole_lines w ++ (secondary_lines w ++ trailer_lines w)) ≡ 10 → length w < packet_length w
    go true h q = absurd (line_kept 10 (leb (packet_length w) (length w)) _ h refl q)
    go false h q = leb-false (packet_length w) (length w) h

-- behind a header that keeps its rules none of 2 to 9 is told
behind_header : (v t : List ℕ) → 24 ≤ length v → first (head_lines v) ≡ 0 → first (values_in v) ≡ 0
    → OneOf (first (bytes_lines (v ++ t))) (0 ∷ 10 ∷ 11 ∷ 12 ∷ 13 ∷ 14 ∷ 15 ∷ [])
unfolding frame_lines head_lines value_lines whole_lines secondary_lines trailer_lines
behind_header v t long head values =
    let h : first (head_lines (v ++ t)) ≡ 0 = ap first (head_front v t long) ∙ head in
    let u : first (values_in (v ++ t)) ≡ 0 = ap first (values_front v t long) ∙ values in
    rw (stage_none (head_lines (v ++ t)) _ tt h, stage_none (values_in (v ++ t)) _ tt u)
    (first_one (whole_lines (v ++ t) ++ (secondary_lines (v ++ t) ++ trailer_lines (v ++ t)) ++ (line 15 (body_passes (body_checked (v ++ t))) ∷ [])))

module _ (buf : List ℕ) (s e base : ℕ) where
  pub waits_for_header : Within buf s e base → ((packet_told (read_packet buf s e base)).refusal.number ≡ 2) ↔ (e < s + 24)
  waits_for_header within =
      let i = within_inside buf s e base within in
      let ends = window_ends buf s e base i in (
        λ q. omega (arith, ends, two_says (window buf s e) (by_frame buf s e base 2 i refl q)),
        λ h. told_frame buf s e base i 2 (λ (z : ◌≡◌ {A = ℕ} 2 0). omega arith) (short_2 (window buf s e) (omega (arith, ends, h))),
      )

  cut_at : Inside buf s e base → (packet_told (read_packet buf s e base)).refusal.number ≡ 10 → Cut (window buf s e)
  cut_at i q = ten_says (window buf s e) (by_frame buf s e base 10 i refl q)

  pub long_enough : s + 134217728 ≤ e
      → ((packet_told (read_packet buf s e base)).refusal.number ≢ 2) × ((packet_told (read_packet buf s e base)).refusal.number ≢ 10)
  long_enough long = go (inside buf s e base) refl
    where
      go : (b : Bool) → inside buf s e base ≡ b
          → ((packet_told (read_packet buf s e base)).refusal.number ≢ 2) × ((packet_told (read_packet buf s e base)).refusal.number ≢ 10)
      go true i =
          let within = inside_within buf s e base i in
          let in_buf = within_inside buf s e base within in
          let ends = window_ends buf s e base in_buf in (
            λ q. let short = (waits_for_header within).0 q in omega (arith, long, short),
            λ q. let cut = cut_at in_buf q in omega (arith, long, ends, cut.there, cut.capped),
          )
      go false o =
          let one : (packet_told (read_packet buf s e base)).refusal.number ≡ 1 = ap (λ (x : Result Packet Refusal). (packet_told x).refusal.number) (read_outside buf s e base o) in
          (λ q. omega (arith, one, q), λ q. omega (arith, one, q))

-- ---- two windows

module _ (a b : List ℕ) (start end end' base : ℕ) (further : Further a b start end end' base) where
  in_first : Inside a start end base
  in_first = within_inside a start end base further.first

  in_second : Inside b start end' base
  in_second = within_inside b start end' base further.second

  -- the first's bytes, in the second's buffer
  in_both : Inside b start end base
  in_both = record { ordered = in_first.ordered; within = omega (arith, further.longer, in_second.within); fits = in_first.fits }

  read_same : read_packet a start end base ≡ read_packet b start end base
  read_same = read_window a b start end base in_first.within in_both.within further.same

  recording_same : read_recording a start end base ≡ read_recording b start end base
  recording_same = recording_window a b start end base in_first.within in_both.within further.same

  from_same : from a start end base ≡ from b start end base
  from_same =
      sym (reading_from a start end base in_first)
      ∙ reading_window a b start end base in_first.within in_both.within further.same
      ∙ reading_from b start end base in_both

  pub read_decided : (packet_told (read_packet a start end base)).refusal.number ≢ 2 → (packet_told (read_packet a start end base)).refusal.number ≢ 10
      → read_packet b start end' base ≡ read_packet a start end base
  read_decided not-2 not-10 =
      read_longer b start end end' base in_both in_second further.longer
      (λ q. not-2 (ap (λ (x : Result Packet Refusal). (packet_told x).refusal.number) read_same ∙ q))
      (λ q. not-10 (ap (λ (x : Result Packet Refusal). (packet_told x).refusal.number) read_same ∙ q))
      ∙ sym read_same

  -- the second's window begins with the first's
  second_begins : window b start end' ≡ window a start end ++ part b end (end' - end)
  second_begins =
      window_longer b start end end' in_first.ordered further.longer ∙ ap (λ (x : List ℕ). x ++ part b end (end' - end)) (sym further.same)

  pub waits_for_packet : (packet_told (read_packet a start end base)).refusal.number ≡ 10
      → (P (window a start end) ≤ 134217728)
      × (((packet_told (read_packet b start end' base)).refusal.number ≡ 10) ↔ (end' < start + P (window a start end)))
      × OneOf (packet_told (read_packet b start end' base)).refusal.number (0 ∷ 10 ∷ 11 ∷ 12 ∷ 13 ∷ 14 ∷ 15 ∷ [])
  waits_for_packet q =
      let cut = cut_at a start end base in_first q in
      let w = window a start end in
      let t = part b end (end' - end) in
      let ends : start + length (w ++ t) ≡ end' = rw second_begins at (window_ends b start end' base in_second) in
      let p : packet_length (w ++ t) ≡ packet_length w = field_front w t 4 4 (omega (arith, cut.header)) in (
        cut.capped,
        (
          λ again. let still = rw second_begins at (cut_at b start end' base in_second again) in omega (arith, ends, p, still.there),
          λ h.
              told_frame b start end' base in_second 10 (λ (z : ◌≡◌ {A = ℕ} 10 0). omega arith)
              (rw second_begins (cut_longer w t cut.header cut.head cut.values (omega (arith, ends, h)))),
        ),
        rw (told_first b start end' base in_second, second_begins) (behind_header w t cut.header cut.head cut.values),
      )

  -- what the second hands out: the first's packets, and what is read on
  second_is : from b start end' base ≡ joined (from a start end base).packets (from b (from a start end base).reached end' (from a start end base).recording_reached)
  second_is = rw from_same (reads_on b end end' further.longer start base in_both in_second)

  pub kept : (ps qs : List Packet) → HandsOut a start end base (read_recording a start end base) ps → HandsOut b start end' base (read_recording b start end' base) qs
      → (take (length ps) qs ≡ ps) × (map (bytes_in a) ps ≡ map (bytes_in b) ps)
  kept ps qs h g =
      let ps-is = packets_from a start end base in_first _ ps h in
      let qs-is = packets_from b start end' base in_second _ qs g in
      let rest = from b (from a start end base).reached end' (from a start end base).recording_reached in
      let both : qs ≡ ps ++ rest.packets =
      qs-is ∙ ap (λ (r : Reading). r.packets) second_is ∙ ap (λ (l : List Packet). l ++ rest.packets) (sym ps-is) in
      let alike = from_elsewhere a b end end start start base in_first in_both further.same in
      let seen-both : map (seen a) ps ≡ map (seen b) ps =
      ap (map (seen a)) ps-is ∙ alike.packets ∙ ap (λ (r : Reading). map (seen b) r.packets) (sym from_same) ∙ ap (map (seen b)) (sym ps-is) in (
        ap (take (length ps)) both ∙ take_at ps rest.packets (length ps) refl,
        bytes_seen a ps ∙ ap (map (λ (x : Seen). x.bytes)) seen-both ∙ sym (bytes_seen b ps),
      )

  pub decided : ¬ Waits (read_recording a start end base) → read_recording b start end' base ≡ read_recording a start end base
  decided stands =
      let is = recording_from b start end base in_both in
      let stays : ¬ Waits (handed.answer (from b start end base)) =
      λ w. stands (subst (λ (n : ℕ). OneOf n waiting) (sym (ap (λ (r : Recording). r.refusal.number) (recording_same ∙ is))) w) in
      recording_from b start end' base in_second
      ∙ ap handed.answer (from_decided b start end end' base in_both in_second further.longer stays)
      ∙ sym (recording_same ∙ is)

  -- the place that the first reaches, and what is read on from there in the second's buffer
  module _ (r r' : Recording) (is : r ≡ read_recording a start end base) (is' : r' ≡ read_recording b r.reached end' r.recording_reached) where
    abbrev x : Reading
    x = from a start end base

    abbrev y : Reading
    y = from b x.reached end' x.recording_reached

    first_is : r ≡ handed.answer x
    first_is = is ∙ recording_from a start end base in_first

    in_rest : Inside b x.reached end' x.recording_reached
    in_rest =
        let c = come a start end base in_first in
        rw (c.1, c.2) (inside_on b start end' base c.0 in_second (omega (arith, c.3, further.longer)))

    pub goes_on : read_recording b start end' base
        ≡ record { accepted = r.accepted + r'.accepted; reached = r'.reached; recording_reached = r'.recording_reached; refusal = r'.refusal }
    goes_on =
        let rest-is : r' ≡ handed.answer y = is' ∙ rw first_is (recording_from b x.reached end' x.recording_reached in_rest) in
        recording_from b start end' base in_second ∙ ap handed.answer second_is ∙ rw (first_is, rest-is, length-append x.packets y.packets) refl

    pub goes_on_handed : (ps ps' qs : List Packet) → HandsOut a start end base r ps → HandsOut b r.reached end' r.recording_reached r' ps'
        → HandsOut b start end' base (read_recording b start end' base) qs → qs ≡ ps ++ ps'
    goes_on_handed ps ps' qs h h' g =
        let first-packets : ps ≡ x.packets = packets_from a start end base in_first r ps h in
        let rest-packets : ps' ≡ y.packets = packets_from b x.reached end' x.recording_reached in_rest r' ps' (rw first_is at h') in
        packets_from b start end' base in_second _ qs g ∙ ap (λ (z : Reading). z.packets) second_is ∙ rw (← first-packets, ← rest-packets) refl

pub elsewhere : (a b : List ℕ) (start end start' end' base : ℕ) → Within a start end base → Within b start' end' base
    → window a start end ≡ window b start' end' → (ps qs : List Packet)
    → HandsOut a start end base (read_recording a start end base) ps → HandsOut b start' end' base (read_recording b start' end' base) qs
    → SameTold (map (seen a) ps) (map (seen b) qs) (read_recording a start end base) (read_recording b start' end' base)
elsewhere a b start end start' end' base in_a in_b same ps qs h g =
    let i = within_inside a start end base in_a in
    let i' = within_inside b start' end' base in_b in
    let alike = from_elsewhere a b end end' start start' base i i' same in
    let is = recording_from a start end base i in
    let is' = recording_from b start' end' base i' in
    record {
      packets =
          ap (map (seen a)) (packets_from a start end base i _ ps h) ∙ alike.packets ∙ ap (map (seen b)) (sym (packets_from b start' end' base i' _ qs g));
      recorded = ap (λ (r : Recording). r.recording_reached) is ∙ alike.reached ∙ sym (ap (λ (r : Recording). r.recording_reached) is');
      refusal = ap (λ (r : Recording). refused_in r.refusal) is ∙ alike.refusal ∙ sym (ap (λ (r : Recording). refused_in r.refusal) is');
    }

pub read_elsewhere : (a b : List ℕ) (start end start' end' base : ℕ) → Within a start end base → Within b start' end' base
    → window a start end ≡ window b start' end'
    → (refused_in (packet_told (read_packet a start end base)).refusal ≡ refused_in (packet_told (read_packet b start' end' base)).refusal)
    × (in_recording (packet_told (read_packet a start end base)).packet ≡ in_recording (packet_told (read_packet b start' end' base)).packet)
read_elsewhere a b start end start' end' base in_a in_b same =
    let q = answers_elsewhere a b start end start' end' base (within_inside a start end base in_a) (within_inside b start' end' base in_b) same in
    go (read_packet a start end base) (read_packet b start' end' base) q
  where
    go : (x y : Result Packet Refusal) → in_read x ≡ in_read y
        → (refused_in (packet_told x).refusal ≡ refused_in (packet_told y).refusal) × (in_recording (packet_told x).packet ≡ in_recording (packet_told y).packet)
    go (Ok p) (Ok q) is = (refl, cc is)
    go (Err r) (Err f) is = (cc is, refl)
    go (Ok p) (Err f) is = let contrary : ◌≡◌ {A = ℕ} 0 1 = cc is in absurd (omega arith)
    go (Err r) (Ok q) is = let contrary : ◌≡◌ {A = ℕ} 0 1 = cc is in absurd (omega arith)

-- a window of the longest packet's length
pub moves_on : (whole : List ℕ) (start end base : ℕ) (x : Piece whole start end base) → x.from + 134217728 ≤ x.to → Last x ⊎ (1 ≤ (answer x).accepted)
unfolding length_of
moves_on whole start end base x long = go x.packets x.handed
  where
    go : (ps : List Packet) → HandsOut x.buf x.from x.to (base + x.distance) (answer x) ps → Last x ⊎ (1 ≤ (answer x).accepted)
    go (p ∷ ps) h = inr (omega (arith, h.number))
    go [] h =
        let here : (answer x).reached ≡ x.from = h.covers ∙ add-zero x.from in
        let base-here : (answer x).recording_reached ≡ base + x.distance = h.recorded ∙ add-zero (base + x.distance) in
        let enough = long_enough x.buf x.from x.to (base + x.distance) long in
        ⊎_elim
        (λ f. absurd (omega (arith, here, f.1, long)))
        (λ f.
        let number : (packet_told (read_packet x.buf x.from x.to (base + x.distance))).refusal.number ≡ (answer x).refusal.number =
        ap (λ (r : Refusal). r.number) (rw (here, base-here) at f.0) in
        inl (inr (λ w. ⊎_elim f.1 (λ w. ⊎_elim (λ q. enough.0 (number ∙ q)) (λ w. ⊎_elim (λ q. enough.1 (number ∙ q)) absurd w) w) w)))
        h.ends

pub ahead : Ahead
ahead =
    record {
      kept = kept;
      decided = decided;
      read_decided = read_decided;
      goes_on = goes_on;
      goes_on_handed = goes_on_handed;
      waits_for_header = waits_for_header;
      waits_for_packet = waits_for_packet;
      long_enough = long_enough;
      read_elsewhere = read_elsewhere;
      elsewhere = elsewhere;
      one_by_one = λ buf start end base r ps h. (hands_out_once buf start end base r ps h).0;
      in_one = λ whole start end base within. told_in_one whole start end base (within_inside whole start end base within);
      so_far = λ whole start end base within. told_so_far whole start end base (within_inside whole start end base within);
      ends = λ whole start end base within. ends_in whole start end base (within_inside whole start end base within);
      grows = λ whole start end base within. ends_grown whole start end base (within_inside whole start end base within);
      moves_on = moves_on;
    }
