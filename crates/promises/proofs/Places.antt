-- Document 02 §9: places in the recording are a base plus the distance from the window's start, and nothing else rests on the base.
use Rattle.std.specs.Prelude.{Result, Ok, Err}
use mathlib.Core.Path.{◌≡◌, refl, sym, ap, ◌∙◌}
use mathlib.Core.List.{List, ◌∷◌}
use mathlib.Core.Bool.{Bool, true, false, false≢true}
use mathlib.Core.Logic.{⊎_elim, ◌≢◌}
use Prim.Native.Nat.{ℕ, zero, suc, ◌+◌, ◌-◌, ◌≤◌, min}
use native.Mathlib.Omega.{arith}
use lib.ListN.{length}
use lib.Dec.{leb, ltb}
use Rattle.units.specs.Choice.{pick}
use Rattle.terms.specs.Refusals.{refused, no_refusal, needing, recorded}
use Rattle.terms.specs.declared.Refusal.{Refusal}
use Rattle.body.specs.declared.Message.{Message}
use Rattle.frame.specs.Header.{packet_length}
use Rattle.frame.specs.Table.{first, head_lines, value_lines, whole_lines, secondary_lines, trailer_lines, frame_lines}
use Rattle.packet.specs.Read.{window, packet_in, pass_bytes, pass_window, read_answer, read_packet, packet_told}
use Rattle.packet.specs.Messages.{message_count, kth_message, list_answer, recorded_list, list_packet, list_after, starts, lengths, message_answer, recorded_message, message_packet, list_told, entries, message_told}
use Rattle.packet.specs.declared.Packet.{Packet}
use Rattle.packet.proofs.Passes.{Inside, inside_made, window_ends, bytes_passed, pass_outside, pass_inside, read_barred}
use Rattle.packet.proofs.Told.{pass_numbered}
use Rattle.packet.proofs.Window.{entries_told}
use Rattle.packet.proofs.Own.{accepted_at}
use Rattle.recording.specs.Reading.{Reading, stopped, onward, read_from, reading, read_recording}
use Rattle.recording.proofs.Readings.{reading_inside}
use Rattle.promises.specs.Endings.{zero_packet, zero_message, AsFar, refused_there, read_told, listed_told, given_told}
use Rattle.promises.specs.Handed.{length_of, Within, HandsOut}
use Rattle.promises.specs.Places.{Recorded, Apart, RefusalApart, PacketApart, ToldApart, PacketsApart, none, next, AnswersApart, Places}
use Rattle.promises.proofs.Ends.{accepted_is, window_recorded, read_all, list_all, message_all}
use Rattle.promises.proofs.HandedOut.{within_inside, not_inside, read_outside, hands_out, hands_out_once, same_behind}
use Rattle.promises.proofs.Members.{one_among}
use Rattle.promises.proofs.Refusing.{numbers, first_one, bytes_lines, all_lines, number_is, start_recorded}
use Rattle.promises.proofs.WriterKeeping.{write_unrecorded}

-- ---- packets

packet_in_places : (w : List ℕ) (at base : ℕ) → ((packet_in w at base).header.at ≡ at) × ((packet_in w at base).recording_place ≡ base)
unfolding packet_in
packet_in_places w at base = (refl, refl)

packet_recorded : (buf : List ℕ) (start end base : ℕ) (p : Packet) → packet_told (read_packet buf start end base) ≡ read_told no_refusal p
    → (p.header.at ≡ start) × (p.recording_place ≡ base)
packet_recorded buf start end base p is =
    rw (accepted_at buf start end base p (accepted_is buf start end base p is)).packet (packet_in_places (window buf start end) start base)

-- ---- refusals

-- one at the window's start
at_start : (start base : ℕ) → AsFar start base start (base + (start - start))
at_start start base = (0, omega arith, omega arith)

module _ (buf : List ℕ) (s e base : ℕ) where
  none_recorded : Recorded s base no_refusal
  none_recorded some = absurd (some refl)

  barred_recorded : (r : Refusal) → pass_window buf s e base ≡ Err r → Recorded s base (recorded base s r)
  barred_recorded r q some = window_recorded buf s e base r q

  read_recorded : Recorded s base (packet_told (read_packet buf s e base)).refusal
  read_recorded = read_all buf s e base (Recorded s base) none_recorded barred_recorded

  list_recorded : (m n : ℕ) → Recorded s base (list_told (list_packet buf s e base m n)).refusal
  list_recorded = list_all buf s e base (Recorded s base) none_recorded barred_recorded (λ count some. at_start s base)

  message_recorded : (k : ℕ) → Recorded s base (message_told (message_packet buf s e base k)).refusal
  message_recorded = message_all buf s e base (Recorded s base) none_recorded barred_recorded (λ some. at_start s base)

-- the recording's is the reader's, where it reached, with its base moved on as far
recording_recorded : (buf : List ℕ) (start end base : ℕ) → Recorded start base (read_recording buf start end base).refusal
recording_recorded buf start end base some =
    let h = hands_out buf start end base in
    let r = read_recording buf start end base in
    ⊎_elim
    (λ f. absurd (some (ap (λ (x : Refusal). x.number) f.2)))
    (λ f.
    let (distance, place, far) = rw f.0 at (read_recorded buf r.reached end r.recording_reached) f.1 in
    (length_of (reading buf start end base).packets + distance, omega (arith, place, h.covers), omega (arith, far, h.recorded)))
    h.ends

-- ---- 1

module _ (buf : List ℕ) (s e base : ℕ) (other : ¬ Within buf s e base) where
  outside : pass_window buf s e base ≡ Err (refused 1 s)
  outside = pass_outside buf s e base (not_inside buf s e base other)

  told_outside : packet_told (read_packet buf s e base) ≡ read_told (refused_there 1 s base) zero_packet
  told_outside =
      ap packet_told (read_outside buf s e base (not_inside buf s e base other)) ∙ ap (λ (r : Refusal). read_told r zero_packet) (start_recorded base s 1 0)

  list_outside : (m n : ℕ) → list_told (list_packet buf s e base m n) ≡ listed_told (refused_there 1 s base) 0
  unfolding list_packet list_answer
  list_outside m n = rw outside (ap (λ (r : Refusal). listed_told r 0) (start_recorded base s 1 0))

  message_outside : (k : ℕ) → message_told (message_packet buf s e base k) ≡ given_told (refused_there 1 s base) zero_message
  unfolding message_packet message_answer
  message_outside k = rw outside (ap (λ (r : Refusal). given_told r zero_message) (start_recorded base s 1 0))

bytes_other : (w : List ℕ) → first (bytes_lines w) ≢ 1
unfolding frame_lines head_lines value_lines whole_lines secondary_lines trailer_lines
bytes_other w is = false≢true (one_among 1 (0 ∷ numbers (bytes_lines w)) (rw is at (first_one (bytes_lines w))))

read_within : (buf : List ℕ) (s e base : ℕ) → Within buf s e base → (packet_told (read_packet buf s e base)).refusal.number ≢ 1
unfolding all_lines first
read_within buf s e base within is =
    bytes_other (window buf s e)
    (rw (inside_made buf s e base (within_inside buf s e base within)) at (sym (number_is buf s e base)) ∙ is)

module _ (buf : List ℕ) (s e base : ℕ) (within : Within buf s e base) where
  abbrev Other : Refusal → Type 0
  Other r = r.number ≢ 1

  barred_within : (r : Refusal) → pass_window buf s e base ≡ Err r → Other (recorded base s r)
  barred_within r q is =
      read_within buf s e base within
      (sym (ap (λ (x : Result Packet Refusal). (packet_told x).refusal.number) (read_barred buf s e base r _ q refl)) ∙ is)

  list_within : (m n : ℕ) → Other (list_told (list_packet buf s e base m n)).refusal
  list_within = list_all buf s e base Other (λ (z : ◌≡◌ {A = ℕ} 0 1). omega arith) barred_within (λ count (z : ◌≡◌ {A = ℕ} 16 1). omega arith)

  message_within : (k : ℕ) → Other (message_told (message_packet buf s e base k)).refusal
  message_within = message_all buf s e base Other (λ (z : ◌≡◌ {A = ℕ} 0 1). omega arith) barred_within (λ (z : ◌≡◌ {A = ℕ} 17 1). omega arith)

  -- the window from the place reached on is in its buffer too
  recording_within : Other (read_recording buf s e base).refusal
  recording_within is =
      let h = hands_out buf s e base in
      let r = read_recording buf s e base in
      ⊎_elim
      (λ f. omega (arith, is, ap (λ (x : Refusal). x.number) f.2))
      (λ f.
      let before = f.2 within in
      read_within buf r.reached e r.recording_reached
      (omega (arith, before), within.1, omega (arith, before, within.0, within.2, h.covers, h.recorded))
      (ap (λ (x : Refusal). x.number) f.0 ∙ is))
      h.ends

-- ---- other bases

module _ (base base' : ℕ) where
  none_apart : RefusalApart base base' no_refusal no_refusal
  none_apart = record { alone = refl; apart = λ h. absurd (h refl); none = λ z. refl }

  -- of windows that begin at these places in the recording
  module _ (at b b' : ℕ) (far : Apart base base' b b') where
    refusal_apart : (r : Refusal) → r.number ≢ 0 → RefusalApart base base' (recorded b at r) (recorded b' at r)
    refusal_apart r some = record { alone = refl; apart = λ h. omega (arith, far); none = λ z. absurd (some z) }

    packet_apart : (w : List ℕ) → PacketApart base base' (packet_in w at b) (packet_in w at b')
    unfolding packet_in
    packet_apart w = record { alone = refl; apart = far }

-- two windows with equal bytes
module _ (a b : List ℕ) (s e base base' : ℕ) (in_a : Inside a s e base) (in_b : Inside b s e base') (same : window a s e ≡ window b s e) where
  abbrev w : List ℕ
  w = window a s e

  pass_a : pass_window a s e base ≡ pass_bytes w s
  pass_a = pass_inside a s e base (inside_made a s e base in_a)

  pass_b : pass_window b s e base' ≡ pass_bytes w s
  pass_b = pass_inside b s e base' (inside_made b s e base' in_b) ∙ ap (λ (v : List ℕ). pass_bytes v s) (sym same)

  numbered : (r : Refusal) → pass_bytes w s ≡ Err r → r.number ≢ 0
  numbered r q = pass_numbered a s e base r (pass_a ∙ q)

  read_apart : ToldApart base base' (packet_told (read_packet a s e base)) (packet_told (read_packet b s e base'))
  unfolding read_packet read_answer
  read_apart = rw (pass_a, pass_b, ← same) (go (pass_bytes w s) refl)
    where
      go : (x : Result ℕ Refusal) → pass_bytes w s ≡ x → ToldApart base base' (packet_told (read_answer x w s base)) (packet_told (read_answer x w s base'))
      go (Ok n) q =
          record {
            refusal = none_apart base base';
            accepted = λ z. packet_apart base base' s base base' (omega arith) w;
            refused = λ h. absurd (h refl);
          }
      go (Err r) q =
          record {
            refusal = refusal_apart base base' s base base' (omega arith) r (numbered r q);
            accepted = λ z. absurd (numbered r q z);
            refused = λ h. refl;
          }

  -- the two lists' answers are one, but for the place in the recording
  abbrev listed : ℕ → ℕ → Result ℕ Refusal
  listed m n = list_answer (pass_bytes w s) s (message_count w) (min m n)

  list_a : (m n : ℕ) → list_packet a s e base m n ≡ recorded_list base s (listed m n)
  unfolding list_packet
  list_a m n = rw pass_a

  list_b : (m n : ℕ) → list_packet b s e base' m n ≡ recorded_list base' s (listed m n)
  unfolding list_packet
  list_b m n = rw (pass_b, ← same)

  abbrev ListApart : Result ℕ Refusal → Type 0
  ListApart x =
      RefusalApart base base' (list_told (recorded_list base s x)).refusal (list_told (recorded_list base' s x)).refusal
      × ((list_told (recorded_list base s x)).count ≡ (list_told (recorded_list base' s x)).count)

  listed_apart : (m n : ℕ) → ListApart (listed m n)
  unfolding list_answer
  listed_apart m n = go (pass_bytes w s) refl
    where
      fits : (t : Bool) (count : ℕ) → ListApart (pick t (Err (needing count (refused 16 s))) (Ok count))
      fits true count = (refusal_apart base base' s base base' (omega arith) (needing count (refused 16 s)) (λ (z : ◌≡◌ {A = ℕ} 16 0). omega arith), refl)
      fits false count = (none_apart base base', refl)

      go : (x : Result ℕ Refusal) → pass_bytes w s ≡ x → ListApart (list_answer x s (message_count w) (min m n))
      go (Ok p) q = fits (ltb (min m n) (message_count w)) (message_count w)
      go (Err r) q = (refusal_apart base base' s base base' (omega arith) r (numbered r q), refl)

  entries_recorded : (at start : ℕ) (x : Result ℕ Refusal) (values : ℕ → ℕ) (old : List ℕ) → entries (recorded_list at start x) values old ≡ entries x values old
  unfolding list_after
  entries_recorded at start (Ok n) values old = refl
  entries_recorded at start (Err r) values old = refl

  entries_apart : (values : ℕ → ℕ) (m n : ℕ) (old old' : List ℕ)
      → entries (recorded_list base s (listed m n)) values old ≡ entries (recorded_list base' s (listed m n)) values old'
  entries_apart values m n old old' =
      entries_recorded base s (listed m n) values old
      ∙ entries_told (listed m n) values old old'
      ∙ sym (entries_recorded base' s (listed m n) values old')

  abbrev given : ℕ → Result Message Refusal
  given k = message_answer (pass_bytes w s) s (message_count w) k (kth_message w k)

  abbrev MessageApart : Result Message Refusal → Type 0
  MessageApart x =
      RefusalApart base base' (message_told (recorded_message base s x)).refusal (message_told (recorded_message base' s x)).refusal
      × ((message_told (recorded_message base s x)).message ≡ (message_told (recorded_message base' s x)).message)

  given_apart : (k : ℕ) → MessageApart (given k)
  unfolding message_answer
  given_apart k = go (pass_bytes w s) refl
    where
      there : (t : Bool) (m : Message) → MessageApart (pick t (Err (refused 17 s)) (Ok m))
      there true m = (refusal_apart base base' s base base' (omega arith) (refused 17 s) (λ (z : ◌≡◌ {A = ℕ} 17 0). omega arith), refl)
      there false m = (none_apart base base', refl)

      go : (x : Result ℕ Refusal) → pass_bytes w s ≡ x → MessageApart (message_answer x s (message_count w) k (kth_message w k))
      go (Ok p) q = there (leb (message_count w) k) (kth_message w k)
      go (Err r) q = (refusal_apart base base' s base base' (omega arith) r (numbered r q), refl)

  message_apart : (k : ℕ)
      → RefusalApart base base' (message_told (message_packet a s e base k)).refusal (message_told (message_packet b s e base' k)).refusal
      × ((message_told (message_packet a s e base k)).message ≡ (message_told (message_packet b s e base' k)).message)
  unfolding message_packet
  message_apart k = rw (pass_a, pass_b, ← same) (given_apart k)

-- ---- and readings

record ReadingApart (base base' : ℕ) (r r' : Reading) : Type 0 where
  packets : PacketsApart base base' r.packets r'.packets
  reached : r.reached ≡ r'.reached
  recording_reached : Apart base base' r.recording_reached r'.recording_reached
  refusal : RefusalApart base base' r.refusal r'.refusal

module _ (a b : List ℕ) (e base base' : ℕ) where
  stop_apart : (at here here' : ℕ) (r r' : Refusal) → Apart base base' here here' → RefusalApart base base' r r'
      → ReadingApart base base' (stopped at here r) (stopped at here' r')
  stop_apart at here here' r r' far refusal = record { packets = none; reached = refl; recording_reached = far; refusal = refusal }

  -- one packet, or the end; behind it `more`
  module _ (turns at here here' : ℕ) (in_a : Inside a at e here) (in_b : Inside b at e here') (same : window a at e ≡ window b at e)
      (far : Apart base base' here here')
      (more : (k : ℕ) → at + k ≤ e → ReadingApart base base' (read_from turns a (at + k) e (here + k)) (read_from turns b (at + k) e (here' + k))) where
    abbrev rest : List ℕ → ℕ → Packet → Reading
    rest buf from-here p = read_from turns buf (at + p.length) e (from-here + p.length)

    passes : (x : Result ℕ Refusal) → pass_bytes (window a at e) at ≡ x
        → ReadingApart base base' (onward (read_answer x (window a at e) at here) at here (rest a here))
        (onward (read_answer x (window a at e) at here') at here' (rest b here'))
    unfolding read_answer packet_in
    passes (Ok n) q =
        let sound = (bytes_passed (window a at e) at n q).sound in
        let behind = more (packet_length (window a at e)) (omega (arith, sound.there, window_ends a at e here in_a)) in
        record {
          packets = next (packet_apart base base' at here here' far (window a at e)) behind.packets;
          reached = behind.reached;
          recording_reached = behind.recording_reached;
          refusal = behind.refusal;
        }
    passes (Err r) q =
        stop_apart at here here' _ _ far (refusal_apart base base' at here here' far r (numbered a b at e here here' in_a in_b same r q))

    step_apart : (t : Bool)
        → ReadingApart base base' (pick t (stopped at here no_refusal) (onward (read_packet a at e here) at here (rest a here)))
        (pick t (stopped at here' no_refusal) (onward (read_packet b at e here') at here' (rest b here')))
    unfolding read_packet
    step_apart true = stop_apart at here here' no_refusal no_refusal far (none_apart base base')
    step_apart false =
        rw (pass_a a b at e here here' in_a in_b same, pass_b a b at e here here' in_a in_b same, ← same) (passes (pass_bytes (window a at e) at) refl)

  from_apart : (turns at here here' : ℕ) → Inside a at e here → Inside b at e here' → window a at e ≡ window b at e → Apart base base' here here'
      → ReadingApart base base' (read_from turns a at e here) (read_from turns b at e here')
  unfolding read_from
  from_apart zero at here here' in_a in_b same far = stop_apart at here here' no_refusal no_refusal far (none_apart base base')
  from_apart (suc turns) at here here' in_a in_b same far =
      step_apart turns at here here' in_a in_b same far
      (λ k fits.
      from_apart turns (at + k) (here + k) (here' + k)
      (record { ordered = fits; within = in_a.within; fits = omega (arith, fits, in_a.fits) })
      (record { ordered = fits; within = in_b.within; fits = omega (arith, fits, in_b.fits) })
      (same_behind a b at k e same) (omega (arith, far)))
      (leb e at)

packets_long : {base base' : ℕ} {ps qs : List Packet} → PacketsApart base base' ps qs → length ps ≡ length qs
packets_long none = refl
packets_long (next p ps) = ap suc (packets_long ps)

module _ (a b : List ℕ) (s e base base' : ℕ) (within_a : Within a s e base) (within_b : Within b s e base') (same : window a s e ≡ window b s e) where
  in_a : Inside a s e base
  in_a = within_inside a s e base within_a

  in_b : Inside b s e base'
  in_b = within_inside b s e base' within_b

  reading_apart : ReadingApart base base' (reading a s e base) (reading b s e base')
  reading_apart =
      rw (reading_inside a s e base (inside_made a s e base in_a), reading_inside b s e base' (inside_made b s e base' in_b))
      (from_apart a b e base base' (e - s) s base base' in_a in_b same (omega arith))

  handed_apart : (ps qs : List Packet) → HandsOut a s e base (read_recording a s e base) ps → HandsOut b s e base' (read_recording b s e base') qs
      → PacketsApart base base' ps qs
  handed_apart ps qs h g =
      rw ((hands_out_once a s e base _ ps h).1, (hands_out_once b s e base' _ qs g).1) reading_apart.packets

  other_bases : AnswersApart a b s e base base'
  unfolding read_recording
  other_bases =
      record {
        read = read_apart a b s e base base' in_a in_b same;
        list = λ m n. rw (list_a a b s e base base' in_a in_b same m n, list_b a b s e base base' in_a in_b same m n)
            (listed_apart a b s e base base' in_a in_b same m n);
        starts_told = λ m n old old'. rw (list_a a b s e base base' in_a in_b same m n, list_b a b s e base base' in_a in_b same m n, ← same)
            (entries_apart a b s e base base' in_a in_b same (starts (window a s e)) m n old old');
        lengths_told = λ m n old old'. rw (list_a a b s e base base' in_a in_b same m n, list_b a b s e base base' in_a in_b same m n, ← same)
            (entries_apart a b s e base base' in_a in_b same (lengths (window a s e)) m n old old');
        message = message_apart a b s e base base' in_a in_b same;
        recording = reading_apart.refusal;
        accepted = packets_long reading_apart.packets;
        reached = reading_apart.reached;
        recording_reached = reading_apart.recording_reached;
        handed = handed_apart;
      }

pub places : Places
places =
    record {
      packet_recorded = packet_recorded;
      handed_recorded = λ buf start end base r ps h i l. packet_recorded buf _ end _ _ (h.each i l);
      read_recorded = read_recorded;
      list_recorded = list_recorded;
      message_recorded = message_recorded;
      recording_recorded = recording_recorded;
      reached_recorded =
          λ buf start end base. let h = hands_out buf start end base in (length_of (reading buf start end base).packets, h.covers, h.recorded);
      write_unrecorded = write_unrecorded;
      read_outside = told_outside;
      list_outside = λ buf start end base m n other. list_outside buf start end base other m n;
      message_outside = λ buf start end base k other. message_outside buf start end base other k;
      read_within = read_within;
      list_within = list_within;
      message_within = message_within;
      recording_within = recording_within;
      other_bases = other_bases;
    }
