-- Demand 1: a recording hands out what the one-packet reader accepts, place by place, and nothing outside its window has a say.
use Rattle.std.specs.Prelude.{Result, Ok, Err}
use mathlib.Core.Path.{◌≡◌, refl, sym, ap, ◌∙◌}
use mathlib.Core.List.{List, [], ◌∷◌, ◌++◌}
use mathlib.Core.Bool.{Bool, true, false, true≢false}
use mathlib.Core.Logic.{◌⊎◌, inl, inr, ⊎_elim, ◌≢◌}
use Prim.Native.Nat.{ℕ, zero, suc, ◌+◌, ◌-◌, ◌≤◌, ◌<◌}
use native.Mathlib.Omega.{arith}
use native.Mathlib.Nat.{add-zero, add_assoc}
use lib.ListN.{length, take, drop, get_or}
use lib.Seq.{drop-drop}
use lib.Dec.{leb}
use borrow.Author.Tests.{leb-true, leb-false}
use Rattle.units.specs.Units.{part}
use Rattle.units.specs.Choice.{pick}
use Rattle.units.proofs.Parts.{drop_take, part_add}
use Rattle.terms.specs.Refusals.{refused, no_refusal, recorded}
use Rattle.terms.specs.declared.Refusal.{Refusal}
use Rattle.packet.specs.Read.{inside, window, read_packet, no_packet, PacketTold, packet_told}
use Rattle.packet.specs.declared.Packet.{Packet}
use Rattle.packet.proofs.Own.{accepted_fits}
use Rattle.packet.proofs.Passes.{Inside, inside_says, inside_made, inside_same, pass_outside, read_barred}
use Rattle.packet.proofs.Told.{read_told_lem, refusal_numbered}
use Rattle.packet.proofs.Window.{read_window}
use Rattle.recording.specs.Reading.{Reading, stopped, ahead, onward, read_from, reading, read_recording}
use Rattle.promises.specs.Handed.{length_of, Within, HandsOut}
use Rattle.recording.specs.declared.Recording.{Recording}
use Rattle.recording.proofs.Readings.{from, from_end, from_on, from_stops, reading_inside, reading_outside}

-- what is told of a packet that is accepted
abbrev accepted : Packet → PacketTold
accepted p = record { refusal = no_refusal; packet = p }

-- ---- from a place of the window on

-- HandsOut of what is read from there
record HandedFrom (buf : List ℕ) (at end base : ℕ) (r : Reading) : Type 0 where
  each : (i : ℕ) → i < length r.packets
      → packet_told (read_packet buf (at + length_of (take i r.packets)) end (base + length_of (take i r.packets))) ≡ accepted (get_or r.packets i no_packet)
  covers : r.reached ≡ at + length_of r.packets
  recorded : r.recording_reached ≡ base + length_of r.packets
  ends :
      ((r.reached ≡ end) × (r.refusal ≡ no_refusal))
      ⊎ (((packet_told (read_packet buf r.reached end r.recording_reached)).refusal ≡ r.refusal) × (r.refusal.number ≢ 0) × (r.reached < end))

module _ (buf : List ℕ) (end : ℕ) where
  handed_end : (at base : ℕ) → at ≡ end → HandedFrom buf at end base (stopped at base no_refusal)
  unfolding length_of
  handed_end at base h =
      record { each = λ i l. absurd (omega arith); covers = sym (add-zero at); recorded = sym (add-zero base); ends = inl (h, refl) }

  handed_stops : (at base : ℕ) (r : Refusal) → at < end → read_packet buf at end base ≡ Err r → HandedFrom buf at end base (stopped at base r)
  unfolding length_of
  handed_stops at base r h q =
      record {
        each = λ i l. absurd (omega arith);
        covers = sym (add-zero at);
        recorded = sym (add-zero base);
        ends = inr (ap (λ (x : Result Packet Refusal). (packet_told x).refusal) q, refusal_numbered buf at end base r q, h);
      }

  handed_on : (at base : ℕ) (p : Packet) (r : Reading) → read_packet buf at end base ≡ Ok p → HandedFrom buf (at + p.length) end (base + p.length) r
      → HandedFrom buf at end base (ahead p r)
  unfolding length_of
  handed_on at base p r q h =
      record {
        each = go;
        covers = h.covers ∙ add_assoc at p.length (length_of r.packets);
        recorded = h.recorded ∙ add_assoc base p.length (length_of r.packets);
        ends = h.ends;
      }
    where
      go : (i : ℕ) → i < suc (length r.packets)
          → packet_told (read_packet buf (at + length_of (take i (p ∷ r.packets))) end (base + length_of (take i (p ∷ r.packets))))
          ≡ accepted (get_or (p ∷ r.packets) i no_packet)
      go zero l = rw (add-zero at, add-zero base, q)
      go (suc i) l =
          rw (← add_assoc at p.length (length_of (take i r.packets)), ← add_assoc base p.length (length_of (take i r.packets)))
          (h.each i (omega arith))

  handed_to : (turns at base : ℕ) → end - at ≤ turns → at ≤ end → HandedFrom buf at end base (from buf at end base)
  handed_to zero at base t h = rw (from_end buf at end base (omega arith)) (handed_end at base (omega arith))
  handed_to (suc turns) at base t h = go (handed_to turns) (leb end at) (read_packet buf at end base) refl refl
    where
      go : ((next base : ℕ) → end - next ≤ turns → next ≤ end → HandedFrom buf next end base (from buf next end base))
          → (b : Bool) (x : Result Packet Refusal) → leb end at ≡ b → read_packet buf at end base ≡ x → HandedFrom buf at end base (from buf at end base)
      go f true x l q = let over = leb-true end at l in rw (from_end buf at end base over) (handed_end at base (omega arith))
      go f false (Ok p) l q =
          let k = accepted_fits buf at end base p q in
          rw (from_on buf at end base p (leb-false end at l) q) (handed_on at base p _ q (f (at + p.length) (base + p.length) (omega arith) k.within))
      go f false (Err r) l q = rw (from_stops buf at end base r (leb-false end at l) q) (handed_stops at base r (leb-false end at l) q)

-- whatever is handed out so is what is read
module _ (buf : List ℕ) (end : ℕ) where
  pub accepted_here : (at base : ℕ) (p : Packet) → packet_told (read_packet buf at end base) ≡ accepted p → read_packet buf at end base ≡ Ok p
  accepted_here at base p h =
      read_told_lem buf at end base (ap (λ (t : PacketTold). t.refusal.number) h) ∙ ap (λ (t : PacketTold). Ok t.packet) h

  pub refused_here : (at base : ℕ) (r : Refusal) → (packet_told (read_packet buf at end base)).refusal ≡ r → r.number ≢ 0 → read_packet buf at end base ≡ Err r
  refused_here at base r h n = go (read_packet buf at end base) h
    where
      go : (x : Result Packet Refusal) → (packet_told x).refusal ≡ r → x ≡ Err r
      go (Ok p) q = absurd (n (sym (ap (λ (f : Refusal). f.number) q)))
      go (Err f) q = ap Err q

  handed_once : (ps : List Packet) (at base reached recorded : ℕ) (r : Refusal)
      → HandedFrom buf at end base (record { packets = ps; reached = reached; recording_reached = recorded; refusal = r })
      → record { packets = ps; reached = reached; recording_reached = recorded; refusal = r } ≡ from buf at end base
  unfolding length_of
  handed_once [] at base reached recorded r h =
      let here : reached ≡ at = h.covers ∙ add-zero at in
      let there : recorded ≡ base = h.recorded ∙ add-zero base in
      ⊎_elim
      (λ f. rw (from_end buf at end base (omega arith)) (λ i. record { packets = []; reached = here i; recording_reached = there i; refusal = f.1 i }))
      (λ f.
      rw (from_stops buf at end base r (omega arith) (refused_here at base r (rw (here, there) at f.0) f.1))
      (λ i. record { packets = []; reached = here i; recording_reached = there i; refusal = r }))
      h.ends
  handed_once (p ∷ ps) at base reached recorded r h =
      let q = accepted_here at base p (rw (add-zero at, add-zero base) at (h.each 0 (omega arith))) in
      let k = accepted_fits buf at end base p q in
      rw (from_on buf at end base p (omega arith) q)
      (ap (λ (x : Reading). ahead p x)
      (handed_once ps (at + p.length) (base + p.length) reached recorded r
      (record {
        each =
            λ i l.
            rw (add_assoc at p.length (length_of (take i ps)), add_assoc base p.length (length_of (take i ps))) (h.each (suc i) (omega arith));
        covers = h.covers ∙ sym (add_assoc at p.length (length_of ps));
        recorded = h.recorded ∙ sym (add_assoc base p.length (length_of ps));
        ends = h.ends;
      })))

-- ---- from the start

abbrev pub answer : Reading → Recording
answer r = record { accepted = length r.packets; reached = r.reached; recording_reached = r.recording_reached; refusal = r.refusal }

abbrev reading_of : List Packet → Recording → Reading
reading_of ps r = record { packets = ps; reached = r.reached; recording_reached = r.recording_reached; refusal = r.refusal }

-- the window's test is the words for it
pub inside_within : (buf : List ℕ) (s e base : ℕ) → inside buf s e base ≡ true → Within buf s e base
inside_within buf s e base t = let i = inside_says buf s e base t in (i.ordered, i.within, omega (arith, i.fits))

pub within_inside : (buf : List ℕ) (s e base : ℕ) → Within buf s e base → Inside buf s e base
within_inside buf s e base w = record { ordered = w.0; within = w.1; fits = omega (arith, w.2) }

module _ (buf : List ℕ) (s e base : ℕ) where
  pub read_outside : inside buf s e base ≡ false → read_packet buf s e base ≡ Err (recorded base s (refused 1 s))
  read_outside o = sym (read_barred buf s e base (refused 1 s) _ (pass_outside buf s e base o) refl)

  hands_inside : inside buf s e base ≡ true → (r : Reading) → HandedFrom buf s e base r → HandsOut buf s e base (answer r) r.packets
  hands_inside i r h =
      record {
        number = refl;
        each = h.each;
        covers = h.covers;
        recorded = h.recorded;
        ends = ⊎_elim (λ f. inl (inside_within buf s e base i, f.0, f.1)) (λ f. inr (f.0, f.1, λ t. f.2)) h.ends;
      }

  pub not_within : inside buf s e base ≡ false → ¬ Within buf s e base
  not_within o w = true≢false (sym (inside_made buf s e base (within_inside buf s e base w)) ∙ o)

  pub not_inside : ¬ Within buf s e base → inside buf s e base ≡ false
  not_inside other = go (inside buf s e base) refl
    where
      go : (t : Bool) → inside buf s e base ≡ t → t ≡ false
      go true i = absurd (other (inside_within buf s e base i))
      go false i = refl

  hands_outside : inside buf s e base ≡ false → HandsOut buf s e base (answer (stopped s base (recorded base s (refused 1 s)))) []
  unfolding length_of
  hands_outside o =
      record {
        number = refl;
        each = λ i l. absurd (omega arith);
        covers = sym (add-zero s);
        recorded = sym (add-zero base);
        ends =
            inr (
              ap (λ (x : Result Packet Refusal). (packet_told x).refusal) (read_outside o),
              (λ (z : ◌≡◌ {A = ℕ} 1 0). omega arith),
              λ t. absurd (not_within o t),
            );
      }

  pub hands_out : HandsOut buf s e base (read_recording buf s e base) (reading buf s e base).packets
  unfolding read_recording
  hands_out = go (inside buf s e base) refl
    where
      go : (t : Bool) → inside buf s e base ≡ t → HandsOut buf s e base (answer (reading buf s e base)) (reading buf s e base).packets
      go true i =
          rw (reading_inside buf s e base i)
          (hands_inside i (from buf s e base) (handed_to buf e (e - s) s base (omega arith) (inside_says buf s e base i).ordered))
      go false o = rw (reading_outside buf s e base o) (hands_outside o)

  once_outside : inside buf s e base ≡ false → (ps : List Packet) (r : Recording) → HandsOut buf s e base r ps
      → reading_of ps r ≡ stopped s base (recorded base s (refused 1 s))
  unfolding length_of
  once_outside o [] r h =
      let here : r.reached ≡ s = h.covers ∙ add-zero s in
      let there : r.recording_reached ≡ base = h.recorded ∙ add-zero base in
      ⊎_elim
      (λ f. absurd (not_within o f.0))
      (λ f.
      let said : r.refusal ≡ recorded base s (refused 1 s) = sym f.0 ∙ rw (here, there, read_outside o) in
      λ i. record { packets = []; reached = here i; recording_reached = there i; refusal = said i })
      h.ends
  once_outside o (p ∷ ps) r h =
      let q = accepted_here buf e s base p (rw (add-zero s, add-zero base) at (h.each 0 (omega arith))) in
      let contrary : ◌≡◌ {A = ℕ} 0 1 = cc (sym q ∙ read_outside o) in
      absurd (omega arith)

  once_inside : inside buf s e base ≡ true → (ps : List Packet) (r : Recording) → HandsOut buf s e base r ps → reading_of ps r ≡ from buf s e base
  once_inside i ps r h =
      handed_once buf e ps s base r.reached r.recording_reached r.refusal
      (record {
        each = h.each;
        covers = h.covers;
        recorded = h.recorded;
        ends = ⊎_elim (λ f. inl (f.1, f.2)) (λ f. inr (f.0, f.1, f.2 (inside_within buf s e base i))) h.ends;
      })

  once_read : (ps : List Packet) (r : Recording) → HandsOut buf s e base r ps → reading_of ps r ≡ reading buf s e base
  once_read ps r h = go (inside buf s e base) refl
    where
      go : (t : Bool) → inside buf s e base ≡ t → reading_of ps r ≡ reading buf s e base
      go true i = rw (reading_inside buf s e base i) (once_inside i ps r h)
      go false o = rw (reading_outside buf s e base o) (once_outside o ps r h)

  -- no other answer hands out packets, and no others are handed out
  pub hands_out_once : (r : Recording) (ps : List Packet) → HandsOut buf s e base r ps → (r ≡ read_recording buf s e base) × (ps ≡ (reading buf s e base).packets)
  unfolding read_recording
  hands_out_once r ps h =
      let q = once_read ps r h in (
        (λ i. record { accepted = h.number i; reached = r.reached; recording_reached = r.recording_reached; refusal = r.refusal }) ∙ ap answer q,
        ap (λ (x : Reading). x.packets) q,
      )

-- ---- the window

-- what stands behind the first n bytes of a window
pub window_behind : (a : List ℕ) (at n e : ℕ) → drop n (window a at e) ≡ window a (at + n) e
window_behind a at n e =
    let l : e - at - n ≡ e - (at + n) = omega arith in
    rw (drop_take n (e - at) (drop at a), drop-drop n at a, l)

pub same_behind : (a b : List ℕ) (at n e : ℕ) → window a at e ≡ window b at e → window a (at + n) e ≡ window b (at + n) e
same_behind a b at n e same = sym (window_behind a at n e) ∙ ap (λ (w : List ℕ). drop n w) same ∙ window_behind b at n e

-- a window that is filled further
pub window_longer : (a : List ℕ) (at e e' : ℕ) → at ≤ e → e ≤ e' → window a at e' ≡ window a at e ++ part a e (e' - e)
window_longer a at e e' ordered longer =
    let both : e' - at ≡ e - at + (e' - e) = omega arith in
    let there : at + (e - at) ≡ e = omega arith in
    ap (part a at) both ∙ part_add a at (e - at) (e' - e) ∙ ap (λ (x : ℕ). window a at e ++ part a x (e' - e)) there

-- two buffers that reach to the end, with the same bytes from a place to it
module _ (a b : List ℕ) (e : ℕ) (in_a : e ≤ length a) (in_b : e ≤ length b) where
  from_window : (turns at base : ℕ) → window a at e ≡ window b at e → read_from turns a at e base ≡ read_from turns b at e base
  unfolding read_from
  from_window zero at base same = refl
  from_window (suc turns) at base same = λ i.
      pick (leb e at) (stopped at base no_refusal)
      (onward (read_window a b at e base in_a in_b same i) at base
      (λ p. from_window turns (at + p.length) (base + p.length) (same_behind a b at p.length e same) i))

module _ (a b : List ℕ) (s e base : ℕ) (in_a : e ≤ length a) (in_b : e ≤ length b) (same : window a s e ≡ window b s e) where
  pub reading_window : reading a s e base ≡ reading b s e base
  unfolding reading
  reading_window = rw (inside_same a b s e base in_a in_b, from_window a b e in_a in_b (e - s) s base same)

  pub recording_window : read_recording a s e base ≡ read_recording b s e base
  unfolding read_recording
  recording_window = ap answer reading_window
