-- The laws of reading a recording from a place on, and of the loop that counts its packets.
use Rattle.std.specs.Prelude.{Result, Ok, Err}
use mathlib.Core.Path.{◌≡◌, refl, sym, ap, ◌∙◌}
use mathlib.Core.List.{List, ◌++◌}
use mathlib.Core.Bool.{Bool, true, false}
use Prim.Native.Nat.{ℕ, zero, suc, ◌+◌, ◌-◌, ◌^◌, ◌≤◌, ◌<◌}
use native.Mathlib.Omega.{arith}
use native.Mathlib.Nat.{zero-add, add-zero}
use lib.ListN.{length}
use lib.Dec.{leb}
use borrow.Author.Tests.{le-leb, lt-leb}
use Rattle.units.specs.Choice.{pick}
use Rattle.terms.specs.Refusals.{refused, no_refusal, recorded}
use Rattle.terms.specs.declared.Refusal.{Refusal}
use Rattle.packet.specs.Read.{inside, window, packet_in, pass_bytes, pass_window, read_packet}
use Rattle.packet.specs.declared.Packet.{Packet}
use Rattle.packet.proofs.Passes.{Inside, inside_says, inside_made, window_ends, bytes_passed, pass_in, pass_inside, read_passed, read_barred}
use Rattle.packet.proofs.Own.{packet_in_length, accepted_fits}
use Rattle.recording.specs.Reading.{Reading, stopped, ahead, onward, read_from, reading, read_recording}
use Rattle.recording.specs.declared.Recording.{Recording}

-- ---- reading from a place on

onward_same : (x : Result Packet Refusal) (at base : ℕ) (f g : Packet → Reading) → ((p : Packet) → x ≡ Ok p → f p ≡ g p) → onward x at base f ≡ onward x at base g
onward_same (Ok p) at base f g h = ap (λ (r : Reading). ahead p r) (h p refl)
onward_same (Err r) at base f g h = refl

-- as many turns as there are bytes ahead are enough: more give the same
pub turns_enough : (m n : ℕ) (buf : List ℕ) (at end base : ℕ) → end - at ≤ m → end - at ≤ n → read_from m buf at end base ≡ read_from n buf at end base
unfolding read_from
turns_enough zero zero buf at end base hm hn = refl
turns_enough zero (suc n) buf at end base hm hn = rw (le-leb end at (omega arith))
turns_enough (suc m) zero buf at end base hm hn = rw (le-leb end at (omega arith))
turns_enough (suc m) (suc n) buf at end base hm hn = go (λ next. turns_enough m n buf next end) (leb end at) refl
  where
    go : ((next base : ℕ) → end - next ≤ m → end - next ≤ n → read_from m buf next end base ≡ read_from n buf next end base)
        → (t : Bool) → leb end at ≡ t
        → pick t (stopped at base no_refusal) (onward (read_packet buf at end base) at base (λ p. read_from m buf (at + p.length) end (base + p.length)))
        ≡ pick t (stopped at base no_refusal) (onward (read_packet buf at end base) at base (λ p. read_from n buf (at + p.length) end (base + p.length)))
    go same true t = refl
    go same false t = onward_same (read_packet buf at end base) at base _ _ λ p q.
        let k = accepted_fits buf at end base p q in
        same (at + p.length) (base + p.length) (omega arith) (omega arith)

-- what is read from `at` on, in turns enough
abbrev pub from : List ℕ → ℕ → ℕ → ℕ → Reading
from buf at end base = read_from (end - at) buf at end base

-- packets ahead of a reading
abbrev pub joined : List Packet → Reading → Reading
joined ps r = record { packets = ps ++ r.packets; reached = r.reached; recording_reached = r.recording_reached; refusal = r.refusal }

module _ (buf : List ℕ) (at end base : ℕ) where
  from_step : from buf at end base ≡ read_from (suc (end - at)) buf at end base
  from_step = turns_enough (end - at) (suc (end - at)) buf at end base (omega arith) (omega arith)

  pub from_end : end ≤ at → from buf at end base ≡ stopped at base no_refusal
  unfolding read_from
  from_end h = from_step ∙ rw (le-leb end at h)

  pub from_on : (p : Packet) → at < end → read_packet buf at end base ≡ Ok p → from buf at end base ≡ ahead p (from buf (at + p.length) end (base + p.length))
  unfolding read_from
  from_on p h q =
      let k = accepted_fits buf at end base p q in
      from_step ∙ rw (lt-leb end at h, q)
      (ap (λ (r : Reading). ahead p r) (turns_enough (end - at) (end - (at + p.length)) buf (at + p.length) end (base + p.length) (omega arith) (omega arith)))

  pub from_stops : (r : Refusal) → at < end → read_packet buf at end base ≡ Err r → from buf at end base ≡ stopped at base r
  unfolding read_from
  from_stops r h q = from_step ∙ rw (lt-leb end at h, q)

-- ---- from the start

module _ (buf : List ℕ) (start end base : ℕ) where
  pub reading_inside : inside buf start end base ≡ true → reading buf start end base ≡ from buf start end base
  unfolding reading
  reading_inside i = rw i

  pub reading_outside : inside buf start end base ≡ false → reading buf start end base ≡ stopped start base (recorded base start (refused 1 start))
  unfolding reading
  reading_outside i = rw i

-- ---- the loop

-- the answer where n packets are counted and r is read from there on
abbrev pub tallied : ℕ → Reading → Recording
tallied n r = record { accepted = n + length r.packets; reached = r.reached; recording_reached = r.recording_reached; refusal = r.refusal }

-- what holds at its head: no more packets than bytes, and n of them counted
pub record Tally (buf : List ℕ) (start end base n at : ℕ) : Type 0 where
  pub inside : Inside buf start end base
  pub within : at ≤ end
  pub fewer : start + n ≤ at
  pub answer : read_recording buf start end base ≡ tallied n (from buf at end (base + (at - start)))

module _ (buf : List ℕ) (start end base : ℕ) where
  recording_tallied : (r : Reading) → reading buf start end base ≡ r → read_recording buf start end base ≡ tallied 0 r
  unfolding read_recording
  recording_tallied r q =
      rw q
      (λ i. record { accepted = sym (zero-add (length r.packets)) i; reached = r.reached; recording_reached = r.recording_reached; refusal = r.refusal })

  -- r is the code's refusal
  pub recording_outside : (r : Refusal) → inside buf start end base ≡ false → r ≡ recorded base start (refused 1 start)
      → record { accepted = 0; reached = start; recording_reached = base; refusal = r } ≡ read_recording buf start end base
  recording_outside r i q = rw q (sym (recording_tallied _ (reading_outside buf start end base i)))

  pub tally_first : inside buf start end base ≡ true → Tally buf start end base 0 start
  tally_first i =
      let here : base ≡ base + (start - start) = omega arith in
      record {
        inside = inside_says buf start end base i;
        within = (inside_says buf start end base i).ordered;
        fewer = omega arith;
        answer = rw (← here) (recording_tallied _ (reading_inside buf start end base i));
      }

  module _ (n at : ℕ) (c : Tally buf start end base n at) where
    abbrev here : ℕ
    here = base + (at - start)

    -- a window that begins there is in the buffer too, and its base is moved on as far
    inside_here : inside buf at end here ≡ true
    inside_here =
        inside_made buf at end here
        (record { ordered = c.within; within = c.inside.within; fits = omega (arith, c.fewer, c.within, c.inside.fits) })

    pub tally_ends : at + length (window buf at end) ≡ end
    tally_ends = window_ends buf at end here (inside_says buf at end here inside_here)

    read_here : pass_window buf at end here ≡ pass_bytes (window buf at end) at
    read_here = pass_inside buf at end here inside_here

    tally_on : (p : Packet) → at < end → read_packet buf at end here ≡ Ok p → Tally buf start end base (n + 1) (at + p.length)
    tally_on p h q =
        let k = accepted_fits buf at end here p q in
        let next : base + (at - start) + p.length ≡ base + (at + p.length - start) = omega (arith, c.fewer) in
        let r = from buf (at + p.length) end (base + (at + p.length - start)) in
        let one_more : n + suc (length r.packets) ≡ n + 1 + length r.packets = omega arith in
        record {
          inside = c.inside;
          within = k.within;
          fewer = omega (arith, c.fewer, k.some);
          answer =
              c.answer ∙ rw (from_on buf at end here p h q, next)
              (λ i. record { accepted = one_more i; reached = r.reached; recording_reached = r.recording_reached; refusal = r.refusal });
        }

    -- a packet that passes, by its length
    pub tally_passed : (p : ℕ) → at < end → Ok p ≡ pass_bytes (window buf at end) at
        → Tally buf start end base (n + 1) (at + p) × (at < at + p) × (at + p ≤ end)
    tally_passed p h e =
        let q = packet_in (window buf at end) at here in
        let a = sym (read_passed buf at end here p q (read_here ∙ sym e) refl) in
        let k = accepted_fits buf at end here q a in
        let l : p ≡ q.length = (bytes_passed (window buf at end) at p (sym e)).long ∙ packet_in_length (window buf at end) at here in
        rw l (tally_on q h a, omega (arith, k.some), k.within)

    -- one that is barred: b is what the tests said, r the code's refusal
    pub tally_stops : (b r : Refusal) → at < end → Err b ≡ pass_bytes (window buf at end) at → r ≡ recorded base start b
        → record { accepted = n; reached = at; recording_reached = here; refusal = r } ≡ read_recording buf start end base
    tally_stops b r h e q =
        let place = pass_in (window buf at end) at b (sym e) in
        let far : base + (b.place - start) ≡ here + (b.place - at) = omega (arith, place.0, c.fewer) in
        let stays = sym (read_barred buf at end here b _ (read_here ∙ sym e) refl) in
        sym (c.answer ∙ rw (from_stops buf at end here _ h stays, add-zero n, q, far))

    pub tally_end : (r : Refusal) → end ≤ at → r ≡ no_refusal
        → record { accepted = n; reached = at; recording_reached = here; refusal = r } ≡ read_recording buf start end base
    tally_end r h q = sym (c.answer ∙ rw (from_end buf at end here h, add-zero n, q))

    -- a place of the window is below 2^64 in the recording
    pub tally_reach : (place : ℕ) → place ≤ end → base + (place - start) < 2 ^ 64
    tally_reach place h = omega (arith, h, c.inside.fits)

    pub tally_barred : (b : Refusal) → Err b ≡ pass_bytes (window buf at end) at → (start ≤ b.place) × (base + (b.place - start) < 2 ^ 64)
    tally_barred b e =
        let place = pass_in (window buf at end) at b (sym e) in
        (omega (arith, place.0, c.fewer), tally_reach b.place (omega (arith, place.1, tally_ends)))
