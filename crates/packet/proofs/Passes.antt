-- The window's test, the reader's tests, and what the calls say by them.
use Rattle.std.specs.Prelude.{Result, Ok, Err}
use mathlib.Core.Path.{◌≡◌, refl, sym}
use mathlib.Core.List.{List}
use mathlib.Core.Bool.{Bool, true, false, not, ◌&&◌}
use Prim.Native.Nat.{ℕ, ◌+◌, ◌-◌, ◌^◌, ◌≤◌, ◌<◌, min}
use native.Mathlib.Omega.{arith}
use lib.ListN.{length}
use lib.Dec.{leb, ltb, eqb}
use borrow.Author.Tests.{le-leb, leb-true, lt-ltb, ltb-true, ne_eqb, eqb-true, not-false}
use Rattle.units.specs.Choice.{pick}
use Rattle.units.proofs.Choices.{and_true, passed, same_test}
use Rattle.units.proofs.Parts.{length_part}
use Rattle.terms.specs.Refusals.{refused, needing, recorded}
use Rattle.terms.specs.declared.Refusal.{Refusal}
use Rattle.body.specs.declared.Message.{Message}
use Rattle.body.proofs.Bounds.{faulty_place}
use Rattle.frame.specs.Header.{packet_length, data_length, flags_in, kind_in, body_at, body_in, fields_in}
use Rattle.frame.specs.Rules.{message_rule}
use Rattle.frame.specs.Table.{first, frame_lines}
use Rattle.frame.specs.inner.Lengths.{Sound}
use Rattle.frame.proofs.Frames.{frame_sound}
use Rattle.packet.specs.Read.{inside, window, packet_in, body_checked, pass_body, pass_bytes, pass_window, read_answer, read_packet}
use Rattle.packet.specs.Messages.{message_count, kth_message, list_answer, list_packet, list_after, message_answer, message_packet}
use Rattle.packet.specs.declared.Packet.{Packet}

-- ---- the window's test, taken apart

pub record Inside (buf : List ℕ) (s e base : ℕ) : Type 0 where
  pub ordered : s ≤ e
  pub within : e ≤ length buf
  pub fits : base + (e - s) < 2 ^ 64

pub inside_says : (buf : List ℕ) (s e base : ℕ) → inside buf s e base ≡ true → Inside buf s e base
unfolding inside
inside_says buf s e base h =
    let i = and_true (leb s e && leb e (length buf)) (ltb (base + (e - s)) (2 ^ 64)) h in
    let j = and_true (leb s e) (leb e (length buf)) i.0 in
    record { ordered = leb-true s e j.0; within = leb-true e (length buf) j.1; fits = ltb-true (base + (e - s)) (2 ^ 64) i.1 }

pub inside_made : (buf : List ℕ) (s e base : ℕ) → Inside buf s e base → inside buf s e base ≡ true
unfolding inside
inside_made buf s e base i = rw (le-leb s e i.ordered, le-leb e (length buf) i.within, lt-ltb (base + (e - s)) (2 ^ 64) i.fits)

pub inside_same : (a b : List ℕ) (s e base : ℕ) → e ≤ length a → e ≤ length b → inside a s e base ≡ inside b s e base
unfolding inside
inside_same a b s e base h g = rw (le-leb e (length a) h, le-leb e (length b) g)

-- the code's test: the last place that the base leaves
pub inside_code : (buf : List ℕ) (s e base : ℕ) → base < 2 ^ 64 → (leb s e && leb e (length buf)) ≡ true → leb (e - s) (0xFFFFFFFFFFFFFFFF - base) ≡ inside buf s e base
unfolding inside
inside_code buf s e base small h =
    rw h
    (same_test (leb (e - s) (0xFFFFFFFFFFFFFFFF - base)) (ltb (base + (e - s)) (2 ^ 64))
    (λ t. lt-ltb (base + (e - s)) (2 ^ 64) (omega (arith, small, leb-true (e - s) (0xFFFFFFFFFFFFFFFF - base) t)))
    (λ t. le-leb (e - s) (0xFFFFFFFFFFFFFFFF - base) (omega (arith, small, ltb-true (base + (e - s)) (2 ^ 64) t))))

pub inside_not : (buf : List ℕ) (s e base : ℕ) → (leb s e && leb e (length buf)) ≡ false → (leb s e && leb e (length buf)) ≡ inside buf s e base
unfolding inside
inside_not buf s e base h = rw h

-- a window that begins further on is in its buffer too, and its base is moved on as far
pub inside_on : (buf : List ℕ) (s e base n : ℕ) → Inside buf s e base → s + n ≤ e → Inside buf (s + n) e (base + n)
inside_on buf s e base n i h = record { ordered = h; within = i.within; fits = omega (arith, i.fits, h) }

pub window_ends : (buf : List ℕ) (s e base : ℕ) → Inside buf s e base → s + length (window buf s e) ≡ e
window_ends buf s e base i = omega (arith, length_part buf s (e - s) (omega (arith, i.ordered, i.within)), i.ordered)

-- ---- the reader's tests on a window's bytes, from what the frame's table says

module _ (w : List ℕ) (at : ℕ) where
  pub pass_refused : (r : Refusal) → (first (frame_lines w) ≡ 0 → ⊥) → r ≡ refused (first (frame_lines w)) at → Err r ≡ pass_bytes w at
  unfolding pass_bytes
  pass_refused r other q = rw (q, ne_eqb (first (frame_lines w)) 0 other)

  pub pass_on : first (frame_lines w) ≡ 0 → pass_body (body_checked w) w at ≡ pass_bytes w at
  unfolding pass_bytes
  pass_on z = rw z

  pub list_refused : (room : ℕ) (r : Refusal) → (first (frame_lines w) ≡ 0 → ⊥) → r ≡ refused (first (frame_lines w)) at
      → Err r ≡ list_answer (pass_bytes w at) at (message_count w) room
  unfolding list_answer
  list_refused room r other q = rw (← pass_refused r other q)

  pub message_refused : (k : ℕ) (r : Refusal) → (first (frame_lines w) ≡ 0 → ⊥) → r ≡ refused (first (frame_lines w)) at
      → Err r ≡ message_answer (pass_bytes w at) at (message_count w) k (kth_message w k)
  unfolding message_answer
  message_refused k r other q = rw (← pass_refused r other q)

-- ---- what it is to pass

pub barred_passed : (r : Refusal) (n : ℕ) → Err r ≡ Ok n → ⊥
barred_passed r n e = let z : ◌≡◌ {A = ℕ} 0 1 = cc in omega arith

-- the bytes of a packet that keeps the rules
pub record PassedBytes (w : List ℕ) (n : ℕ) : Type 0 where
  pub framed : first (frame_lines w) ≡ 0
  pub sound : Sound w
  pub count : ℕ
  pub body : body_checked w ≡ Ok count
  pub long : n ≡ packet_length w

from_body : (c : Result ℕ Refusal) (w : List ℕ) (at n : ℕ) → pass_body c w at ≡ Ok n → (k : ℕ) × (c ≡ Ok k) × (n ≡ packet_length w)
unfolding pass_body
from_body (Ok k) w at n e = (k, refl, cc)
from_body (Err f) w at n e = absurd (barred_passed _ n e)

pub bytes_passed : (w : List ℕ) (at n : ℕ) → pass_bytes w at ≡ Ok n → PassedBytes w n
unfolding pass_bytes
bytes_passed w at n h =
    let f = first (frame_lines w) in
    let k = passed (not (eqb f 0)) (Err (refused f at)) (pass_body (body_checked w) w at) (Ok n) (barred_passed _ n) h in
    let b = from_body (body_checked w) w at n k.1 in
    let z = eqb-true f 0 (not-false (eqb f 0) k.0) in
    record { framed = z; sound = frame_sound w z; count = b.0; body = b.1; long = b.2 }

pub passed_bytes : (w : List ℕ) (at n : ℕ) → PassedBytes w n → pass_bytes w at ≡ Ok n
unfolding pass_bytes pass_body
passed_bytes w at n p = rw (p.framed, p.body, p.long)

-- ---- where a refusal stands: in the window

abbrev pub In : ℕ → ℕ → ℕ → Type 0
In at n place = (at ≤ place) × (place ≤ at + n)

-- a fault is in its packet's body
fault_in : (w : List ℕ) (at : ℕ) (f : Refusal) → Sound w → body_checked w ≡ Err f → body_at (flags_in w) + f.place ≤ length w
unfolding body_checked fields_in
fault_in w at f s e =
    let p = faulty_place (kind_in w) (message_rule (flags_in w)) (body_in w) f e in
    let long = length_part w (body_at (flags_in w)) (data_length w) (omega (arith, s.parts, s.there)) in
    omega (arith, p, long, s.parts, s.there)

body_in_lem : (c : Result ℕ Refusal) (w : List ℕ) (at : ℕ) (r : Refusal) → Sound w → body_checked w ≡ c → pass_body c w at ≡ Err r → In at (length w) r.place
unfolding pass_body
body_in_lem (Ok n) w at r s e h = absurd (barred_passed r _ (sym h))
body_in_lem (Err f) w at r s e h =
    let is : at + body_at (flags_in w) + f.place ≡ r.place = cc in
    (omega (arith, is), omega (arith, is, fault_in w at f s e))

pub pass_in : (w : List ℕ) (at : ℕ) (r : Refusal) → pass_bytes w at ≡ Err r → In at (length w) r.place
unfolding pass_bytes
pass_in w at r h = go (eqb (first (frame_lines w)) 0) refl h
  where
    go : (t : Bool) → eqb (first (frame_lines w)) 0 ≡ t → pick (not t) (Err (refused (first (frame_lines w)) at)) (pass_body (body_checked w) w at) ≡ Err r
        → In at (length w) r.place
    go true z q = body_in_lem (body_checked w) w at r (frame_sound w (eqb-true _ 0 z)) refl q
    go false z q = let is : at ≡ r.place = cc in (omega (arith, is), omega (arith, is))

pub list_in : (w : List ℕ) (at n room : ℕ) (r : Refusal) → list_answer (pass_bytes w at) at n room ≡ Err r → In at (length w) r.place
unfolding list_answer
list_in w at n room r h = go (pass_bytes w at) refl h
  where
    full : (t : Bool) → pick t (Err (needing n (refused 16 at))) (Ok n) ≡ Err r → In at (length w) r.place
    full true q = let is : at ≡ r.place = cc in (omega (arith, is), omega (arith, is))
    full false q = let z : ◌≡◌ {A = ℕ} 0 1 = cc in absurd (omega arith)

    go : (x : Result ℕ Refusal) → pass_bytes w at ≡ x → list_answer x at n room ≡ Err r → In at (length w) r.place
    go (Ok k) e q = full (ltb room n) q
    go (Err b) e q = let is : b ≡ r = cc in pass_in w at r (rw is at e)

pub message_in_lem : (w : List ℕ) (at n k : ℕ) (m : Message) (r : Refusal) → message_answer (pass_bytes w at) at n k m ≡ Err r → In at (length w) r.place
unfolding message_answer
message_in_lem w at n k m r h = go (pass_bytes w at) refl h
  where
    there : (t : Bool) → pick t (Err (refused 17 at)) (Ok m) ≡ Err r → In at (length w) r.place
    there true q = let is : at ≡ r.place = cc in (omega (arith, is), omega (arith, is))
    there false q = let z : ◌≡◌ {A = ℕ} 0 1 = cc in absurd (omega arith)

    go : (x : Result ℕ Refusal) → pass_bytes w at ≡ x → message_answer x at n k m ≡ Err r → In at (length w) r.place
    go (Ok p) e q = there (leb n k) q
    go (Err b) e q = let is : b ≡ r = cc in pass_in w at r (rw is at e)

-- so that its place in the recording is below 2^64
pub window_reach : (buf : List ℕ) (s e base place : ℕ) → Inside buf s e base → In s (length (window buf s e)) place → (s ≤ place) × (base + (place - s) < 2 ^ 64)
window_reach buf s e base place i p =
    (p.0, omega (arith, p.1, window_ends buf s e base i, i.fits))

-- ---- the calls

module _ (buf : List ℕ) (s e base : ℕ) where
  pub pass_outside : inside buf s e base ≡ false → pass_window buf s e base ≡ Err (refused 1 s)
  unfolding pass_window
  pass_outside i = rw i

  pub pass_inside : inside buf s e base ≡ true → pass_window buf s e base ≡ pass_bytes (window buf s e) s
  unfolding pass_window
  pass_inside i = rw i

  -- q is what the code tells: the refusal r with its place in the recording
  pub read_barred : (r q : Refusal) → pass_window buf s e base ≡ Err r → q ≡ recorded base s r → Err q ≡ read_packet buf s e base
  unfolding read_packet read_answer
  read_barred r q h is = rw (is, h)

  pub read_passed : (n : ℕ) (p : Packet) → pass_window buf s e base ≡ Ok n → p ≡ packet_in (window buf s e) s base → Ok p ≡ read_packet buf s e base
  unfolding read_packet read_answer
  read_passed n p h is = rw (is, h)

  abbrev listed : ℕ → ℕ → Result ℕ Refusal → Result ℕ Refusal
  listed m k x = list_answer x s (message_count (window buf s e)) (min m k)

  pub list_outside : (m k : ℕ) → inside buf s e base ≡ false → listed m k (pass_window buf s e base) ≡ Err (refused 1 s)
  unfolding list_answer
  list_outside m k i = rw (pass_outside i)

  pub list_inside : (m k : ℕ) → inside buf s e base ≡ true → listed m k (pass_window buf s e base) ≡ listed m k (pass_bytes (window buf s e) s)
  list_inside m k i = rw (pass_inside i)

  pub list_says_no : (m k : ℕ) (r q : Refusal) → listed m k (pass_window buf s e base) ≡ Err r → q ≡ recorded base s r
      → Err q ≡ list_packet buf s e base m k
  unfolding list_packet
  list_says_no m k r q h is = rw (is, h)

  pub list_says_yes : (m k n : ℕ) → listed m k (pass_window buf s e base) ≡ Ok n → Ok n ≡ list_packet buf s e base m k
  unfolding list_packet
  list_says_yes m k n h = rw h

  abbrev given : ℕ → Result ℕ Refusal → Result Message Refusal
  given k x = message_answer x s (message_count (window buf s e)) k (kth_message (window buf s e) k)

  pub message_outside : (k : ℕ) → inside buf s e base ≡ false → given k (pass_window buf s e base) ≡ Err (refused 1 s)
  unfolding message_answer
  message_outside k i = rw (pass_outside i)

  pub message_inside : (k : ℕ) → inside buf s e base ≡ true → given k (pass_window buf s e base) ≡ given k (pass_bytes (window buf s e) s)
  message_inside k i = rw (pass_inside i)

  pub message_says_no : (k : ℕ) (r q : Refusal) → given k (pass_window buf s e base) ≡ Err r → q ≡ recorded base s r
      → Err q ≡ message_packet buf s e base k
  unfolding message_packet
  message_says_no k r q h is = rw (is, h)

  pub message_says_yes : (k : ℕ) (m : Message) → given k (pass_window buf s e base) ≡ Ok m → Ok m ≡ message_packet buf s e base k
  unfolding message_packet
  message_says_yes k m h = rw h

-- what a list holds after it; x is what was said of the window's bytes
pub after_yes : {x : Result ℕ Refusal} {n : ℕ} (entries : ℕ → ℕ) (old : List ℕ) → x ≡ Ok n → list_after x entries old ≡ list_after (Ok n) entries old
after_yes entries old e = rw e

pub after_no : {x : Result ℕ Refusal} {r : Refusal} (q : Refusal) (entries : ℕ → ℕ) (old : List ℕ) → x ≡ Err r → list_after x entries old ≡ list_after (Err q) entries old
unfolding list_after
after_no q entries old e = rw e
