-- Demand 1: what is said of an accepted packet depends on its own bytes alone, and its parts make it up.
use Rattle.std.specs.Prelude.{Result, Ok, Err}
use mathlib.Core.Path.{◌≡◌, refl, sym, ap, ◌∙◌}
use mathlib.Core.List.{List, ◌++◌}
use Prim.Native.Nat.{ℕ, ◌+◌, ◌≤◌, ◌<◌}
use native.Mathlib.Omega.{arith}
use lib.ListN.{length}
use borrow.Author.Tests.{not-false}
use mathlib.Core.Bool.{not}
use Rattle.units.specs.Units.{part}
use Rattle.units.proofs.Choices.{passed}
use Rattle.terms.specs.Refusals.{refused}
use Rattle.frame.specs.Header.{packet_length, flags_in, data_length, unfilled_length}
use Rattle.frame.specs.Table.{first, frame_lines}
use Rattle.frame.specs.inner.Lengths.{Sound}
use Rattle.frame.proofs.Frames.{flags_front, kind_front, packet_length_front, data_length_front, head_sum_front, filler_at_front, sum_at_front, body_front, data_sum_front, fields_front, frame_front, frame_sound, OfFront, own_bytes_lem}
use Rattle.packet.proofs.Passes.{Inside, inside_says, inside_made, window_ends, PassedBytes, bytes_passed, passed_bytes, barred_passed, pass_inside, read_passed}
use Rattle.packet.proofs.Window.{own_part, entries_told}
use Rattle.packet.specs.Read.{inside, window, packet_in, body_checked, pass_bytes, pass_window, read_answer, read_packet, Together}
use Rattle.packet.specs.Messages.{message_count, kth_message, list_packet, starts, lengths, message_packet, entries}
use Rattle.packet.specs.declared.Packet.{Packet}
use Rattle.terms.specs.declared.Refusal.{Refusal}

-- ---- what acceptance says

-- a window in its buffer, whose frame and body keep the rules, and the packet there
pub record AcceptedAt (buf : List ℕ) (s e base : ℕ) (p : Packet) : Type 0 where
  pub inside : Inside buf s e base
  pub passes : PassedBytes (window buf s e) p.length
  pub packet : p ≡ packet_in (window buf s e) s base
  pub reach : s + length (window buf s e) ≡ e

pub packet_in_length : (w : List ℕ) (at base : ℕ) → packet_length w ≡ (packet_in w at base).length
unfolding packet_in
packet_in_length w at base = refl

pub accepted_at : (buf : List ℕ) (s e base : ℕ) (p : Packet) → read_packet buf s e base ≡ Ok p → AcceptedAt buf s e base p
unfolding read_packet read_answer pass_window
accepted_at buf s e base p h = go (pass_window buf s e base) refl h
  where
    go : (x : Result ℕ Refusal) → pass_window buf s e base ≡ x → read_answer x (window buf s e) s base ≡ Ok p → AcceptedAt buf s e base p
    go (Err r) q a = let z : ◌≡◌ {A = ℕ} 0 1 = cc a in absurd (omega arith)
    go (Ok n) q a =
        let w = window buf s e in
        let k = passed (not (inside buf s e base)) (Err (refused 1 s)) (pass_bytes w s) (Ok n) (barred_passed _ n) q in
        let i = inside_says buf s e base (not-false (inside buf s e base) k.0) in
        let b = bytes_passed w s n k.1 in
        let is : p ≡ packet_in w s base = cc a in
        let long : n ≡ p.length = b.long ∙ packet_in_length w s base ∙ sym (ap (λ (x : Packet). x.length) is) in
        record { inside = i; passes = rw long at b; packet = is; reach = window_ends buf s e base i }

-- its tests are passed
pub accepted_pass : (buf : List ℕ) (s e base : ℕ) (p : Packet) → read_packet buf s e base ≡ Ok p → pass_window buf s e base ≡ Ok p.length
accepted_pass buf s e base p h =
    let a = accepted_at buf s e base p h in
    pass_inside buf s e base (inside_made buf s e base a.inside) ∙ passed_bytes (window buf s e) s p.length a.passes

pub at_accepted : (buf : List ℕ) (s e base : ℕ) (p : Packet) → Inside buf s e base → PassedBytes (window buf s e) p.length
    → p ≡ packet_in (window buf s e) s base → read_packet buf s e base ≡ Ok p
at_accepted buf s e base p i b is =
    sym (read_passed buf s e base p.length p (pass_inside buf s e base (inside_made buf s e base i) ∙ passed_bytes (window buf s e) s p.length b) is)

-- an accepted packet is longer than its header, and all of it stands in its window
pub record AcceptedFits (s e n : ℕ) : Type 0 where
  pub some : 24 < n
  pub within : s + n ≤ e

pub accepted_fits : (buf : List ℕ) (s e base : ℕ) (p : Packet) → read_packet buf s e base ≡ Ok p → AcceptedFits s e p.length
accepted_fits buf s e base p h =
    let a = accepted_at buf s e base p h in
    let w = a.passes.sound in
    record {
      some = omega (arith, a.passes.long, w.parts, w.some);
      within = omega (arith, a.passes.long, w.there, a.reach);
    }

-- ---- what is said of a packet whatever stands behind it

module _ (v t : List ℕ) (header : 24 ≤ length v) (there : packet_length v ≤ length v) (parts : unfilled_length (flags_in v) (data_length v) ≤ packet_length v) where
  pub checked_front : body_checked (v ++ t) ≡ body_checked v
  unfolding body_checked
  checked_front = rw (body_front v t header there parts, fields_front v t header there parts)

  pub packet_front : (at base : ℕ) → packet_in (v ++ t) at base ≡ packet_in v at base
  unfolding packet_in
  packet_front at base =
      rw (
        fields_front v t header there parts,
        data_sum_front v t header there parts,
        head_sum_front v t header there parts,
        filler_at_front v t header there parts,
        sum_at_front v t header there parts,
        packet_length_front v t header there parts,
        data_length_front v t header there parts,
        flags_front v t header there parts,
      )

  message_front : (k : ℕ) → kth_message (v ++ t) k ≡ kth_message v k
  unfolding kth_message
  message_front k = rw (body_front v t header there parts, kind_front v t header there parts, flags_front v t header there parts)

  messages_front : kth_message (v ++ t) ≡ kth_message v
  messages_front = λ i k. message_front k i

-- ---- the bytes behind an accepted packet's declared length have no say, nor has the end beyond it

module _ (a b : List ℕ) (s e f base : ℕ) (p : Packet) (h : read_packet a s e base ≡ Ok p) (ends : s + p.length ≤ f) (in_b : Inside b s f base)
    (same : part a s p.length ≡ part b s p.length) where
  -- whatever is said of a packet alone is the same of both windows
  own : {A : Type 0} (said : List ℕ → A) → OfFront said → said (window b s f) ≡ said (window a s e)
  own said front =
      let at = accepted_at a s e base p h in
      let k = accepted_fits a s e base p h in
      let w = window a s e in
      let u = window b s f in
      let l = at.passes.long in
      let x = own_part b s f p.length (omega arith) in
      let y = own_part a s e p.length (omega (arith, k.within)) in
      own_bytes_lem said front w u at.passes.sound (rw l at (sym x ∙ sym same ∙ y))

  own_passes : PassedBytes (window b s f) p.length
  own_passes =
      let at = (accepted_at a s e base p h).passes in
      let framed = ap first (own frame_lines frame_front) ∙ at.framed in
      record {
        framed = framed;
        sound = frame_sound (window b s f) framed;
        count = at.count;
        body = own body_checked checked_front ∙ at.body;
        long = at.long ∙ sym (own packet_length (λ v t header there parts. packet_length_front v t header there parts));
      }

  pub own_read : read_packet b s f base ≡ Ok p
  own_read =
      at_accepted b s f base p in_b own_passes
      ((accepted_at a s e base p h).packet ∙ sym (own (λ w. packet_in w s base) (λ v t header there parts. packet_front v t header there parts s base)))

  own_pass : pass_window a s e base ≡ pass_window b s f base
  own_pass = accepted_pass a s e base p h ∙ sym (accepted_pass b s f base p own_read)

  own_count : message_count (window a s e) ≡ message_count (window b s f)
  unfolding message_count
  own_count = rw (own body_checked checked_front)

  own_messages : kth_message (window a s e) ≡ kth_message (window b s f)
  own_messages = sym (own kth_message messages_front)

  pub own_message : (k : ℕ) → message_packet a s e base k ≡ message_packet b s f base k
  unfolding message_packet
  own_message k = rw (own_pass, own_count, own_messages)

  pub own_list : (m n : ℕ) → list_packet a s e base m n ≡ list_packet b s f base m n
  unfolding list_packet
  own_list m n = rw (own_pass, own_count)

  -- the entries told are equal, whatever the lists held before
  pub own_entries : (m n : ℕ) (old old' : List ℕ)
      → (entries (list_packet a s e base m n) (starts (window a s e)) old ≡ entries (list_packet b s f base m n) (starts (window b s f)) old')
      × (entries (list_packet a s e base m n) (lengths (window a s e)) old ≡ entries (list_packet b s f base m n) (lengths (window b s f)) old')
  own_entries m n old old' = (
    (λ i. entries (own_list m n i) (λ k. (own_messages i k).start) old) ∙ entries_told (list_packet b s f base m n) (starts (window b s f)) old old',
    (λ i. entries (own_list m n i) (λ k. (own_messages i k).length) old) ∙ entries_told (list_packet b s f base m n) (lengths (window b s f)) old old',
  )

-- ---- the parts of an accepted packet

sound_together : (w : List ℕ) (at base : ℕ) → Sound w → Together at (packet_in w at base)
unfolding packet_in
sound_together w at base s =
    record { header = refl; secondary = refl; body = omega arith; filler = omega arith; sum = omega (arith, s.parts); all = omega (arith, s.parts) }

pub together : (buf : List ℕ) (s e base : ℕ) (p : Packet) → read_packet buf s e base ≡ Ok p → Together s p
together buf s e base p h =
    let a = accepted_at buf s e base p h in
    rw a.packet (sound_together (window buf s e) s base a.passes.sound)
