-- What the reader's tests say, as what the reader says.
use Rattle.std.specs.Prelude.{Result, Ok, Err}
use mathlib.Core.Path.{◌≡◌, refl, ap, ◌∙◌}
use mathlib.Core.List.{List}
use mathlib.Core.Bool.{true}
use Prim.Native.Nat.{ℕ, ◌+◌, ◌≤◌}
use native.Mathlib.Omega.{arith}
use lib.ListN.{length}
use Rattle.terms.specs.Refusals.{recorded}
use Rattle.terms.specs.declared.Refusal.{Refusal}
use Rattle.frame.specs.Header.{packet_length}
use Rattle.packet.specs.Read.{inside, window, packet_in, pass_bytes, pass_window, read_packet}
use Rattle.packet.specs.declared.Packet.{Packet}
use Rattle.packet.proofs.Passes.{bytes_passed, pass_inside, read_barred, read_passed}
use Rattle.packet.proofs.Own.{packet_in_length, accepted_at}
use Rattle.renewal.specs.inner.Passing.{pass_of}

module _ (buf : List ℕ) (s e base : ℕ) where
  -- a packet that passes
  pub passed_of : (n : ℕ) → inside buf s e base ≡ true → pass_bytes (window buf s e) s ≡ Ok n → Ok n ≡ pass_of (read_packet buf s e base)
  passed_of n i h =
      let w = window buf s e in
      let long : n ≡ (packet_in w s base).length = (bytes_passed w s n h).long ∙ packet_in_length w s base in
      let read : Ok (packet_in w s base) ≡ read_packet buf s e base = read_passed buf s e base n (packet_in w s base) (pass_inside buf s e base i ∙ h) refl in
      rw (← read) (ap Ok long)

  -- and one that is barred, q being the refusal r with its place in the recording
  pub barred_of : (r q : Refusal) → pass_window buf s e base ≡ Err r → q ≡ recorded base s r → Err q ≡ pass_of (read_packet buf s e base)
  barred_of r q h is = ap pass_of (read_barred buf s e base r q h is)

  -- ---- back

  -- the packet that was accepted, by its length
  pub record Taken (n : ℕ) : Type 0 where
    pub packet : Packet
    pub read : read_packet buf s e base ≡ Ok packet
    pub long : n ≡ packet.length
    pub ordered : s ≤ e
    pub within : e ≤ length buf
    pub header : 24 ≤ length (window buf s e)
    pub there : n ≤ length (window buf s e)
    pub reach : s + length (window buf s e) ≡ e
    pub own : n ≡ packet_length (window buf s e)

  pub taken : (n : ℕ) → Ok n ≡ pass_of (read_packet buf s e base) → Taken n
  taken n h = go (read_packet buf s e base) refl h
    where
      go : (x : Result Packet Refusal) → read_packet buf s e base ≡ x → Ok n ≡ pass_of x → Taken n
      go (Err r) q g = let z : ◌≡◌ {A = ℕ} 0 1 = cc g in absurd (omega arith)
      go (Ok p) q g =
          let at = accepted_at buf s e base p q in
          let long : n ≡ p.length = cc g in
          let sound = at.passes.sound in
          let own : n ≡ packet_length (window buf s e) = long ∙ at.passes.long in
          record {
            packet = p;
            read = q;
            long = long;
            ordered = at.inside.ordered;
            within = at.inside.within;
            header = sound.header;
            there = omega (arith, own, sound.there);
            reach = at.reach;
            own = own;
          }

  pub barred_back : (r : Refusal) → Err r ≡ pass_of (read_packet buf s e base) → read_packet buf s e base ≡ Err r
  barred_back r h = go (read_packet buf s e base) refl h
    where
      go : (x : Result Packet Refusal) → read_packet buf s e base ≡ x → Err r ≡ pass_of x → read_packet buf s e base ≡ Err r
      go (Ok p) q g = let z : ◌≡◌ {A = ℕ} 0 1 = cc g in absurd (omega arith)
      go (Err f) q g = let same : f ≡ r = cc g in q ∙ ap Err same
