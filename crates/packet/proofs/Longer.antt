-- Reading ahead: what is said of a window that is filled further, and of the same bytes at another place.
use Rattle.std.specs.Prelude.{Result, Ok, Err}
use mathlib.Core.Path.{◌≡◌, refl, ap}
use mathlib.Core.List.{List, ◌++◌}
use mathlib.Core.Bool.{Bool, true, false, not}
use Prim.Native.Nat.{ℕ, ◌+◌, ◌-◌}
use native.Mathlib.Omega.{arith}
use lib.Dec.{eqb}
use borrow.Author.Tests.{eqb-true}
use Rattle.units.specs.Choice.{pick}
use Rattle.terms.specs.Refusals.{refused, placed}
use Rattle.frame.specs.Header.{flags_in, body_at}
use Rattle.frame.specs.Table.{first, frame_lines}
use Rattle.frame.proofs.Frames.{flags_front, packet_length_front, frame_sound, frame_longer}
use Rattle.packet.specs.Read.{body_checked, pass_body, pass_bytes, read_answer}
use Rattle.packet.proofs.Own.{checked_front, packet_front}
use Rattle.packet.proofs.Passes.{bytes_passed}
use Rattle.terms.specs.declared.Refusal.{Refusal}

-- ---- t stands behind v

module _ (v t : List ℕ) (at : ℕ) (not-2 : first (frame_lines v) ≡ 2 → ⊥) (not-10 : first (frame_lines v) ≡ 10 → ⊥) where
  pass_longer : pass_bytes (v ++ t) at ≡ pass_bytes v at
  unfolding pass_bytes pass_body
  pass_longer = rw (frame_longer v t not-2 not-10) (go (eqb (first (frame_lines v)) 0) refl)
    where
      body : (c : Result ℕ Refusal) → first (frame_lines v) ≡ 0 → pass_body c (v ++ t) at ≡ pass_body c v at
      body (Ok n) z =
          let s = frame_sound v z in
          ap Ok (packet_length_front v t s.header s.there s.parts)
      body (Err f) z = let s = frame_sound v z in rw (flags_front v t s.header s.there s.parts)

      go : (b : Bool) → eqb (first (frame_lines v)) 0 ≡ b
          → pick (not b) (Err (refused (first (frame_lines v)) at)) (pass_body (body_checked (v ++ t)) (v ++ t) at)
          ≡ pick (not b) (Err (refused (first (frame_lines v)) at)) (pass_body (body_checked v) v at)
      go true h =
          let z = eqb-true (first (frame_lines v)) 0 h in
          let s = frame_sound v z in
          rw (checked_front v t s.header s.there s.parts) (body (body_checked v) z)
      go false h = refl

  pub answer_longer : (base : ℕ) → read_answer (pass_bytes (v ++ t) at) (v ++ t) at base ≡ read_answer (pass_bytes v at) v at base
  unfolding read_answer
  answer_longer base = rw pass_longer (go (pass_bytes v at) refl)
    where
      go : (x : Result ℕ Refusal) → pass_bytes v at ≡ x → read_answer x (v ++ t) at base ≡ read_answer x v at base
      go (Ok n) q =
          let s = (bytes_passed v at n q).sound in
          rw (packet_front v t s.header s.there s.parts at base)
      go (Err r) q = refl

-- ---- the same bytes, which stand at another place

-- the refusal that is as far from that place
abbrev pub from_to : ℕ → ℕ → Result ℕ Refusal → Result ℕ Refusal
from_to at to (Ok n) = Ok n
from_to at to (Err r) = Err (placed (to + (r.place - at)) r)

pub pass_elsewhere : (w : List ℕ) (at to : ℕ) → pass_bytes w to ≡ from_to at to (pass_bytes w at)
unfolding pass_bytes pass_body
pass_elsewhere w at to = go (not (eqb (first (frame_lines w)) 0)) (body_checked w)
  where
    go : (b : Bool) (c : Result ℕ Refusal)
        → pick b (Err (refused (first (frame_lines w)) to)) (pass_body c w to)
        ≡ from_to at to (pick b (Err (refused (first (frame_lines w)) at)) (pass_body c w at))
    go true c =
        let here : to ≡ to + (at - at) = omega arith in
        ap (λ (x : ℕ). Err (refused (first (frame_lines w)) x)) here
    go false (Ok n) = refl
    go false (Err f) =
        let there : to + body_at (flags_in w) + f.place ≡ to + (at + body_at (flags_in w) + f.place - at) = omega arith in
        ap (λ (x : ℕ). Err (placed x f)) there
