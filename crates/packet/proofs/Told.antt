-- Demand 1: a reading told as 0 is a packet, and a refusal is not told as 0.
use Rattle.std.specs.Prelude.{Result, Ok, Err}
use mathlib.Core.Path.{◌≡◌, refl, sym, ap, ◌∙◌}
use mathlib.Core.List.{List}
use mathlib.Core.Bool.{Bool, true, false, not}
use mathlib.Core.Logic.{◌≢◌}
use Prim.Native.Nat.{ℕ}
use native.Mathlib.Omega.{arith}
use lib.Dec.{eqb}
use borrow.Author.Tests.{eqb-false, not-true}
use Rattle.units.specs.Choice.{pick}
use Rattle.terms.specs.Refusals.{refused}
use Rattle.terms.specs.declared.Refusal.{Refusal}
use Rattle.body.proofs.Bounds.{faulty_number}
use Rattle.packet.specs.Read.{inside, window, contents_checked, body_checked, pass_body, pass_bytes, pass_window, read_answer, read_packet, packet_told}
use Rattle.frame.specs.Contents.{Contents, contents_in}
use Rattle.frame.specs.Rules.{message_rule}
use Rattle.frame.specs.Table.{first, frame_lines}
use Rattle.packet.specs.declared.Packet.{Packet}

-- a body's refusal is 15, gives no room, and knows no place in the recording
abbrev pub Says15 : Result ℕ Refusal → Type 0
Says15 c = (f : Refusal) → c ≡ Err f → (f.number ≡ 15) × (f.room ≡ 0) × (f.recording_place ≡ 0)

pub given_15 : (c : Contents) → Says15 (contents_checked c)
given_15 c = faulty_number c.fields.kind (message_rule c.fields.flags) c.body

pub checked_15 : (w : List ℕ) → Says15 (body_checked w)
unfolding body_checked
checked_15 w = given_15 (contents_in w)

-- ---- a packet that is barred has a number

abbrev Numbered : Result ℕ Refusal → Type 0
Numbered x = (r : Refusal) → x ≡ Err r → r.number ≢ 0

body_numbered : (c : Result ℕ Refusal) (w : List ℕ) (at : ℕ) → Says15 c → Numbered (pass_body c w at)
unfolding pass_body
body_numbered (Ok n) w at right r e z = let contrary : ◌≡◌ {A = ℕ} 0 1 = cc in omega arith
body_numbered (Err f) w at right r e z =
    let same : f.number ≡ r.number = cc in
    omega (arith, same, z, (right f refl).0)

-- a refusal by its number, then the rest
barred_numbered : (t : Bool) (n at : ℕ) (rest : Result ℕ Refusal) → (t ≡ true → n ≢ 0) → Numbered rest → Numbered (pick t (Err (refused n at)) rest)
barred_numbered true n at rest some next r e z = let same : n ≡ r.number = cc in some refl (same ∙ z)
barred_numbered false n at rest some next r e z = next r e z

bytes_numbered : (w : List ℕ) (at : ℕ) → Numbered (pass_bytes w at)
unfolding pass_bytes
bytes_numbered w at =
    let n = first (frame_lines w) in
    barred_numbered (not (eqb n 0)) n at _ (λ t. eqb-false n 0 (not-true (eqb n 0) t)) (body_numbered (body_checked w) w at (checked_15 w))

pub pass_numbered : (buf : List ℕ) (s e base : ℕ) → Numbered (pass_window buf s e base)
unfolding pass_window
pass_numbered buf s e base =
    barred_numbered (not (inside buf s e base)) 1 s _ (λ t z. omega (arith, z)) (bytes_numbered (window buf s e) s)

-- ---- what the reader tells

module _ (buf : List ℕ) (s e base : ℕ) where
  pub read_told_lem : (packet_told (read_packet buf s e base)).refusal.number ≡ 0
      → read_packet buf s e base ≡ Ok (packet_told (read_packet buf s e base)).packet
  unfolding read_packet read_answer
  read_told_lem = go (pass_window buf s e base) refl
    where
      go : (x : Result ℕ Refusal) → pass_window buf s e base ≡ x → (packet_told (read_answer x (window buf s e) s base)).refusal.number ≡ 0
          → read_answer x (window buf s e) s base ≡ Ok (packet_told (read_answer x (window buf s e) s base)).packet
      go (Ok n) q z = refl
      go (Err r) q z = absurd (pass_numbered buf s e base r q z)

  -- a refusal has a number
  pub refusal_numbered : (r : Refusal) → read_packet buf s e base ≡ Err r → r.number ≢ 0
  refusal_numbered r q z =
      let p = read_told_lem (ap (λ (x : Result Packet Refusal). (packet_told x).refusal.number) q ∙ z) in
      let contrary : ◌≡◌ {A = ℕ} 0 1 = cc (sym q ∙ p) in
      omega arith
