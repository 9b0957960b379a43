-- An answer told without a refusal is the case of its enum that holds the value; proved in proofs/Answering.antt (answering). So a program that takes the
-- enum apart sees what is told.
use Rattle.std.specs.Prelude.{◌≡◌, List, ℕ, Result, Ok}
use Rattle.builder.specs.Build.{open_step, add_step, close_step, step_told}
use Rattle.builder.specs.declared.Draft.{Draft}
use Rattle.frame.specs.Contents.{Contents}
use Rattle.packet.specs.Read.{read_packet, packet_told}
use Rattle.packet.specs.Messages.{list_packet, message_packet, list_told, message_told}
use Rattle.packet.specs.Write.{write_packet, write_told}
use Rattle.terms.specs.declared.Refusal.{Refusal}

-- a step told without a refusal is done
abbrev pub Doing : Result Draft (Refusal × Draft) → Type 0
Doing s = (step_told s).refusal.number ≡ 0 → s ≡ Ok (step_told s).draft

pub record Answering : Type 0 where
  pub reads : (buf : List ℕ) (start end base : ℕ) → (packet_told (read_packet buf start end base)).refusal.number ≡ 0
      → read_packet buf start end base ≡ Ok (packet_told (read_packet buf start end base)).packet
  pub lists : (buf : List ℕ) (start end base len₁ len₂ : ℕ) → (list_told (list_packet buf start end base len₁ len₂)).refusal.number ≡ 0
      → list_packet buf start end base len₁ len₂ ≡ Ok (list_told (list_packet buf start end base len₁ len₂)).count
  pub gives : (buf : List ℕ) (start end base number : ℕ) → (message_told (message_packet buf start end base number)).refusal.number ≡ 0
      → message_packet buf start end base number ≡ Ok (message_told (message_packet buf start end base number)).message
  pub writes : (c : Contents) (room : ℕ) → (write_told (write_packet c room)).refusal.number ≡ 0
      → write_packet c room ≡ Ok (write_told (write_packet c room)).length
  pub opens : (d : Draft) (kind rule len : ℕ) → Doing (open_step d kind rule len)
  pub adds : (d : Draft) (len time n : ℕ) → Doing (add_step d len time n)
  pub closes : (d : Draft) (len : ℕ) → Doing (close_step d len)
