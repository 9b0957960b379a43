-- Layout refusals say why (document 02 §2), sentence by sentence; proved in proofs/Reasons.antt (reasons). What each reason means of a body is
-- BodyAtFault (specs/Bodies.antt, over specs/Faults.antt). That every body that breaks its layout has one place and one reason, and no other body has:
-- Demand1.fault_exactly, placed_once.
use Rattle.std.specs.Prelude.{◌≡◌, List, ◌∷◌, ◌++◌, ◌↔◌, ◌≢◌, ℕ, ◌+◌}
use Rattle.units.specs.Units.{Bytes}
use Rattle.terms.specs.declared.Refusal.{Refusal}
use Rattle.builder.specs.Build.{open_step, add_step, close_step, step_told}
use Rattle.builder.specs.declared.Draft.{Draft}
use Rattle.frame.specs.Contents.{Contents}
use Rattle.packet.specs.Read.{window, read_packet, packet_told}
use Rattle.packet.specs.Messages.{list_packet, message_packet, list_told, message_told}
use Rattle.packet.specs.Write.{write_packet, write_told}
use Rattle.recording.specs.Reading.{read_recording}
use Rattle.promises.specs.Refusals.{OneOf, reader_refusals, writer_refusals}
use Rattle.promises.specs.Bodies.{BodyAtFault}
use Rattle.promises.specs.Contents.{Typed}
use Rattle.promises.specs.Keeps.{type, flags, body, body_bytes, Rule}
use Rattle.promises.specs.WriterKeeps.{WriterRule}

-- 15 at this place of the buffer and of the recording, for this reason
abbrev pub layout : ℕ → ℕ → ℕ → Refusal
layout place recording_place reason = record { number = 15; place = place; room = 0; reason = reason; recording_place = recording_place }

-- any other number, and no refusal, has reason 0
abbrev pub ElseNone : Refusal → Type 0
ElseNone r = r.number ≢ 15 → r.reason ≡ 0

pub record Reasons : Type 0 where
  -- "Have the block walk name the rule broken": where the rules ahead of 15 are kept, the reader gives 15 at a place and for a reason exactly where the
  -- packet's body is at fault so
  pub read_fault : (buf : List ℕ) → Bytes buf → (start end base : ℕ) (before after : List ℕ) → reader_refusals ≡ before ++ (15 ∷ after)
      → ((m : ℕ) → OneOf m before → Rule buf start end base (window buf start end) m) → (at reason : ℕ)
      → ((packet_told (read_packet buf start end base)).refusal ≡ layout (start + body (window buf start end) + at) (base + body (window buf start end) + at) reason)
      ↔ BodyAtFault (type (window buf start end)) (flags (window buf start end)) (body_bytes (window buf start end)) at reason
  -- "Lister, recording reader, builder and writer pass it on": a refusal of the reader is the lister's and the recording reader's as it is
  -- (Document01.list_as_read, message_as_read, recording_handed), the builder's are 3, time, and 7 (Building.add_15, close_15).
  -- The writer, at place 0
  pub write_fault : (c : Contents) → Typed c → (room : ℕ) (before after : List ℕ) → writer_refusals ≡ before ++ (15 ∷ after)
      → ((m : ℕ) → OneOf m before → WriterRule c room m) → (reason : ℕ)
      → ((write_told (write_packet c room)).refusal ≡ layout 0 0 reason) ↔ ((at : ℕ) × BodyAtFault c.fields.kind c.fields.flags c.body at reason)
  -- "Refusals: 15 as before; all others have reason 0."
  pub read_else : (buf : List ℕ) (start end base : ℕ) → ElseNone (packet_told (read_packet buf start end base)).refusal
  pub list_else : (buf : List ℕ) (start end base len₁ len₂ : ℕ) → ElseNone (list_told (list_packet buf start end base len₁ len₂)).refusal
  pub message_else : (buf : List ℕ) (start end base number : ℕ) → ElseNone (message_told (message_packet buf start end base number)).refusal
  pub recording_else : (buf : List ℕ) (start end base : ℕ) → ElseNone (read_recording buf start end base).refusal
  pub write_else : (c : Contents) (room : ℕ) → ElseNone (write_told (write_packet c room)).refusal
  pub open_else : (d : Draft) (kind rule len : ℕ) → ElseNone (step_told (open_step d kind rule len)).refusal
  pub add_else : (d : Draft) (len time n : ℕ) → ElseNone (step_told (add_step d len time n)).refusal
  pub close_else : (d : Draft) (len : ℕ) → ElseNone (step_told (close_step d len)).refusal
