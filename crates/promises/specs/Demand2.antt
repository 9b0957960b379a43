-- Demand 2, sentence by sentence; proved in proofs/Demand2.antt (demand_2).
use Rattle.std.specs.Prelude.{◌≡◌, List, ◌++◌, ◌↔◌, ℕ, ◌+◌, ◌≤◌, length, take}
use Rattle.units.specs.Units.{Bytes, part}
use Rattle.terms.specs.Refusals.{no_refusal}
use Rattle.body.specs.Blocks.{Entry}
use Rattle.packet.specs.Read.{window, read_packet, Together, packet_told}
use Rattle.frame.specs.Contents.{Contents}
use Rattle.packet.specs.Messages.{list_packet, message_packet, list_told, message_told}
use Rattle.packet.specs.Write.{write_packet, write_told}
use Rattle.packet.specs.declared.Part.{Part}
use Rattle.packet.specs.declared.Packet.{Packet}
use Rattle.promises.specs.Contents.{Typed, output_of, contents_of}
use Rattle.promises.specs.Handed.{Within}
use Rattle.promises.specs.Refusals.{OneOf}
use Rattle.promises.specs.Endings.{zero_message, refused_there, read_told, listed_told, given_told, written_told}
use Rattle.promises.specs.Bodies.{opened_types, BodyKept}
use Rattle.promises.specs.Keeps.{flags, type, body_bytes, Keeps}
use Rattle.promises.specs.Reports.{PacketThere, Reports}

-- the bytes of a part
abbrev pub bytes_in : List ℕ → Part → List ℕ
bytes_in buf q = part buf q.at q.length

pub record Demand2 : Type 0 where
  -- "A packet is accepted exactly when the rules in document 01, taken from Chapter 11, hold: header, lengths, secondary time, sums,
  -- filler, and the messages of the types we open." The rules, one by one: Keeps.
  pub accepted_exactly : (buf : List ℕ) → Bytes buf → (start end base : ℕ)
      → ((packet_told (read_packet buf start end base)).refusal.number ≡ 0) ↔ Keeps buf start end base (window buf start end)
  -- "Every part and message reported is the one there."

  -- each field is the one in the header, each part stands where the header says
  pub packet_there : (buf : List ℕ) (start end base : ℕ) (p : Packet) → packet_told (read_packet buf start end base) ≡ read_told no_refusal p
      → PacketThere (window buf start end) start base p
  -- the parts stand one behind the other from the start on, and are all of the packet's bytes
  pub parts_there : (buf : List ℕ) (start end base : ℕ) (p : Packet) → packet_told (read_packet buf start end base) ≡ read_told no_refusal p
      → Together start p
      × (part buf start p.length
      ≡ bytes_in buf p.header ++ (bytes_in buf p.secondary ++ (bytes_in buf p.body ++ (bytes_in buf p.filler ++ bytes_in buf p.sum))))
  -- the messages of a type that we open are the blocks of its body, all of them, each where it stands
  pub messages_there : (buf : List ℕ) → Bytes buf → (start end base : ℕ) (p : Packet) → packet_told (read_packet buf start end base) ≡ read_told no_refusal p
      → OneOf (type (window buf start end)) opened_types
      → (es : List Entry) × (b : BodyKept (type (window buf start end)) (flags (window buf start end)) (body_bytes (window buf start end)) es)
      × Reports buf start end base es b.form
  -- a body is the blocks of one list, and of no other
  pub messages_once : (kind flags : ℕ) (bs : List ℕ) (es ds : List Entry) → OneOf kind opened_types → BodyKept kind flags bs es → BodyKept kind flags bs ds → es ≡ ds
  -- of any other type there are none
  pub carried_none : (buf : List ℕ) (start end base : ℕ) (p : Packet) → packet_told (read_packet buf start end base) ≡ read_told no_refusal p
      → ¬ OneOf (type (window buf start end)) opened_types
      → ((len₁ len₂ : ℕ) → list_told (list_packet buf start end base len₁ len₂) ≡ listed_told no_refusal 0)
      × ((number : ℕ) → message_told (message_packet buf start end base number) ≡ given_told (refused_there 17 start base) zero_message)
  -- "What the writer writes reads back as given": the n bytes that it wrote into any output, at any place of any buffer, whatever
  -- stands around them, and with any base that is not refused
  pub written_reads_back : (c : Contents) → Typed c → (out : List ℕ) (n : ℕ) → write_told (write_packet c (length out)) ≡ written_told no_refusal n
      → (buf : List ℕ) (start end base : ℕ) → Within buf start end base → start + n ≤ end → part buf start n ≡ take n (output_of c out)
      → (p : Packet) × (packet_told (read_packet buf start end base) ≡ read_told no_refusal p) × (contents_of buf p ≡ c) × (p.length ≡ n)
  -- "and an accepted packet written again has the same bytes": its fields and body, into any output with room for it
  pub written_again : (buf : List ℕ) → Bytes buf → (start end base : ℕ) (p : Packet) → packet_told (read_packet buf start end base) ≡ read_told no_refusal p
      → (out : List ℕ) → p.length ≤ length out
      → (write_told (write_packet (contents_of buf p) (length out)) ≡ written_told no_refusal p.length)
      × (take p.length (output_of (contents_of buf p) out) ≡ part buf start p.length)
