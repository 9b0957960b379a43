-- What document 01 promises of the calls beside the three demands, sentence by sentence; proved in proofs/Document01.antt (document_01).
use Rattle.std.specs.Prelude.{◌≡◌, List, ◌∷◌, ◌++◌, ◌↔◌, ◌≢◌, ℕ, ◌+◌, ◌*◌, ◌^◌, ◌≤◌, length, drop}
use Rattle.units.specs.Units.{Bytes}
use Rattle.terms.specs.Refusals.{no_refusal}
use Rattle.body.specs.Answers.{check_body, checked_told}
use Rattle.body.specs.Blocks.{Entry, entries_in}
use Rattle.builder.specs.Build.{entry_of, close_step, step_told}
use Rattle.builder.specs.Run.{Built, closed_body}
use Rattle.builder.specs.declared.Draft.{Draft}
use Rattle.frame.specs.Rules.{message_rule}
use Rattle.packet.specs.Read.{window, read_packet, packet_told}
use Rattle.frame.specs.Contents.{Contents}
use Rattle.packet_bytes.specs.Bytes.{packet_bytes}
use Rattle.packet.specs.Messages.{list_packet, message_packet, list_told, message_told}
use Rattle.packet.specs.Write.{write_packet, write_told}
use Rattle.packet.specs.declared.Packet.{Packet}
use Rattle.recording.specs.Reading.{read_recording}
use Rattle.promises.specs.Handed.{HandsOut}
use Rattle.promises.specs.Contents.{Typed, Accepts, output_of}
use Rattle.promises.specs.Refusals.{OneOf, reader_refusals, writer_refusals}
use Rattle.promises.specs.Endings.{zero_message, Ends, listed_told, given_told, written_told}
use Rattle.promises.specs.Keeps.{Rule}
use Rattle.promises.specs.Bodies.{BodyKept}
use Rattle.promises.specs.WriterKeeps.{LengthOf, WriterRule, WriterKeeps}
use Rattle.promises.specs.Building.{FlagsFor, Building}

pub record Document01 : Type 0 where
  -- "Tested from the top, save where a call's own order stands below; the first that applies is given, and none is given otherwise."
  -- n is given exactly where the rules before it are kept and its own is not; 0, where all are: Demand2.accepted_exactly
  pub read_first : (buf : List ℕ) → Bytes buf → (start end base : ℕ) (before : List ℕ) (n : ℕ) (after : List ℕ) → reader_refusals ≡ before ++ (n ∷ after)
      → ((packet_told (read_packet buf start end base)).refusal.number ≡ n)
      ↔ (((m : ℕ) → OneOf m before → Rule buf start end base (window buf start end) m) × (¬ Rule buf start end base (window buf start end) n))
  -- Lister: "After the reader's tests", and the second call too: a refusal of the reader is theirs, number, places, room and reason
  pub list_as_read : (buf : List ℕ) (start end base len₁ len₂ : ℕ) → (packet_told (read_packet buf start end base)).refusal.number ≢ 0
      → list_told (list_packet buf start end base len₁ len₂) ≡ listed_told (packet_told (read_packet buf start end base)).refusal 0
  pub message_as_read : (buf : List ℕ) (start end base number : ℕ) → (packet_told (read_packet buf start end base)).refusal.number ≢ 0
      → message_told (message_packet buf start end base number) ≡ given_told (packet_told (read_packet buf start end base)).refusal zero_message
  -- Recording: "Handed out means that the one-packet reader, at each of those places with the same end, gives that packet; the number is
  -- exactly how many. The lengths of the accepted packets add up to the distance covered." One list of packets is so, and no other;
  -- with its base moved on, document 02 §9.
  pub recording_handed : (buf : List ℕ) (start end base : ℕ)
      → (ps : List Packet) × HandsOut buf start end base (read_recording buf start end base) ps × ((qs : List Packet) → HandsOut buf start end base (read_recording buf start end base) qs → qs ≡ ps)
  -- Builder: what each step answers, each refusal in its order
  pub builder_answers : Building
  -- "From a fresh state handed on step by step and closed last, the buffer untouched between, the body, at any size, reads back
  -- by the layout above and its time rule as the blocks added."
  -- The layout holds of exactly these blocks (no other list: Demand2.messages_once), and the body's check counts and reports them.
  pub built_reads_back : (buf : List ℕ) (d : Draft) (es : List Entry) (flags : ℕ) → Built buf d es → (step_told (close_step d (length buf))).refusal.number ≡ 0
      → FlagsFor d.rule flags
      → BodyKept d.kind flags (closed_body buf d) es
      × (checked_told (check_body d.kind (message_rule flags) (closed_body buf d)) ≡ record { refusal = no_refusal; count = length es })
      × (entries_in d.kind (message_rule flags) (closed_body buf d) (length es) ≡ es)
  -- a block added is the time, the ID word made of its upper half and n, and the bytes, as given
  pub block_added : (time upper : ℕ) (bytes : List ℕ) → entry_of time upper bytes ≡ record { time = time; id = upper * 2 ^ 16 + length bytes; bytes = bytes }
  -- once a block is added, closing is not refused
  pub built_closes : (buf : List ℕ) (d : Draft) (e : Entry) (es : List Entry) → Built buf d (e ∷ es) → (step_told (close_step d (length buf))).refusal.number ≡ 0
  -- Writer: a length, or one refusal of the table's, and zeros; "First 17 (..), then 5 to 9, 12 and 15 by the reader's rules, then 16."
  pub write_ends : (c : Contents) (room : ℕ) → Ends writer_refusals written_told 0 (write_told (write_packet c room))
  -- n is given exactly where the rules before it are kept and its own is not; 0, where all are
  pub write_first : (c : Contents) → Typed c → (room : ℕ) (before : List ℕ) (n : ℕ) (after : List ℕ) → writer_refusals ≡ before ++ (n ∷ after)
      → ((write_told (write_packet c room)).refusal.number ≡ n) ↔ (((m : ℕ) → OneOf m before → WriterRule c room m) × (¬ WriterRule c room n))
  pub write_accepts : (c : Contents) → Typed c → (room : ℕ) → ((write_told (write_packet c room)).refusal.number ≡ 0) ↔ WriterKeeps c room
  -- "For the writer and builder the place is 0"; "16 also gives the room needed (.. whole packet ..)"
  pub write_placed : (c : Contents) (room : ℕ) → (write_told (write_packet c room)).refusal.place ≡ 0
  pub write_room : (c : Contents) (room : ℕ) → (write_told (write_packet c room)).refusal.number ≡ 16 → LengthOf c (write_told (write_packet c room)).refusal.room
  pub write_no_room : (c : Contents) (room : ℕ) → (write_told (write_packet c room)).refusal.number ≢ 16 → (write_told (write_packet c room)).refusal.room ≡ 0
  -- what is told of a packet that is written is its length, and so long are its bytes
  pub write_length : (c : Contents) (room : ℕ) → (write_told (write_packet c room)).refusal.number ≡ 0
      → LengthOf c (write_told (write_packet c room)).length × (length (packet_bytes c) ≡ (write_told (write_packet c room)).length)
  -- a packet has one length
  pub length_once : (c : Contents) (p q : ℕ) → LengthOf c p → LengthOf c q → p ≡ q
  -- "Output behind the packet is untouched", and the packet's bytes are before it
  pub written_there : (c : Contents) → Accepts c → (out : List ℕ) → length (packet_bytes c) ≤ length out
      → output_of c out ≡ packet_bytes c ++ drop (length (packet_bytes c)) out
