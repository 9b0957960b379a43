-- What each public call promises of its outcome: its `ensures`, over the values at entry. The outcome is the result, and what each slice
-- lent for writing holds at exit.
use Rattle.std.specs.Prelude.{◌≡◌, List, ℕ, length, Result}
use Rattle.units.specs.Units.{bytes_of}
use Rattle.body.specs.Blocks.{block_bytes}
use Rattle.builder.specs.Build.{form_of, fresh_draft, open_step, open_word, add_step, entry_of, close_step, counter_bytes, buf_after}
use Rattle.builder.specs.declared.Draft.{Draft}
use Rattle.frame.specs.Contents.{contents}
use Rattle.frame.specs.declared.Fields.{Fields}
use Rattle.packet_bytes.specs.Bytes.{packet_bytes}
use Rattle.packet.specs.Read.{window, read_packet}
use Rattle.packet.specs.Messages.{list_packet, list_after, starts, lengths, message_packet}
use Rattle.packet.specs.Write.{write_packet, out_after}
use Rattle.recording.specs.Reading.{read_recording}
use Rattle.recording.specs.declared.Recording.{Recording}
use Rattle.body.specs.declared.Message.{Message}
use Rattle.packet.specs.declared.Packet.{Packet}
use Rattle.terms.specs.declared.Refusal.{Refusal}

-- ---- the calls on one packet

-- read_packet(buf, start, end, base)
abbrev pub ReadPacket : List ℕ → ℕ → ℕ → ℕ → Result Packet Refusal → Type 0
ReadPacket buf start end base r = r ≡ read_packet buf start end base

-- list_messages(buf, start, end, base, starts, lengths): the two lists at entry, the result, and the two lists at exit
abbrev pub ListMessages : List ℕ → ℕ → ℕ → ℕ → List ℕ → List ℕ → Result ℕ Refusal → List ℕ → List ℕ → Type 0
ListMessages buf start end base starts₀ lengths₀ r starts₁ lengths₁ =
    (r ≡ list_packet buf start end base (length starts₀) (length lengths₀))
    × (starts₁ ≡ list_after r (starts (window buf start end)) starts₀)
    × (lengths₁ ≡ list_after r (lengths (window buf start end)) lengths₀)

-- message(buf, start, end, base, number)
abbrev pub GiveMessage : List ℕ → ℕ → ℕ → ℕ → ℕ → Result Message Refusal → Type 0
GiveMessage buf start end base number r = r ≡ message_packet buf start end base number

-- write_packet(fields, body, out): the output at entry, the result, and the output at exit
abbrev pub WritePacket : Fields → List ℕ → List ℕ → Result ℕ Refusal → List ℕ → Type 0
WritePacket fields body out₀ r out₁ = (r ≡ write_packet (contents fields body) (length out₀)) × (out₁ ≡ out_after r out₀ (packet_bytes (contents fields body)))

-- ---- the recording

-- read_recording(buf, start, end, base)
abbrev pub ReadRecording : List ℕ → ℕ → ℕ → ℕ → Recording → Type 0
ReadRecording buf start end base r = r ≡ read_recording buf start end base

-- ---- the builder

-- Draft::fresh()
abbrev pub Fresh : Draft → Type 0
Fresh r = r ≡ fresh_draft

-- open(self, buf, kind, rule): the buffer at entry, the result, and the buffer at exit
abbrev pub Open : Draft → List ℕ → ℕ → ℕ → Result Draft (Refusal × Draft) → List ℕ → Type 0
Open d buf₀ kind rule r buf₁ = (r ≡ open_step d kind rule (length buf₀)) × (buf₁ ≡ buf_after r buf₀ 0 (bytes_of 4 (open_word kind rule)))

-- add(self, buf, time, upper, bytes)
abbrev pub Add : Draft → List ℕ → ℕ → ℕ → List ℕ → Result Draft (Refusal × Draft) → List ℕ → Type 0
Add d buf₀ time upper bytes r buf₁ =
    (r ≡ add_step d (length buf₀) time (length bytes)) × (buf₁ ≡ buf_after r buf₀ d.used (block_bytes (form_of d) (entry_of time upper bytes)))

-- close(self, buf)
abbrev pub Close : Draft → List ℕ → Result Draft (Refusal × Draft) → List ℕ → Type 0
Close d buf₀ r buf₁ = (r ≡ close_step d (length buf₀)) × (buf₁ ≡ buf_after r buf₀ 0 (counter_bytes d))
