-- What it is to be handed out (document 01, "Recording"; document 02 §9), said of the one-packet reader alone.
use Rattle.std.specs.Prelude.{◌≡◌, List, [], ◌∷◌, ◌⊎◌, ◌≢◌, ℕ, ◌+◌, ◌-◌, ◌^◌, ◌≤◌, ◌<◌, length, take, get_or}
use Rattle.packet.specs.Read.{read_packet, no_packet, packet_told}
use Rattle.terms.specs.Refusals.{no_refusal}
use Rattle.packet.specs.declared.Packet.{Packet}
use Rattle.recording.specs.declared.Recording.{Recording}

-- the lengths of packets, added up
unfoldable pub length_of : List Packet → ℕ
length_of [] = 0
length_of (p ∷ ps) = p.length + length_of ps

-- a window in its buffer: start ≤ end ≤ buffer length; and base plus window length does not pass 2^64 - 1
abbrev pub Within : List ℕ → ℕ → ℕ → ℕ → Type 0
Within buf start end base = (start ≤ end) × (end ≤ length buf) × (base + (end - start) ≤ 2 ^ 64 - 1)

-- r is the answer that hands out ps, read from start
pub record HandsOut (buf : List ℕ) (start end base : ℕ) (r : Recording) (ps : List Packet) : Type 0 where
  -- the number is exactly how many
  pub number : r.accepted ≡ length ps
  -- the one-packet reader, at each of those places with the same end and its base moved on by the distance from the window's start, gives that packet
  pub each : (i : ℕ) → i < length ps
      → packet_told (read_packet buf (start + length_of (take i ps)) end (base + length_of (take i ps))) ≡ record { refusal = no_refusal; packet = get_or ps i no_packet }
  -- the lengths of the accepted packets add up to the distance covered, in the buffer and in the recording
  pub covers : r.reached ≡ start + length_of ps
  pub recorded : r.recording_reached ≡ base + length_of ps
  -- and there is the end of a window in its buffer, and no refusal, or the reader refuses, with that refusal
  pub ends :
      (Within buf start end base × (r.reached ≡ end) × (r.refusal ≡ no_refusal))
      ⊎ (((packet_told (read_packet buf r.reached end r.recording_reached)).refusal ≡ r.refusal) × (r.refusal.number ≢ 0) × (Within buf start end base → r.reached < end))
