-- The recording reader (document 01, "Recording"; its places in the recording, document 02 §9).
use Rattle.std.specs.Prelude.{List, [], ◌∷◌, not, ℕ, zero, suc, ◌+◌, ◌-◌, length, leb, Result, Ok, Err}
use Rattle.units.specs.Choice.{pick}
use Rattle.terms.specs.Refusals.{refused, no_refusal, recorded}
use Rattle.terms.specs.declared.Refusal.{Refusal}
use Rattle.packet.specs.Read.{inside, read_packet}
use Rattle.packet.specs.declared.Packet.{Packet}
use Rattle.recording.specs.declared.Recording.{Recording}

-- a reading: the packets handed out, the place reached, in the buffer and in the recording, and the refusal there, or none at the exact end
pub record Reading : Type 0 where
  pub packets : List Packet
  pub reached : ℕ
  pub recording_reached : ℕ
  pub refusal : Refusal

abbrev pub stopped : ℕ → ℕ → Refusal → Reading
stopped at base r = record { packets = []; reached = at; recording_reached = base; refusal = r }

-- a packet, ahead of what is read from its end on
abbrev pub ahead : Packet → Reading → Reading
ahead p r = record { packets = p ∷ r.packets; reached = r.reached; recording_reached = r.recording_reached; refusal = r.refusal }

-- the first packet that is refused ends the reading
abbrev pub onward : Result Packet Refusal → ℕ → ℕ → (Packet → Reading) → Reading
onward (Ok p) at base next = ahead p (next p)
onward (Err r) at base next = stopped at base r

-- packets are read from `at`, which is `base` in the recording, to the end, each at the end of the one before and with the base moved on as far, in
-- so many turns at most; the bytes ahead are turns enough (turns_enough)
unfoldable pub read_from : ℕ → List ℕ → ℕ → ℕ → ℕ → Reading
read_from zero buf at end base = stopped at base no_refusal
read_from (suc turns) buf at end base =
    pick (leb end at)
    (stopped at base no_refusal)
    (onward (read_packet buf at end base) at base (λ p. read_from turns buf (at + p.length) end (base + p.length)))

-- from the start; 1 where the window is outside its buffer, or base plus its length passes 2^64 - 1
unfoldable pub reading : List ℕ → ℕ → ℕ → ℕ → Reading
reading buf start end base =
    pick (not (inside buf start end base))
    (stopped start base (recorded base start (refused 1 start)))
    (read_from (end - start) buf start end base)

-- the answer, never zeroed: the number accepted, the place reached and the refusal there
unfoldable pub read_recording : List ℕ → ℕ → ℕ → ℕ → Recording
read_recording buf start end base =
    record {
      accepted = length (reading buf start end base).packets;
      reached = (reading buf start end base).reached;
      recording_reached = (reading buf start end base).recording_reached;
      refusal = (reading buf start end base).refusal;
    }
