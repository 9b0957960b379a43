-- How a call may end (demand 1): with what was asked for and no refusal, or with one refusal and nothing else.
use Rattle.std.specs.Prelude.{◌≡◌, List, ◌⊎◌, ◌≢◌, ℕ, ◌+◌}
use Rattle.terms.specs.declared.Refusal.{Refusal}
use Rattle.body.specs.declared.Message.{Message}
use Rattle.packet.specs.Read.{PacketTold}
use Rattle.terms.specs.Refusals.{no_refusal}
use Rattle.packet.specs.Messages.{ListTold, MessageTold}
use Rattle.packet.specs.Write.{WriteTold}
use Rattle.packet.specs.declared.Part.{Part}
use Rattle.packet.specs.declared.Packet.{Packet}
use Rattle.promises.specs.Refusals.{OneOf}
use Rattle.promises.specs.Bodies.{BodyAtFault}
use Rattle.promises.specs.Keeps.{flags, type, body, body_bytes}

-- ---- "all other results are zero", field by field

abbrev pub zero_part : Part
zero_part = record { at = 0; length = 0 }

abbrev pub zero_packet : Packet
zero_packet =
    record {
      fields = record { channel = 0; version = 0; sequence = 0; flags = 0; kind = 0; rtc = 0; time = 0 };
      length = 0;
      data_length = 0;
      header_sum = 0;
      data_sum = 0;
      recording_place = 0;
      header = zero_part;
      secondary = zero_part;
      body = zero_part;
      filler = zero_part;
      sum = zero_part;
    }

abbrev pub zero_message : Message
zero_message = record { time = 0; id = 0; start = 0; length = 0 }

-- ---- the two ways to end

-- a refusal of the table's, one of these
abbrev pub FromTable : List ℕ → Refusal → Type 0
FromTable numbers r = OneOf r.number numbers

-- what is told is some value and no refusal, or the value `zeros` and a refusal of the table's
abbrev pub Ends : {Value Telling : Type 0} → List ℕ → (Refusal → Value → Telling) → Value → Telling → Type 0
Ends {Value} {Telling} numbers tell zeros t =
    ((v : Value) × (t ≡ tell no_refusal v)) ⊎ ((r : Refusal) × (t ≡ tell r zeros) × FromTable numbers r)

-- a refusal and a value, as each call tells them
abbrev pub read_told : Refusal → Packet → PacketTold
read_told r p = record { refusal = r; packet = p }

abbrev pub listed_told : Refusal → ℕ → ListTold
listed_told r n = record { refusal = r; count = n }

abbrev pub given_told : Refusal → Message → MessageTold
given_told r m = record { refusal = r; message = m }

abbrev pub written_told : Refusal → ℕ → WriteTold
written_told r n = record { refusal = r; length = n }

-- ---- places

-- a place in the buffer and a place in the recording (document 02 §9): a base that the caller gives, plus the distance from the window's start
abbrev pub AsFar : ℕ → ℕ → ℕ → ℕ → Type 0
AsFar start base place recording_place = (distance : ℕ) × (place ≡ start + distance) × (recording_place ≡ base + distance)

-- a refusal of this number at these two places, without room and reason
abbrev pub refused_there : ℕ → ℕ → ℕ → Refusal
refused_there number place recording_place =
    record { number = number; place = place; room = 0; reason = 0; recording_place = recording_place }

-- where the reader's refusals of a packet at the start of a window are placed, and their reasons; w: the window's bytes. 15 where the packet's body is
-- at fault, for the rule broken there; all others at the packet's start, with reason 0; none gives room; the place in the recording is as far from the base
pub record Placed (w : List ℕ) (start base : ℕ) (r : Refusal) : Type 0 where
  pub room : r.room ≡ 0
  pub outer : r.number ≢ 15 → (r.place ≡ start) × (r.reason ≡ 0)
  pub inner : r.number ≡ 15 → (at : ℕ) × (r.place ≡ start + body w + at) × BodyAtFault (type w) (flags w) (body_bytes w) at r.reason
  pub recorded : AsFar start base r.place r.recording_place
