-- Places in the recording (document 02 §9), sentence by sentence; proved in proofs/Places.antt (places). That the rest of a refusal or a packet is as
-- without a base: its number Document01.read_first, its place and reason Demand1.read_placed, its fields and parts Demand2.packet_there.
use Rattle.std.specs.Prelude.{◌≡◌, List, [], ◌∷◌, ◌≢◌, ℕ, ◌+◌, ◌<◌, length, take, get_or}
use Rattle.terms.specs.declared.Refusal.{Refusal}
use Rattle.terms.specs.Refusals.{no_refusal}
use Rattle.frame.specs.Contents.{Contents}
use Rattle.packet.specs.Read.{window, read_packet, no_packet, PacketTold, packet_told}
use Rattle.packet.specs.Messages.{list_packet, starts, lengths, message_packet, list_told, entries, message_told}
use Rattle.packet.specs.Write.{write_packet, write_told}
use Rattle.packet.specs.declared.Packet.{Packet}
use Rattle.recording.specs.Reading.{read_recording}
use Rattle.recording.specs.declared.Recording.{Recording}
use Rattle.promises.specs.Endings.{zero_packet, zero_message, AsFar, refused_there, read_told, listed_told, given_told}
use Rattle.promises.specs.Handed.{length_of, Within, HandsOut}

-- a refusal, if there is one, stands in the recording as far from the base as in the buffer from the window's start
abbrev pub Recorded : ℕ → ℕ → Refusal → Type 0
Recorded start base r = r.number ≢ 0 → AsFar start base r.place r.recording_place

-- ---- two answers that differ in their places in the recording alone, by the difference of their bases

-- without their places in the recording
abbrev pub elsewhere : Refusal → Refusal
elsewhere r = record { number = r.number; place = r.place; room = r.room; reason = r.reason; recording_place = 0 }

abbrev pub packet_elsewhere : Packet → Packet
packet_elsewhere p =
    record {
      fields = p.fields;
      length = p.length;
      data_length = p.data_length;
      header_sum = p.header_sum;
      data_sum = p.data_sum;
      recording_place = 0;
      header = p.header;
      secondary = p.secondary;
      body = p.body;
      filler = p.filler;
      sum = p.sum;
    }

-- two places that are as far apart as the bases: the differences of places and of bases are one, with all on the side where it is added
abbrev pub Apart : ℕ → ℕ → ℕ → ℕ → Type 0
Apart base base' place place' = place + base' ≡ place' + base

-- refusals; where there is none, they are the same
pub record RefusalApart (base base' : ℕ) (r r' : Refusal) : Type 0 where
  pub alone : elsewhere r ≡ elsewhere r'
  pub apart : r.number ≢ 0 → Apart base base' r.recording_place r'.recording_place
  pub none : r.number ≡ 0 → r ≡ r'

pub record PacketApart (base base' : ℕ) (p p' : Packet) : Type 0 where
  pub alone : packet_elsewhere p ≡ packet_elsewhere p'
  pub apart : Apart base base' p.recording_place p'.recording_place

-- what is told of a packet; where it is refused, the zeros are the same
pub record ToldApart (base base' : ℕ) (t t' : PacketTold) : Type 0 where
  pub refusal : RefusalApart base base' t.refusal t'.refusal
  pub accepted : t.refusal.number ≡ 0 → PacketApart base base' t.packet t'.packet
  pub refused : t.refusal.number ≢ 0 → t.packet ≡ t'.packet

-- packets, one by one
pub data PacketsApart (base base' : ℕ) : List Packet → List Packet → Type 0 where
  none : PacketsApart base base' [] []
  next : {p p' : Packet} {ps ps' : List Packet} → PacketApart base base' p p' → PacketsApart base base' ps ps' → PacketsApart base base' (p ∷ ps) (p' ∷ ps')

-- the four calls, of two buffers with these bases
pub record AnswersApart (a b : List ℕ) (start end base base' : ℕ) : Type 0 where
  pub read : ToldApart base base' (packet_told (read_packet a start end base)) (packet_told (read_packet b start end base'))
  pub list : (len₁ len₂ : ℕ)
      → RefusalApart base base' (list_told (list_packet a start end base len₁ len₂)).refusal (list_told (list_packet b start end base' len₁ len₂)).refusal
      × ((list_told (list_packet a start end base len₁ len₂)).count ≡ (list_told (list_packet b start end base' len₁ len₂)).count)
  -- the lists' entries too, whatever they held before
  pub starts_told : (len₁ len₂ : ℕ) (old old' : List ℕ)
      → entries (list_packet a start end base len₁ len₂) (starts (window a start end)) old
      ≡ entries (list_packet b start end base' len₁ len₂) (starts (window b start end)) old'
  pub lengths_told : (len₁ len₂ : ℕ) (old old' : List ℕ)
      → entries (list_packet a start end base len₁ len₂) (lengths (window a start end)) old
      ≡ entries (list_packet b start end base' len₁ len₂) (lengths (window b start end)) old'
  pub message : (number : ℕ)
      → RefusalApart base base' (message_told (message_packet a start end base number)).refusal (message_told (message_packet b start end base' number)).refusal
      × ((message_told (message_packet a start end base number)).message ≡ (message_told (message_packet b start end base' number)).message)
  pub recording : RefusalApart base base' (read_recording a start end base).refusal (read_recording b start end base').refusal
  pub accepted : (read_recording a start end base).accepted ≡ (read_recording b start end base').accepted
  pub reached : (read_recording a start end base).reached ≡ (read_recording b start end base').reached
  pub recording_reached : Apart base base' (read_recording a start end base).recording_reached (read_recording b start end base').recording_reached
  pub handed : (ps qs : List Packet) → HandsOut a start end base (read_recording a start end base) ps
      → HandsOut b start end base' (read_recording b start end base') qs → PacketsApart base base' ps qs

pub record Places : Type 0 where
  -- "Each packet's record and each refusal now carries a 64-bit place in the recording: a base that the caller gives, plus the distance from the
  -- window's start."

  -- a packet stands at the window's start: its place is the base
  pub packet_recorded : (buf : List ℕ) (start end base : ℕ) (p : Packet) → packet_told (read_packet buf start end base) ≡ read_told no_refusal p
      → (p.header.at ≡ start) × (p.recording_place ≡ base)
  -- one that is handed out, as far behind it as the packets before it are long
  pub handed_recorded : (buf : List ℕ) (start end base : ℕ) (r : Recording) (ps : List Packet) → HandsOut buf start end base r ps → (i : ℕ) → i < length ps
      → ((get_or ps i no_packet).header.at ≡ start + length_of (take i ps)) × ((get_or ps i no_packet).recording_place ≡ base + length_of (take i ps))
  -- refusals of the four calls that take a window
  pub read_recorded : (buf : List ℕ) (start end base : ℕ) → Recorded start base (packet_told (read_packet buf start end base)).refusal
  pub list_recorded : (buf : List ℕ) (start end base len₁ len₂ : ℕ) → Recorded start base (list_told (list_packet buf start end base len₁ len₂)).refusal
  pub message_recorded : (buf : List ℕ) (start end base number : ℕ) → Recorded start base (message_told (message_packet buf start end base number)).refusal
  pub recording_recorded : (buf : List ℕ) (start end base : ℕ) → Recorded start base (read_recording buf start end base).refusal
  -- and the place that a recording reached
  pub reached_recorded : (buf : List ℕ) (start end base : ℕ)
      → AsFar start base (read_recording buf start end base).reached (read_recording buf start end base).recording_reached
  -- the writer is given no base; nor is the builder (Building)
  pub write_unrecorded : (c : Contents) (room : ℕ) → (write_told (write_packet c room)).refusal.recording_place ≡ 0
  -- "Refusals: 1 also where base plus window length would pass 2^64 - 1, tested together with 1's other causes." The recording: Demand1.recording_outside
  pub read_outside : (buf : List ℕ) (start end base : ℕ) → ¬ Within buf start end base
      → packet_told (read_packet buf start end base) ≡ read_told (refused_there 1 start base) zero_packet
  pub list_outside : (buf : List ℕ) (start end base len₁ len₂ : ℕ) → ¬ Within buf start end base
      → list_told (list_packet buf start end base len₁ len₂) ≡ listed_told (refused_there 1 start base) 0
  pub message_outside : (buf : List ℕ) (start end base number : ℕ) → ¬ Within buf start end base
      → message_told (message_packet buf start end base number) ≡ given_told (refused_there 1 start base) zero_message
  -- and nowhere else
  pub read_within : (buf : List ℕ) (start end base : ℕ) → Within buf start end base → (packet_told (read_packet buf start end base)).refusal.number ≢ 1
  pub list_within : (buf : List ℕ) (start end base : ℕ) → Within buf start end base → (len₁ len₂ : ℕ)
      → (list_told (list_packet buf start end base len₁ len₂)).refusal.number ≢ 1
  pub message_within : (buf : List ℕ) (start end base : ℕ) → Within buf start end base → (number : ℕ)
      → (message_told (message_packet buf start end base number)).refusal.number ≢ 1
  pub recording_within : (buf : List ℕ) (start end base : ℕ) → Within buf start end base → (read_recording buf start end base).refusal.number ≢ 1
  -- "Demand 1's equal answers now also need equal bases" (Demand1.nothing_outside): with other bases, neither of them refused, answers about equal
  -- windows differ in the places in the recording alone, by the difference of the bases
  pub other_bases : (a b : List ℕ) (start end base base' : ℕ) → Within a start end base → Within b start end base'
      → window a start end ≡ window b start end → AnswersApart a b start end base base'
