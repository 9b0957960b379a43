-- Reading ahead, and recordings of any size (up to 2^64 - 1 bytes): the same recording filled further, or read window by window. Said of the public
-- calls' answers and of what a recording hands out (Handed); proved in proofs/Ahead.antt (ahead).
use Rattle.std.specs.Prelude.{◌≡◌, List, [], ◌∷◌, ◌++◌, map, ◌⊎◌, ◌≢◌, ◌↔◌, ℕ, zero, suc, ◌+◌, ◌-◌, ◌≤◌, ◌<◌, length, take}
use Rattle.units.specs.Units.{part}
use Rattle.terms.specs.declared.Refusal.{Refusal}
use Rattle.packet.specs.Read.{window, read_packet, packet_told}
use Rattle.packet.specs.declared.Part.{Part}
use Rattle.packet.specs.declared.Packet.{Packet}
use Rattle.recording.specs.Reading.{read_recording}
use Rattle.recording.specs.declared.Recording.{Recording}
use Rattle.promises.specs.Refusals.{OneOf}
use Rattle.promises.specs.Keeps.{P}
use Rattle.promises.specs.Handed.{Within, HandsOut}

-- ---- a longer fill

-- two windows with the same start and base, the second filled further, and equal bytes as far as the first goes
pub record Further (a b : List ℕ) (start end end' base : ℕ) : Type 0 where
  pub first : Within a start end base
  pub second : Within b start end' base
  pub longer : end ≤ end'
  pub same : window a start end ≡ window b start end

-- what may wait for a longer fill: the exact end (no refusal), 2 and 10
abbrev pub waiting : List ℕ
waiting = 0 ∷ 2 ∷ 10 ∷ []

abbrev pub Waits : Recording → Type 0
Waits r = OneOf r.refusal.number waiting

-- a packet's bytes, in the buffer that it was read from
abbrev pub bytes_in : List ℕ → Packet → List ℕ
bytes_in buf p = part buf p.header.at p.length

-- ---- what is told of a recording, wherever its bytes stand in a buffer

-- a part, its place counted from where its packet stands in the recording
abbrev pub part_in : Packet → Part → Part
part_in p x = record { at = p.recording_place + (x.at - p.header.at); length = x.length }

-- a packet with its parts' places in the recording
abbrev pub in_recording : Packet → Packet
in_recording p =
    record {
      fields = p.fields;
      length = p.length;
      data_length = p.data_length;
      header_sum = p.header_sum;
      data_sum = p.data_sum;
      recording_place = p.recording_place;
      header = part_in p p.header;
      secondary = part_in p p.secondary;
      body = part_in p p.body;
      filler = part_in p p.filler;
      sum = part_in p p.sum;
    }

-- a refusal by its place in the recording
abbrev pub refused_in : Refusal → Refusal
refused_in r =
    record { number = r.number; place = r.recording_place; room = r.room; reason = r.reason; recording_place = r.recording_place }

-- such a packet and its bytes
pub record Seen : Type 0 where
  pub packet : Packet
  pub bytes : List ℕ

abbrev pub seen : List ℕ → Packet → Seen
seen buf p = record { packet = in_recording p; bytes = bytes_in buf p }

-- two readings tell the same of the recording: packets, the place reached, and the refusal there
pub record SameTold (ps qs : List Seen) (r r' : Recording) : Type 0 where
  pub packets : ps ≡ qs
  pub recorded : r.recording_reached ≡ r'.recording_reached
  pub refusal : refused_in r.refusal ≡ refused_in r'.refusal

-- ---- a recording in pieces. The recording is one list of bytes, `whole` from start to end, with this base; nobody need hold it

-- a window on it, in a buffer of its own
pub record Piece (whole : List ℕ) (start end base : ℕ) : Type 0 where
  -- how far it begins behind the recording's start; its base is moved on as far
  pub distance : ℕ
  pub buf : List ℕ
  pub from : ℕ
  pub to : ℕ
  pub within : Within buf from to (base + distance)
  -- it does not go past the recording's end, and holds the bytes that stand there
  pub fits : start + distance + (to - from) ≤ end
  pub same : window buf from to ≡ part whole (start + distance) (to - from)
  -- what it hands out
  pub packets : List Packet
  pub handed : HandsOut buf from to (base + distance) (read_recording buf from to (base + distance)) packets

module _ {whole : List ℕ} {start end base : ℕ} where
  abbrev pub answer : Piece whole start end base → Recording
  answer x = read_recording x.buf x.from x.to (base + x.distance)

  -- it holds the whole rest: its end is the recording's
  abbrev pub HoldsRest : Piece whole start end base → Type 0
  HoldsRest x = start + x.distance + (x.to - x.from) ≡ end

  -- the reading ends with it: its end is the recording's, or it stops with what can't wait
  abbrev pub Last : Piece whole start end base → Type 0
  Last x = HoldsRest x ⊎ (¬ Waits (answer x))

  -- the packets of so many windows, one behind the other, and their number
  unfoldable pub seen_in : (ℕ → Piece whole start end base) → ℕ → List Seen
  seen_in piece zero = []
  seen_in piece (suc n) = seen_in piece n ++ map (seen (piece n).buf) (piece n).packets

  unfoldable pub accepted_in : (ℕ → Piece whole start end base) → ℕ → ℕ
  accepted_in piece zero = 0
  accepted_in piece (suc n) = accepted_in piece n + (answer (piece n)).accepted

  -- the first window begins at the recording's start, and each of the next n at the place where the one before stopped
  pub record InTurn (piece : ℕ → Piece whole start end base) (n : ℕ) : Type 0 where
    pub first : (piece 0).distance ≡ 0
    pub next : (i : ℕ) → i < n → base + (piece (suc i)).distance ≡ (answer (piece i)).recording_reached

  -- windows without end, which go on so until one is the last
  pub record Onward (piece : ℕ → Piece whole start end base) : Type 0 where
    pub first : (piece 0).distance ≡ 0
    pub next : (i : ℕ) → ¬ Last (piece i) → base + (piece (suc i)).distance ≡ (answer (piece i)).recording_reached

  -- the reading ends with some window n
  abbrev pub Ends : (ℕ → Piece whole start end base) → Type 0
  Ends piece = (n : ℕ) × InTurn piece n × Last (piece n)

pub record Ahead : Type 0 where
  -- "A longer fill never takes back what was handed out": the packets that the first hands out are the first ones that the second hands out, in the
  -- same places, byte for byte
  pub kept : (a b : List ℕ) (start end end' base : ℕ) → Further a b start end end' base → (ps qs : List Packet)
      → HandsOut a start end base (read_recording a start end base) ps → HandsOut b start end' base (read_recording b start end' base) qs
      → (take (length ps) qs ≡ ps) × (map (bytes_in a) ps ≡ map (bytes_in b) ps)
  -- "Only 2, 10 and the exact end can wait": if the first stops with any other refusal, the second stops there with the same one; the whole answer is
  -- the same, and so, by `kept`, are the packets
  pub decided : (a b : List ℕ) (start end end' base : ℕ) → Further a b start end end' base → ¬ Waits (read_recording a start end base)
      → read_recording b start end' base ≡ read_recording a start end base
  -- of one packet: whether it is accepted or refused, it stays so
  pub read_decided : (a b : List ℕ) (start end end' base : ℕ) → Further a b start end end' base
      → (packet_told (read_packet a start end base)).refusal.number ≢ 2 → (packet_told (read_packet a start end base)).refusal.number ≢ 10
      → read_packet b start end' base ≡ read_packet a start end base
  -- "If it stops with 2, 10 or at its exact end, nothing is decided there yet, and nothing before it changes": whatever it stops with, the second's answer
  -- is the first's and then what is read from the place reached on, and so are its packets. What comes there may be a packet or another refusal: Examples
  pub goes_on : (a b : List ℕ) (start end end' base : ℕ) → Further a b start end end' base → (r r' : Recording) → r ≡ read_recording a start end base
      → r' ≡ read_recording b r.reached end' r.recording_reached
      → read_recording b start end' base
      ≡ record { accepted = r.accepted + r'.accepted; reached = r'.reached; recording_reached = r'.recording_reached; refusal = r'.refusal }
  pub goes_on_handed : (a b : List ℕ) (start end end' base : ℕ) → Further a b start end end' base → (r r' : Recording) → r ≡ read_recording a start end base
      → r' ≡ read_recording b r.reached end' r.recording_reached → (ps ps' qs : List Packet) → HandsOut a start end base r ps
      → HandsOut b r.reached end' r.recording_reached r' ps' → HandsOut b start end' base (read_recording b start end' base) qs → qs ≡ ps ++ ps'
  -- how long it waits: with 2 until 24 bytes are there
  pub waits_for_header : (buf : List ℕ) (start end base : ℕ) → Within buf start end base
      → ((packet_told (read_packet buf start end base)).refusal.number ≡ 2) ↔ (end < start + 24)
  -- with 10 until P bytes are, which are 134,217,728 at most; and what the header is tested for, 3 to 9, is decided
  pub waits_for_packet : (a b : List ℕ) (start end end' base : ℕ) → Further a b start end end' base → (packet_told (read_packet a start end base)).refusal.number ≡ 10
      → (P (window a start end) ≤ 134217728)
      × (((packet_told (read_packet b start end' base)).refusal.number ≡ 10) ↔ (end' < start + P (window a start end)))
      × OneOf (packet_told (read_packet b start end' base)).refusal.number (0 ∷ 10 ∷ 11 ∷ 12 ∷ 13 ∷ 14 ∷ 15 ∷ [])
  pub long_enough : (buf : List ℕ) (start end base : ℕ) → start + 134217728 ≤ end
      → ((packet_told (read_packet buf start end base)).refusal.number ≢ 2) × ((packet_told (read_packet buf start end base)).refusal.number ≢ 10)
  -- where in a buffer a window stands has no say in what is told of the recording: of one packet, and of all
  pub read_elsewhere : (a b : List ℕ) (start end start' end' base : ℕ) → Within a start end base → Within b start' end' base
      → window a start end ≡ window b start' end'
      → (refused_in (packet_told (read_packet a start end base)).refusal ≡ refused_in (packet_told (read_packet b start' end' base)).refusal)
      × (in_recording (packet_told (read_packet a start end base)).packet ≡ in_recording (packet_told (read_packet b start' end' base)).packet)
  pub elsewhere : (a b : List ℕ) (start end start' end' base : ℕ) → Within a start end base → Within b start' end' base
      → window a start end ≡ window b start' end' → (ps qs : List Packet)
      → HandsOut a start end base (read_recording a start end base) ps → HandsOut b start' end' base (read_recording b start' end' base) qs
      → SameTold (map (seen a) ps) (map (seen b) qs) (read_recording a start end base) (read_recording b start' end' base)
  -- a window that is read packet by packet is read as by one call
  pub one_by_one : (buf : List ℕ) (start end base : ℕ) (r : Recording) (ps : List Packet) → HandsOut buf start end base r ps → r ≡ read_recording buf start end base
  -- "In pieces is as in one": the packets of all pieces, one behind the other, and the last refusal, with their recording places, are those of one reading
  -- of the whole. The pieces may be any that begin so, whatever each stops with
  pub in_one : (whole : List ℕ) (start end base : ℕ) → Within whole start end base → (piece : ℕ → Piece whole start end base) (n : ℕ) → InTurn piece n
      → Last (piece n) → (qs : List Packet) → HandsOut whole start end base (read_recording whole start end base) qs
      → SameTold (seen_in piece (suc n)) (map (seen whole) qs) (answer (piece n)) (read_recording whole start end base)
      × (accepted_in piece (suc n) ≡ (read_recording whole start end base).accepted)
  -- and so far as they go, they are its first ones
  pub so_far : (whole : List ℕ) (start end base : ℕ) → Within whole start end base → (piece : ℕ → Piece whole start end base) (n : ℕ) → InTurn piece n
      → (qs : List Packet) → HandsOut whole start end base (read_recording whole start end base) qs
      → take (length (seen_in piece (suc n))) (map (seen whole) qs) ≡ seen_in piece (suc n)
  -- "As long as each window either holds the whole rest or stops behind at least one packet, the reading ends." It is enough that this is so again and
  -- again, and so it is if a window that accepts no packet is followed by a longer one, or has the longest packet's length
  pub ends : (whole : List ℕ) (start end base : ℕ) → Within whole start end base → (piece : ℕ → Piece whole start end base) → Onward piece
      → ((i : ℕ) → (j : ℕ) × (i ≤ j) × (Last (piece j) ⊎ (1 ≤ (answer (piece j)).accepted)))
      → Ends piece
  pub grows : (whole : List ℕ) (start end base : ℕ) → Within whole start end base → (piece : ℕ → Piece whole start end base) → Onward piece
      → ((i : ℕ) → ¬ Last (piece i) → (answer (piece i)).accepted ≡ 0 → (piece i).to - (piece i).from < (piece (suc i)).to - (piece (suc i)).from)
      → Ends piece
  pub moves_on : (whole : List ℕ) (start end base : ℕ) (x : Piece whole start end base) → x.from + 134217728 ≤ x.to → Last x ⊎ (1 ≤ (answer x).accepted)
