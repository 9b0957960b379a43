-- The rules of document 01, 1 with document 02 §9's cause, one by one and in their words, that a packet at the start of a window keeps (demand 2). Numbers are those of its
-- table of refusals. No test of the reader's is cited: that the reader's tests say the same is proved in proofs/Keeping.antt.
use Rattle.std.specs.Prelude.{◌≡◌, List, [], ◌∷◌, ℕ, ◌+◌, ◌-◌, ◌*◌, ◌/◌, ◌%◌, ◌^◌, ◌≤◌, ◌<◌, length, take, drop}
use Rattle.units.specs.Units.{part, field, sum_units}
use Rattle.frame.specs.Header.{byte}
use Rattle.promises.specs.Refusals.{OneOf, reader_refusals}
use Rattle.promises.specs.Numbers.{bit7, format, width, VersionKept, TypeKept, FlagsKept, ChannelKept, LengthsKept, InFormat}
use Rattle.promises.specs.Bodies.{MessagesKept}

-- ---- what the rules speak of (11.2.1.1), in a window's bytes w

abbrev pub P : List ℕ → ℕ
P w = field w 4 4

abbrev pub D : List ℕ → ℕ
D w = field w 8 4

abbrev pub flags : List ℕ → ℕ
flags w = byte w 14

abbrev pub type : List ℕ → ℕ
type w = byte w 15

-- where the body begins, and its bytes
abbrev pub body : List ℕ → ℕ
body w = 24 + 12 * bit7 (flags w)

abbrev pub body_bytes : List ℕ → List ℕ
body_bytes w = part w (body w) (D w)

-- the sum fills the last bytes of the packet
abbrev pub sum_place : List ℕ → ℕ
sum_place w = P w - width (flags w)

-- the secondary time: low long word, high long word; high × 2^32 + low
abbrev pub time : List ℕ → ℕ
time w = field w 24 4 + 2 ^ 32 * field w 28 4

-- ---- the rules

-- rule n of the table, of a packet at the start of a window; w is given as the window's bytes, window buf start end
pub data Rule (buf : List ℕ) (start end base : ℕ) (w : List ℕ) : ℕ → Type 0 where
  -- 1: a start and a filled end, with start ≤ end ≤ buffer length; base plus window length does not pass 2^64 - 1
  within : start ≤ end → end ≤ length buf → base + (end - start) ≤ 2 ^ 64 - 1 → Rule buf start end base w 1
  -- 2: 24 bytes in the window
  enough : 24 ≤ length w → Rule buf start end base w 2
  -- 3: the sync bytes are 25 EB in that order
  synced : take 2 w ≡ 0x25 ∷ 0xEB ∷ [] → Rule buf start end base w 3
  -- 4: the header sum is the sum of the eleven 16-bit words ahead of it, modulo 65,536
  header_sum : field w 22 2 ≡ sum_units 2 11 w % 65536 → Rule buf start end base w 4
  -- 5 to 9: version, type, flags, channel, lengths
  version : VersionKept (byte w 12) → Rule buf start end base w 5
  defined : TypeKept (type w) → Rule buf start end base w 6
  flagged : FlagsKept (flags w) → Rule buf start end base w 7
  channel : ChannelKept (field w 2 2) (type w) → Rule buf start end base w 8
  lengths : LengthsKept (type w) (flags w) (P w) (D w) → Rule buf start end base w 9
  -- 10: P is within the window
  whole : P w ≤ length w → Rule buf start end base w 10
  -- 11: the secondary header's last 2 bytes are the sum of the five 16-bit words before it, modulo 65,536
  secondary_sum : (bit7 (flags w) ≡ 1 → field w 34 2 ≡ sum_units 2 5 (drop 24 w) % 65536) → Rule buf start end base w 11
  -- 12: its 2 reserved bytes are zero, and its time is in form
  secondary : (bit7 (flags w) ≡ 1 → field w 32 2 ≡ 0) → (bit7 (flags w) ≡ 1 → InFormat (format (flags w)) (time w)) → Rule buf start end base w 12
  -- 13: the last bytes of the packet, if it has a sum, are that of body and filler in units of its own width, counted from the body's first
  -- byte, modulo 2 to that width
  data_sum : (0 < width (flags w)
      → field w (sum_place w) (width (flags w))
      ≡ sum_units (width (flags w)) ((sum_place w - body w) / width (flags w)) (drop (body w) w) % 256 ^ width (flags w))
      → Rule buf start end base w 13
  -- 14: filler bytes, from behind the body to the sum, are zero
  filler : ((i : ℕ) → body w + D w ≤ i → i < sum_place w → byte w i ≡ 0) → Rule buf start end base w 14
  -- 15: the body's layout
  messages : MessagesKept (type w) (flags w) (body_bytes w) → Rule buf start end base w 15

-- every rule is kept
abbrev pub Keeps : List ℕ → ℕ → ℕ → ℕ → List ℕ → Type 0
Keeps buf start end base w = (n : ℕ) → OneOf n reader_refusals → Rule buf start end base w n
