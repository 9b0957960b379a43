-- The primary header, 24 bytes, little-endian (11.2.1.1), what its flags say, and where the parts of a packet stand.
-- w: the bytes from the packet's first on; places are counted from it.
use Rattle.std.specs.Prelude.{List, [], ◌∷◌, ℕ, ◌+◌, ◌*◌, ◌-◌, ◌/◌, ◌%◌, get_or}
use Rattle.units.specs.Units.{part, field}
use Rattle.frame.specs.Sums.{sum_width}
use Rattle.frame.specs.declared.Fields.{Fields}

-- ---- its fields

abbrev pub byte : List ℕ → ℕ → ℕ
byte w at = get_or w at 0

-- byte 0: sync, the bytes 25 EB in that order
abbrev pub sync : List ℕ
sync = 0x25 ∷ 0xEB ∷ []

-- byte 2: channel, 2 bytes
abbrev pub channel_in : List ℕ → ℕ
channel_in w = field w 2 2

-- byte 4: packet length P, 4 bytes
abbrev pub packet_length : List ℕ → ℕ
packet_length w = field w 4 4

-- byte 8: data length D, 4 bytes
abbrev pub data_length : List ℕ → ℕ
data_length w = field w 8 4

-- bytes 12, 13, 14, 15: data type version, sequence number, flags, data type
abbrev pub version_in : List ℕ → ℕ
version_in w = byte w 12

abbrev pub sequence_in : List ℕ → ℕ
sequence_in w = byte w 13

abbrev pub flags_in : List ℕ → ℕ
flags_in w = byte w 14

abbrev pub kind_in : List ℕ → ℕ
kind_in w = byte w 15

-- byte 16: relative time counter (RTC), 6 bytes
abbrev pub rtc_in : List ℕ → ℕ
rtc_in w = field w 16 6

-- byte 22: header sum, 2 bytes
abbrev pub header_sum_in : List ℕ → ℕ
header_sum_in w = field w 22 2

-- ---- its flags

-- bit 7: 1 if a secondary header is present
abbrev pub secondary_bit : ℕ → ℕ
secondary_bit f = f / 128 % 2

-- bit 6: 1 if message times are absolute
abbrev pub absolute_bit : ℕ → ℕ
absolute_bit f = f / 64 % 2

-- bits 3-2: time format, 0 Chapter 4, 1 IEEE 1588, 2 extended counter, 3 reserved
abbrev pub time_format : ℕ → ℕ
time_format f = f / 4 % 4

-- bits 1-0: data sum, 0 none, 1 8 bits, 2 16 bits, 3 32 bits
abbrev pub sum_code : ℕ → ℕ
sum_code f = f % 4

-- the data sum's width in bytes
abbrev pub sum_length : ℕ → ℕ
sum_length f = sum_width (sum_code f)

-- ---- the parts of a packet: header, secondary header, body, filler and sum, one behind the other

-- 12 if bit 7 is set
abbrev pub secondary_length : ℕ → ℕ
secondary_length f = 12 * secondary_bit f

abbrev pub body_at : ℕ → ℕ
body_at f = 24 + secondary_length f

-- P's parts without the filler: 24, plus 12 if bit 7 is set, plus D, plus the sum's width
abbrev pub unfilled_length : ℕ → ℕ → ℕ
unfilled_length f d = body_at f + d + sum_length f

-- filler is the 0 to 3 bytes that make P a multiple of 4
abbrev pub filler_for : ℕ → ℕ → ℕ
filler_for f d = (4 - unfilled_length f d % 4) % 4

-- P of a packet with these flags and D
abbrev pub length_for : ℕ → ℕ → ℕ
length_for f d = unfilled_length f d + filler_for f d

abbrev pub filler_at : List ℕ → ℕ
filler_at w = body_at (flags_in w) + data_length w

-- the sum fills the last bytes of the packet
abbrev pub sum_at : List ℕ → ℕ
sum_at w = packet_length w - sum_length (flags_in w)

-- filler is what P leaves
abbrev pub filler_length : List ℕ → ℕ
filler_length w = sum_at w - filler_at w

-- the secondary header, empty where there is none
abbrev pub secondary_in : List ℕ → List ℕ
secondary_in w = part w 24 (secondary_length (flags_in w))

abbrev pub body_in : List ℕ → List ℕ
body_in w = part w (body_at (flags_in w)) (data_length w)

abbrev pub filler_in : List ℕ → List ℕ
filler_in w = part w (filler_at w) (filler_length w)

-- body and filler, which the data sum adds
abbrev pub body_and_filler_in : List ℕ → List ℕ
body_and_filler_in w = part w (body_at (flags_in w)) (sum_at w - body_at (flags_in w))

-- the data sum as stored, 0 if absent
abbrev pub data_sum_in : List ℕ → ℕ
data_sum_in w = field w (sum_at w) (sum_length (flags_in w))

-- ---- the secondary header, 12 bytes: low long word of the time, high long word, 2 reserved bytes, sum

-- the time, 0 if absent
abbrev pub time_in : List ℕ → ℕ
time_in w = field (secondary_in w) 0 8

abbrev pub reserved_in : List ℕ → ℕ
reserved_in w = field (secondary_in w) 8 2

-- what a writer is told but for the body, and a reader tells: the header's numbers that are not worked out, and the secondary time
unfoldable pub fields_in : List ℕ → Fields
fields_in w =
    record {
      channel = channel_in w;
      version = version_in w;
      sequence = sequence_in w;
      flags = flags_in w;
      kind = kind_in w;
      rtc = rtc_in w;
      time = time_in w;
    }
