-- The starred cases of document 01, "Both sides of the line", over a single list; and below them what the examples are about (proofs/Examples.antt).
use Rattle.std.specs.Prelude.{◌≡◌, List, [], ◌∷◌, ◌++◌, ℕ, ◌+◌, ◌*◌, ◌^◌, set, replicate, Result}
use Rattle.units.specs.Units.{splice, field, bytes_of}
use Rattle.terms.specs.Refusals.{refused, no_refusal}
use Rattle.body.specs.Blocks.{block_bytes}
use Rattle.builder.specs.Build.{form_of, fresh_draft, open_step, open_word, add_step, entry_of, buf_after, step_told}
use Rattle.packet.specs.Read.{part_at, read_packet, PacketTold, packet_told}
use Rattle.frame.specs.Contents.{Contents}
use Rattle.packet_bytes.specs.Bytes.{packet_bytes}
use Rattle.packet.specs.Write.{write_packet, WriteTold, write_told}
use Rattle.promises.specs.Contents.{written}
use Rattle.promises.specs.Endings.{zero_packet, refused_there}
use Rattle.builder.specs.declared.Draft.{Draft}
use Rattle.terms.specs.declared.Refusal.{Refusal}

-- a case: a window and its base, and what the reader tells; contents, an output of `room` bytes, and what the writer tells; or bytes and the sum in
-- their secondary header
pub data Case : Type 0 where
  reads : List ℕ → ℕ → ℕ → ℕ → PacketTold → Case
  writes : Contents → ℕ → WriteTold → Case
  secondary_sum : List ℕ → ℕ → Case

abbrev pub Right : Case → Type 0
Right (reads buf start end base t) = packet_told (read_packet buf start end base) ≡ t
Right (writes c room t) = write_told (write_packet c room) ≡ t
Right (secondary_sum bytes sum) = field bytes 34 2 ≡ sum

abbrev pub AllRight : List Case → Type 0
AllRight [] = Unit {0}
AllRight (x ∷ xs) = Right x × AllRight xs

-- ---- case L

unfoldable pub L : List ℕ
L =
    0x25 ∷ 0xEB ∷ 0x01 ∷ 0x00 ∷ 0x28 ∷ 0x00 ∷ 0x00 ∷ 0x00 ∷ 0x0C ∷ 0x00 ∷ 0x00 ∷ 0x00 ∷ 0x06 ∷ 0x00 ∷ 0x02 ∷ 0x50 ∷ 0x01 ∷ 0x00 ∷ 0x00 ∷ 0x00
    ∷ 0x00 ∷ 0x00 ∷ 0x63 ∷ 0x3B ∷ 0x00 ∷ 0x00 ∷ 0x00 ∷ 0x00 ∷ 0x03 ∷ 0x00 ∷ 0x00 ∷ 0x00 ∷ 0x41 ∷ 0x42 ∷ 0x43 ∷ 0x00 ∷ 0x00 ∷ 0x00 ∷ 0x87 ∷ 0x42 ∷ []

-- its contents, with these flags and this secondary time; L's own are 2 (a 16-bit sum) and 0
unfoldable pub l_contents : ℕ → ℕ → Contents
l_contents flags time =
    record {
      fields = record { channel = 1; version = 6; sequence = 0; flags = flags; kind = 0x50; rtc = 1; time = time };
      body = 0x00 ∷ 0x00 ∷ 0x00 ∷ 0x00 ∷ 0x03 ∷ 0x00 ∷ 0x00 ∷ 0x00 ∷ 0x41 ∷ 0x42 ∷ 0x43 ∷ 0x00 ∷ [];
    }

-- a base: the window's start is this byte of the recording
abbrev pub terabyte : ℕ
terabyte = 2 ^ 40

-- bytes at place 3 of a buffer, with an older L behind them
abbrev among : List ℕ → List ℕ
among bytes = 0xEE ∷ 0xEE ∷ 0xEE ∷ (bytes ++ L)

-- what is told of their packet there: P, the header sum, the lengths of secondary header, filler and sum, and the data sum
abbrev accepts : ℕ → ℕ → ℕ → ℕ → ℕ → ℕ → ℕ → ℕ → PacketTold
accepts flags time p header_sum secondary filler width data_sum =
    record {
      refusal = no_refusal;
      packet =
          record {
            fields = (l_contents flags time).fields;
            length = p;
            data_length = 12;
            header_sum = header_sum;
            data_sum = data_sum;
            recording_place = terabyte;
            header = part_at 3 24;
            secondary = part_at 27 secondary;
            body = part_at (27 + secondary) 12;
            filler = part_at (39 + secondary) filler;
            sum = part_at (39 + secondary + filler) width;
          };
    }

-- a refusal, at the packet's start
abbrev refuses : ℕ → PacketTold
refuses number = record { refusal = refused_there number 3 terabyte; packet = zero_packet }

-- flags of a secondary header with an IEEE 1588 time and no data sum; a time of 1 second and some nanoseconds
abbrev pub flags1588 : ℕ
flags1588 = 0x84

abbrev pub second : ℕ → ℕ
second nanoseconds = 1 * 2 ^ 32 + nanoseconds

unfoldable pub cases : List Case
cases =
    -- L accepted; its first 39 bytes: 10; first 23: 2; empty window: 2
    reads (among L) 3 43 terabyte (accepts 2 0 40 0x3B63 0 2 2 17031)
    ∷ reads (among L) 3 42 terabyte (refuses 10)
    ∷ reads (among L) 3 26 terabyte (refuses 2)
    ∷ reads (among L) 3 3 terabyte (refuses 2)
    -- L with byte 0 = 0x24: 3; with byte 13 = 1 and nothing else: 4; with byte 32 = 0x40: 13
    ∷ reads (among (set L 0 0x24)) 3 43 terabyte (refuses 3)
    ∷ reads (among (set L 13 1)) 3 43 terabyte (refuses 4)
    ∷ reads (among (set L 32 0x40)) 3 43 terabyte (refuses 13)
    -- L's body under an 8-bit sum: filler 3, sum 0xC9, P 40
    ∷ reads (among (packet_bytes (l_contents 1 0))) 3 43 terabyte (accepts 1 0 40 0x3B62 0 3 1 0xC9)
    -- under 32 bits: filler 0, sum 0x00434244, P 40
    ∷ reads (among (packet_bytes (l_contents 3 0))) 3 43 terabyte (accepts 3 0 40 0x3B64 0 0 4 0x00434244)
    -- without: P 36
    ∷ reads (among (packet_bytes (l_contents 0 0))) 3 39 terabyte (accepts 0 0 36 0x3B5D 0 0 0 0)
    -- 1588 time of 1 s and 2 ns: secondary sum 3
    ∷ secondary_sum (packet_bytes (l_contents flags1588 (second 2))) 3
    ∷ reads (among (packet_bytes (l_contents flags1588 (second 2)))) 3 51 terabyte (accepts flags1588 (second 2) 48 0x3BED 12 0 0 0)
    -- 999,999,999 ns is accepted, 1,000,000,000 is 12; by the writer too
    ∷ reads (among (packet_bytes (l_contents flags1588 (second 999999999)))) 3 51 terabyte (accepts flags1588 (second 999999999) 48 0x3BED 12 0 0 0)
    ∷ reads (among (packet_bytes (l_contents flags1588 (second 1000000000)))) 3 51 terabyte (refuses 12)
    ∷ writes (l_contents flags1588 (second 999999999)) 48 (record { refusal = no_refusal; length = 48 })
    ∷ writes (l_contents flags1588 (second 1000000000)) 48 (record { refusal = refused 12 0; length = 0 })
    ∷ []

-- ---- a recording of three different packets

-- one byte of a type that is carried, under a 32-bit sum
unfoldable pub carried_byte : Contents
carried_byte = record { fields = record { channel = 7; version = 1; sequence = 255; flags = 3; kind = 0x40; rtc = 2; time = 0 }; body = 0xAA ∷ [] }

-- L, L's body under a secondary header, and that byte
unfoldable pub three : List Contents
three = l_contents 2 0 ∷ l_contents flags1588 (second 2) ∷ carried_byte ∷ []

-- from byte 5 to byte 125 of a buffer with other bytes ahead of them and behind
unfoldable pub three_in : List ℕ
three_in = replicate 5 0xFF ++ (written three ++ replicate 9 0x25)

-- the same with two packets altered: a word of the second's time, and a unit of the third's body and filler
unfoldable pub two_altered : List ℕ
two_altered =
    packet_bytes (l_contents 2 0)
    ++ (splice (packet_bytes (l_contents flags1588 (second 2))) 24 (0x03 ∷ 0x00 ∷ [])
    ++ (splice (packet_bytes carried_byte) 24 (0xAA ∷ 0x01 ∷ 0x00 ∷ 0x00 ∷ [])
    ++ []))

-- ---- a packet of type 0x30 with a secondary header (bit 7), absolute message times (bit 6) and Chapter 4 times: one block of 3 bytes

unfoldable pub stamped_contents : Contents
stamped_contents =
    record {
      fields = record { channel = 2; version = 1; sequence = 9; flags = 0xC0; kind = 0x30; rtc = 5; time = 7 * 2 ^ 16 };
      body =
          -- channel word: counter 1
          0x01 ∷ 0x00 ∷ 0x00 ∷ 0x00
          -- time 3 * 2^16, ID word: upper half 5, n = 3
          ∷ 0x00 ∷ 0x00 ∷ 0x03 ∷ 0x00 ∷ 0x00 ∷ 0x00 ∷ 0x00 ∷ 0x00 ∷ 0x03 ∷ 0x00 ∷ 0x05 ∷ 0x00
          -- "ABC" and a pad byte
          ∷ 0x41 ∷ 0x42 ∷ 0x43 ∷ 0x00 ∷ [];
    }

-- ---- L's body, built in a buffer of 12 bytes: 0x50 opened without a time rule, and the block "ABC" added

abbrev pub block : List ℕ
block = 0x41 ∷ 0x42 ∷ 0x43 ∷ []

unfoldable pub step_opened : Result Draft (Refusal × Draft)
step_opened = open_step fresh_draft 0x50 0 12

unfoldable pub buffer_opened : List ℕ
buffer_opened = buf_after step_opened (replicate 12 0xEE) 0 (bytes_of 4 (open_word 0x50 0))

unfoldable pub step_added : Result Draft (Refusal × Draft)
step_added = add_step (step_told step_opened).draft 12 0 3

unfoldable pub buffer_added : List ℕ
buffer_added = buf_after step_added buffer_opened (step_told step_opened).draft.used (block_bytes (form_of (step_told step_opened).draft) (entry_of 0 0 block))
