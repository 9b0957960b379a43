-- The one-packet reader (document 01, "The window" and "What each call says no to"), and places in the recording (document 02 §9).
use Rattle.std.specs.Prelude.{◌≡◌, List, Bool, not, ◌&&◌, ℕ, ◌+◌, ◌-◌, ◌^◌, length, leb, ltb, eqb, Result, Ok, Err}
use Rattle.units.specs.Units.{part}
use Rattle.units.specs.Choice.{pick}
use Rattle.terms.specs.Refusals.{refused, no_refusal, moved, recorded}
use Rattle.terms.specs.declared.Refusal.{Refusal}
use Rattle.body.specs.Answers.{check_body}
use Rattle.frame.specs.Header.{packet_length, data_length, flags_in, header_sum_in, sum_length, secondary_length, body_at, filler_at, sum_at, filler_length, data_sum_in, fields_in}
use Rattle.frame.specs.Contents.{Contents, contents_in}
use Rattle.frame.specs.Rules.{message_rule}
use Rattle.frame.specs.Table.{first, frame_lines}
use Rattle.packet.specs.declared.Part.{Part}
use Rattle.packet.specs.declared.Packet.{Packet}

-- ---- the window

-- a start and a filled end in a buffer; and a base, where the start stands in the recording, such that base plus window length does not
-- pass 2^64 - 1
unfoldable pub inside : List ℕ → ℕ → ℕ → ℕ → Bool
inside buf start end base = leb start end && leb end (length buf) && ltb (base + (end - start)) (2 ^ 64)

-- the bytes between them
abbrev pub window : List ℕ → ℕ → ℕ → List ℕ
window buf start end = part buf start (end - start)

-- ---- an accepted packet: its fields, and the place and length of its five parts

abbrev pub part_at : ℕ → ℕ → Part
part_at at n = record { at = at; length = n }

-- the packet at the start of a window's bytes w, which stand at `at` in their buffer and at `base` in the recording
unfoldable pub packet_in : List ℕ → ℕ → ℕ → Packet
packet_in w at base =
    record {
      fields = fields_in w;
      length = packet_length w;
      data_length = data_length w;
      header_sum = header_sum_in w;
      data_sum = data_sum_in w;
      recording_place = base;
      header = part_at at 24;
      secondary = part_at (at + 24) (secondary_length (flags_in w));
      body = part_at (at + body_at (flags_in w)) (data_length w);
      filler = part_at (at + filler_at w) (filler_length w);
      sum = part_at (at + sum_at w) (sum_length (flags_in w));
    }

-- the parts of an accepted packet stand one behind the other and together make up P
pub record Together (at : ℕ) (p : Packet) : Type 0 where
  pub header : p.header.at ≡ at
  pub secondary : p.secondary.at ≡ p.header.at + p.header.length
  pub body : p.body.at ≡ p.secondary.at + p.secondary.length
  pub filler : p.filler.at ≡ p.body.at + p.body.length
  pub sum : p.sum.at ≡ p.filler.at + p.filler.length
  pub all : p.header.length + p.secondary.length + p.body.length + p.filler.length + p.sum.length ≡ p.length

-- ---- the reader's tests, with places in the buffer alone

-- what the body's layout says of contents: the number of its messages (0 for a type that isn't opened), or its first fault
abbrev pub contents_checked : Contents → Result ℕ Refusal
contents_checked c = check_body c.fields.kind (message_rule c.fields.flags) c.body

-- and of a packet
unfoldable pub body_checked : List ℕ → Result ℕ Refusal
body_checked w = contents_checked (contents_in w)

-- 15, at the channel word or the block at fault (or the bytes left over, or where a missing block should begin); else the packet passes
unfoldable pub pass_body : Result ℕ Refusal → List ℕ → ℕ → Result ℕ Refusal
pass_body (Ok n) w at = Ok (packet_length w)
pass_body (Err f) w at = Err (moved (at + body_at (flags_in w)) f)

-- the packet at the start of a window's bytes w, which stand at `at` in their buffer: the frame's lines from the top, all placed at the packet's
-- start, then 15
unfoldable pub pass_bytes : List ℕ → ℕ → Result ℕ Refusal
pass_bytes w at = pick (not (eqb (first (frame_lines w)) 0)) (Err (refused (first (frame_lines w)) at)) (pass_body (body_checked w) w at)

-- 1, then those
unfoldable pub pass_window : List ℕ → ℕ → ℕ → ℕ → Result ℕ Refusal
pass_window buf start end base = pick (not (inside buf start end base)) (Err (refused 1 start)) (pass_bytes (window buf start end) start)

-- ---- the answer, with its place in the recording: the packet's own is the base

unfoldable pub read_answer : Result ℕ Refusal → List ℕ → ℕ → ℕ → Result Packet Refusal
read_answer (Ok n) w start base = Ok (packet_in w start base)
read_answer (Err r) w start base = Err (recorded base start r)

unfoldable pub read_packet : List ℕ → ℕ → ℕ → ℕ → Result Packet Refusal
read_packet buf start end base = read_answer (pass_window buf start end base) (window buf start end) start base

-- ---- document 01's number and values of an answer

abbrev pub no_part : Part
no_part = part_at 0 0

abbrev pub no_packet : Packet
no_packet =
    record {
      fields = record { channel = 0; version = 0; sequence = 0; flags = 0; kind = 0; rtc = 0; time = 0 };
      length = 0;
      data_length = 0;
      header_sum = 0;
      data_sum = 0;
      recording_place = 0;
      header = no_part;
      secondary = no_part;
      body = no_part;
      filler = no_part;
      sum = no_part;
    }

pub record PacketTold : Type 0 where
  pub refusal : Refusal
  pub packet : Packet

-- a refusal returns its number and place; all other results are zero
abbrev pub packet_told : Result Packet Refusal → PacketTold
packet_told (Ok p) = record { refusal = no_refusal; packet = p }
packet_told (Err r) = record { refusal = r; packet = no_packet }
