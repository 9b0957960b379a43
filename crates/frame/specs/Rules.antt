-- The rules of a packet without its body's inside, each once (document 01, from 11.2.1.1 to 11.2.1.4).
use Rattle.std.specs.Prelude.{List, Bool, not, ◌&&◌, ◌||◌, ℕ, ◌+◌, ◌%◌, length, leb, eqb}
use Rattle.units.specs.Units.{summed, zeros}
use Rattle.frame.specs.Sums.{data_sum}
use Rattle.units.specs.Choice.{pick}
use Rattle.terms.specs.Times.{time_ok, rule_of}
use Rattle.terms.specs.declared.TimeRule.{TimeRule}
use Rattle.frame.specs.Header.{byte, sync, packet_length, flags_in, secondary_bit, absolute_bit, time_format, sum_code, unfilled_length, secondary_in, filler_in, body_and_filler_in, data_sum_in, time_in, reserved_in}

-- ---- rules of numbers, for reader and writer alike

-- version is 0x01 to 0x09
abbrev pub version_ok : ℕ → Bool
version_ok v = leb 1 v && leb v 9

-- the 35 defined types; all others are reserved
abbrev pub type_ok : ℕ → Bool
type_ok k =
    leb k 0x04
    || eqb k 0x09
    || eqb k 0x0A
    || eqb k 0x11
    || eqb k 0x12
    || eqb k 0x19
    || eqb k 0x1A
    || eqb k 0x21
    || eqb k 0x29
    || eqb k 0x30
    || eqb k 0x38
    || (leb 0x40 k && leb k 0x44)
    || (leb 0x48 k && leb k 0x4A)
    || eqb k 0x50
    || eqb k 0x58
    || eqb k 0x59
    || eqb k 0x60
    || eqb k 0x68
    || eqb k 0x69
    || (leb 0x70 k && leb k 0x72)
    || (leb 0x78 k && leb k 0x7A)

-- time format 11 is reserved, also where bit 7 is 0; bit 6 needs bit 7
abbrev pub flags_ok : ℕ → Bool
flags_ok f = not (eqb (time_format f) 3) && (eqb (absolute_bit f) 0 || eqb (secondary_bit f) 1)

-- channel 0 only with types 0x01 and 0x04
abbrev pub channel_ok : ℕ → ℕ → Bool
channel_ok channel kind = not (eqb channel 0) || eqb kind 0x01 || eqb kind 0x04

-- the most that P may be
unfoldable pub limit : ℕ → ℕ
limit kind = pick (eqb kind 0x01) 134217728 524288

-- P is a multiple of 4 within its limit, D is at least 1, and 0 to 3 bytes of filler are left
abbrev pub lengths_ok : ℕ → ℕ → ℕ → ℕ → Bool
lengths_ok kind f p d = eqb (p % 4) 0 && leb p (limit kind) && leb 1 d && leb (unfilled_length f d) p && leb p (unfilled_length f d + 3)

-- the secondary time, by its format
abbrev pub secondary_time_ok : ℕ → ℕ → Bool
secondary_time_ok f time = time_ok (rule_of (2 + time_format f)) time

-- the rule of message times: bit 6 clear, the counter; set, the secondary time's of the same format
unfoldable pub message_rule : ℕ → TimeRule
message_rule f = rule_of (pick (eqb (absolute_bit f) 0) 1 (2 + time_format f))

-- ---- rules of bytes

-- 24 bytes in the window
abbrev pub enough : List ℕ → Bool
enough w = leb 24 (length w)

abbrev pub synced : List ℕ → Bool
synced w = eqb (byte w 0) (byte sync 0) && eqb (byte w 1) (byte sync 1)

-- the sum of the eleven 16-bit words ahead of it
abbrev pub header_summed : List ℕ → Bool
header_summed w = summed 2 11 w

-- P is within the window
abbrev pub whole : List ℕ → Bool
whole w = leb (packet_length w) (length w)

-- the sum of the five 16-bit words before it. This rule and the next hold of an absent secondary header: its fields are 0
abbrev pub secondary_summed : List ℕ → Bool
secondary_summed w = summed 2 5 (secondary_in w)

-- the 2 reserved bytes are zero, and the time is in form
abbrev pub secondary_ok : List ℕ → Bool
secondary_ok w = eqb (reserved_in w) 0 && secondary_time_ok (flags_in w) (time_in w)

-- the sum of body and filler in units of its own width, counted from the body's first byte. It holds where no sum is: 0 is 0
abbrev pub data_summed : List ℕ → Bool
data_summed w = eqb (data_sum (sum_code (flags_in w)) (body_and_filler_in w)) (data_sum_in w)

-- filler bytes are zero
abbrev pub filler_ok : List ℕ → Bool
filler_ok w = zeros (filler_in w)
