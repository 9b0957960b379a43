-- The writer's rules (document 01, "Writer"), one by one and in its words, that contents keep. Numbers are those of the table of refusals, in the writer's
-- own order (writer_refusals): first 17, then 5 to 9, 12 and 15 by the reader's rules, then 16. No test of the writer's is cited: that its tests
-- say the same is proved in proofs/WriterKeeping.antt.
use Rattle.std.specs.Prelude.{◌≡◌, ℕ, ◌^◌, ◌≤◌, ◌<◌, length}
use Rattle.frame.specs.Contents.{Contents}
use Rattle.promises.specs.Refusals.{OneOf, writer_refusals}
use Rattle.promises.specs.Numbers.{bit7, format, VersionKept, TypeKept, FlagsKept, ChannelKept, LengthsKept, InFormat}
use Rattle.promises.specs.Bodies.{MessagesKept}

-- p is the length P of the packet of c, whose body has D bytes: the one p for which rule 9 is kept, if there is any
abbrev pub LengthOf : Contents → ℕ → Type 0
LengthOf c p = LengthsKept c.fields.kind c.fields.flags p (length c.body)

-- rule n of the writer's, of contents c and an output of `room` bytes
pub data WriterRule (c : Contents) (room : ℕ) : ℕ → Type 0 where
  -- 17: RTC is below 2^48; a secondary time is 0 with bit 7 clear
  ranged : c.fields.rtc < 2 ^ 48 → (bit7 c.fields.flags ≡ 0 → c.fields.time ≡ 0) → WriterRule c room 17
  -- 5 to 8: version, type, flags, channel
  version : VersionKept c.fields.version → WriterRule c room 5
  defined : TypeKept c.fields.kind → WriterRule c room 6
  flagged : FlagsKept c.fields.flags → WriterRule c room 7
  channel : ChannelKept c.fields.channel c.fields.kind → WriterRule c room 8
  -- 9: there is a P for this body
  lengths : (p : ℕ) → LengthOf c p → WriterRule c room 9
  -- 12: the secondary time is in form
  secondary : (bit7 c.fields.flags ≡ 1 → InFormat (format c.fields.flags) c.fields.time) → WriterRule c room 12
  -- 15: the body's layout
  messages : MessagesKept c.fields.kind c.fields.flags c.body → WriterRule c room 15
  -- 16: the output has room for the packet
  roomy : (p : ℕ) → LengthOf c p → p ≤ room → WriterRule c room 16

-- every rule is kept
abbrev pub WriterKeeps : Contents → ℕ → Type 0
WriterKeeps c room = (n : ℕ) → OneOf n writer_refusals → WriterRule c room n
