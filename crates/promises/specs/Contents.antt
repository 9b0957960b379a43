-- Contents that the writer accepts, written end to end, and the contents of what is read.
use Rattle.std.specs.Prelude.{◌≡◌, List, [], ◌∷◌, ◌++◌, ℕ, ◌^◌, ◌<◌, length}
use Rattle.units.specs.Units.{Bytes, part}
use Rattle.frame.specs.Contents.{Contents, contents}
use Rattle.packet_bytes.specs.Bytes.{packet_bytes}
use Rattle.packet.specs.Write.{write_packet, out_after, write_told}
use Rattle.packet.specs.declared.Packet.{Packet}

-- each is of the type that the call takes: channel u16; version, sequence, flags and type u8; RTC and time u64; the body bytes
pub record Typed (c : Contents) : Type 0 where
  pub channel : c.fields.channel < 2 ^ 16
  pub version : c.fields.version < 2 ^ 8
  pub sequence : c.fields.sequence < 2 ^ 8
  pub flags : c.fields.flags < 2 ^ 8
  pub kind : c.fields.kind < 2 ^ 8
  pub rtc : c.fields.rtc < 2 ^ 64
  pub time : c.fields.time < 2 ^ 64
  pub body : Bytes c.body

-- the writer accepts: there is an output into which it writes
pub record Accepts (c : Contents) : Type 0 where
  pub typed : Typed c
  pub room : ℕ
  pub writes : (write_told (write_packet c room)).refusal.number ≡ 0

-- the output after the writer was given c
abbrev pub output_of : Contents → List ℕ → List ℕ
output_of c out = out_after (write_packet c (length out)) out (packet_bytes c)

-- any list of contents the writer accepts
pub data AllAccepted : List Contents → Type 0 where
  nil : AllAccepted []
  cons : {c : Contents} {cs : List Contents} → Accepts c → AllAccepted cs → AllAccepted (c ∷ cs)

-- written end to end
unfoldable pub written : List Contents → List ℕ
written [] = []
written (c ∷ cs) = packet_bytes c ++ written cs

-- the contents of a packet that a reader tells of, in its buffer
abbrev pub contents_of : List ℕ → Packet → Contents
contents_of buf p = contents p.fields (part buf p.body.at p.body.length)
