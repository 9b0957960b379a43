-- What the calls report of an accepted packet, its parts and its messages, is what is there (demand 2).
use Rattle.std.specs.Prelude.{◌≡◌, List, ℕ, ◌+◌, ◌-◌, ◌*◌, ◌≤◌, ◌<◌, min, length, take, get_or}
use Rattle.units.specs.Units.{part, field}
use Rattle.terms.specs.Refusals.{no_refusal, needing}
use Rattle.body.specs.Blocks.{Entry, no_entry, blocks_bytes, message_on}
use Rattle.body.specs.declared.Form.{Form}
use Rattle.body.specs.declared.Message.{Message}
use Rattle.frame.specs.Header.{byte}
use Rattle.packet.specs.Read.{window, part_at}
use Rattle.packet.specs.declared.Packet.{Packet}
use Rattle.packet.specs.Messages.{list_packet, list_after, starts, lengths, message_packet, list_told, message_told}
use Rattle.promises.specs.Endings.{zero_message, refused_there, listed_told, given_told}
use Rattle.promises.specs.Numbers.{bit7, width}
use Rattle.promises.specs.Keeps as Of

-- the packet told of is the one at the start of a window's bytes w, which stand at `at` in their buffer and at `base` in the recording: each field of
-- its header (document 01, "Primary header"), the secondary time, the data sum, its place in the recording, and the place and length of each part
pub record PacketThere (w : List ℕ) (at base : ℕ) (p : Packet) : Type 0 where
  pub channel : p.fields.channel ≡ field w 2 2
  pub long : p.length ≡ Of.P w
  pub data_length : p.data_length ≡ Of.D w
  pub version : p.fields.version ≡ byte w 12
  pub sequence : p.fields.sequence ≡ byte w 13
  pub flags : p.fields.flags ≡ Of.flags w
  pub kind : p.fields.kind ≡ Of.type w
  pub rtc : p.fields.rtc ≡ field w 16 6
  pub header_sum : p.header_sum ≡ field w 22 2
  -- 0 if absent
  pub time : bit7 (Of.flags w) ≡ 1 → p.fields.time ≡ Of.time w
  pub no_time : bit7 (Of.flags w) ≡ 0 → p.fields.time ≡ 0
  -- the last bytes of the packet, 0 if absent
  pub data_sum : p.data_sum ≡ field w (Of.sum_place w) (width (Of.flags w))
  pub recorded : p.recording_place ≡ base
  pub header : p.header ≡ part_at at 24
  pub secondary : p.secondary ≡ part_at (at + 24) (12 * bit7 (Of.flags w))
  pub body : p.body ≡ part_at (at + Of.body w) (Of.D w)
  pub filler : p.filler ≡ part_at (at + (Of.body w + Of.D w)) (Of.sum_place w - (Of.body w + Of.D w))
  pub sum : p.sum ≡ part_at (at + Of.sum_place w) (width (Of.flags w))

-- the k-th of some blocks as a message of the packet at the start of w, its start counted from the packet's first byte: behind the channel word
-- and the blocks before it
abbrev pub message_for : List ℕ → Form → List Entry → ℕ → Message
message_for w form es k = message_on form (Of.body w + 4 + length (blocks_bytes form (take k es))) (get_or es k no_entry)

-- of the packet at the start of a window, whose body is its channel word and these blocks, with time stamps or without, the calls report
-- these, and nothing else
pub record Reports (buf : List ℕ) (start end base : ℕ) (es : List Entry) (form : Form) : Type 0 where
  -- the lister counts them, or says how many there are
  pub counted : (len₁ len₂ : ℕ) → length es ≤ min len₁ len₂ → list_told (list_packet buf start end base len₁ len₂) ≡ listed_told no_refusal (length es)
  pub crowded : (len₁ len₂ : ℕ) → min len₁ len₂ < length es → list_told (list_packet buf start end base len₁ len₂) ≡ listed_told (needing (length es) (refused_there 16 start base)) 0
  -- and its two lists hold the start and the length of each
  pub listed : (starts₀ lengths₀ : List ℕ) (k : ℕ) → k < length es → length es ≤ min (length starts₀) (length lengths₀)
      → (get_or (list_after (list_packet buf start end base (length starts₀) (length lengths₀)) (starts (window buf start end)) starts₀) k 0
      ≡ (message_for (window buf start end) form es k).start)
      × (get_or (list_after (list_packet buf start end base (length starts₀) (length lengths₀)) (lengths (window buf start end)) lengths₀) k 0
      ≡ (message_for (window buf start end) form es k).length)
  -- each is given by its number, and no other
  pub given : (k : ℕ) → k < length es
      → message_told (message_packet buf start end base k) ≡ given_told no_refusal (message_for (window buf start end) form es k)
  pub missing : (k : ℕ) → length es ≤ k → message_told (message_packet buf start end base k) ≡ given_told (refused_there 17 start base) zero_message
  -- and its bytes are in the buffer, at that start and of that length
  pub bytes : (k : ℕ) → k < length es
      → part buf (start + (message_for (window buf start end) form es k).start) (length (get_or es k no_entry).bytes) ≡ (get_or es k no_entry).bytes
