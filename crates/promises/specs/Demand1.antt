-- Demand 1, sentence by sentence; proved in proofs/Demand1.antt (demand_1).
use Rattle.std.specs.Prelude.{◌≡◌, List, ◌⊎◌, ◌≢◌, ◌↔◌, ℕ, ◌+◌, ◌≤◌, ◌<◌, length, drop, Result}
use Rattle.units.specs.Units.{Bytes, part}
use Rattle.builder.specs.Build.{buf_after, step_told}
use Rattle.packet.specs.Read.{window, read_packet, packet_told}
use Rattle.terms.specs.Refusals.{no_refusal}
use Rattle.packet.specs.Messages.{list_packet, list_after, starts, lengths, message_packet, list_told, entries, message_told}
use Rattle.packet.specs.Write.{out_after, write_told}
use Rattle.packet.specs.declared.Packet.{Packet}
use Rattle.recording.specs.Reading.{read_recording}
use Rattle.promises.specs.Handed.{Within, HandsOut}
use Rattle.promises.specs.Refusals.{reader_refusals, lister_refusals, message_refusals}
use Rattle.promises.specs.Bodies.{MessagesKept, BodyAtFault}
use Rattle.promises.specs.Endings.{FromTable, zero_packet, zero_message, Ends, read_told, listed_told, given_told, refused_there, Placed}
use Rattle.builder.specs.declared.Draft.{Draft}
use Rattle.terms.specs.declared.Refusal.{Refusal}

-- the three calls on the packet at `start` say the same of two buffers, with these ends and one base; the lists' entries too, whatever they held before
pub record Alike (start base : ℕ) (a : List ℕ) (end : ℕ) (b : List ℕ) (end' : ℕ) : Type 0 where
  pub read : packet_told (read_packet a start end base) ≡ packet_told (read_packet b start end' base)
  pub list : (len₁ len₂ : ℕ) → list_told (list_packet a start end base len₁ len₂) ≡ list_told (list_packet b start end' base len₁ len₂)
  pub starts_told : (len₁ len₂ : ℕ) (old old' : List ℕ)
      → entries (list_packet a start end base len₁ len₂) (starts (window a start end)) old ≡ entries (list_packet b start end' base len₁ len₂) (starts (window b start end')) old'
  pub lengths_told : (len₁ len₂ : ℕ) (old old' : List ℕ)
      → entries (list_packet a start end base len₁ len₂) (lengths (window a start end)) old ≡ entries (list_packet b start end' base len₁ len₂) (lengths (window b start end')) old'
  pub message : (number : ℕ) → message_told (message_packet a start end base number) ≡ message_told (message_packet b start end' base number)

-- a list after the lister: what stands past the count told is as it was, and so is its length
pub record ListKept (r : Result ℕ Refusal) (values : ℕ → ℕ) (old : List ℕ) : Type 0 where
  pub past : drop (list_told r).count (list_after r values old) ≡ drop (list_told r).count old
  pub long : length (list_after r values old) ≡ length old

pub record Demand1 : Type 0 where
  -- "A read names a start and a filled end in a buffer. For every input it ends with a packet or one refusal from the table, number
  -- and place fixed." Which number: Document01.read_first; where, and why (document 02 §2): read_placed, fault_exactly, placed_once.

  -- the reader: a packet, or one of the reader's refusals, its place and its reason
  pub read_ends : (buf : List ℕ) (start end base : ℕ) → Ends reader_refusals read_told zero_packet (packet_told (read_packet buf start end base))
  pub read_placed : (buf : List ℕ) → Bytes buf → (start end base : ℕ) → (packet_told (read_packet buf start end base)).refusal.number ≢ 0
      → Placed (window buf start end) start base (packet_told (read_packet buf start end base)).refusal
  -- a body is at fault exactly where it breaks the layout, at one place and for one reason
  pub fault_exactly : (kind flags : ℕ) (bs : List ℕ) → Bytes bs → (¬ MessagesKept kind flags bs) ↔ ((at reason : ℕ) × BodyAtFault kind flags bs at reason)
  pub placed_once : (kind flags : ℕ) (bs : List ℕ) → Bytes bs → (a b r s : ℕ) → BodyAtFault kind flags bs a r → BodyAtFault kind flags bs b s → (a ≡ b) × (r ≡ s)
  -- the lister, with lists of any length: a count, or one of the reader's or 16
  pub list_ends : (buf : List ℕ) (start end base len₁ len₂ : ℕ) → Ends lister_refusals listed_told 0 (list_told (list_packet buf start end base len₁ len₂))
  -- one message, of any number: it, or one of the reader's or 17
  pub message_ends : (buf : List ℕ) (start end base number : ℕ) → Ends message_refusals given_told zero_message (message_told (message_packet buf start end base number))
  -- a recording: at the exact end of a window in its buffer, or before it, at a place where the reader gives that refusal
  pub recording_ends : (buf : List ℕ) (start end base : ℕ) → Within buf start end base
      → (((read_recording buf start end base).reached ≡ end) × ((read_recording buf start end base).refusal ≡ no_refusal))
      ⊎ (((read_recording buf start end base).reached < end)
      × ((packet_told (read_packet buf (read_recording buf start end base).reached end (read_recording buf start end base).recording_reached)).refusal ≡ (read_recording buf start end base).refusal)
      × FromTable reader_refusals (read_recording buf start end base).refusal)
  -- an empty window: none, 0; one that is outside its buffer, or whose base is too large for it: none, 1 at the start
  pub recording_empty : (buf : List ℕ) (start base : ℕ) → Within buf start start base
      → read_recording buf start start base ≡ record { accepted = 0; reached = start; recording_reached = base; refusal = no_refusal }
  pub recording_outside : (buf : List ℕ) (start end base : ℕ) → ¬ Within buf start end base
      → read_recording buf start end base ≡ record { accepted = 0; reached = start; recording_reached = base; refusal = refused_there 1 start base }
  -- "Nothing outside that window changes the answer."

  -- two buffers that both reach to the end, with the same bytes from start to it; "equal answers now also need equal bases" (document 02 §9):
  -- of other bases, Places
  pub nothing_outside : (a b : List ℕ) (start end base : ℕ) → end ≤ length a → end ≤ length b → window a start end ≡ window b start end
      → Alike start base a end b end
  pub nothing_outside_recording : (a b : List ℕ) (start end base : ℕ) → end ≤ length a → end ≤ length b → window a start end ≡ window b start end
      → read_recording a start end base ≡ read_recording b start end base
  -- the packets that a recording hands out are the same too
  pub nothing_outside_handed : (a b : List ℕ) (start end base : ℕ) → end ≤ length a → end ≤ length b → window a start end ≡ window b start end
      → (ps : List Packet) → HandsOut a start end base (read_recording a start end base) ps → HandsOut b start end base (read_recording b start end base) ps
  -- document 01: "For one accepted packet, the bytes behind its declared length have no say either", nor has the end beyond it
  pub nothing_behind : (a b : List ℕ) (start end end' base : ℕ) (p : Packet) → packet_told (read_packet a start end base) ≡ read_told no_refusal p
      → start + p.length ≤ end' → Within b start end' base → part a start p.length ≡ part b start p.length → Alike start base a end b end'
  -- "Readers write nothing but the lists they are lent": a buffer that is read is lent for reading alone, which the language holds to;
  -- of a list, nothing past the count told is written
  pub lists_kept : (buf : List ℕ) (start end base : ℕ) (starts₀ lengths₀ : List ℕ)
      → ListKept (list_packet buf start end base (length starts₀) (length lengths₀)) (starts (window buf start end)) starts₀
      × ListKept (list_packet buf start end base (length starts₀) (length lengths₀)) (lengths (window buf start end)) lengths₀
  -- "a refused call leaves all lent memory untouched": the lister's lists, the writer's output, the builder's buffer at each step
  pub lists_untouched : (r : Result ℕ Refusal) → (list_told r).refusal.number ≢ 0 → (values : ℕ → ℕ) (old : List ℕ) → list_after r values old ≡ old
  pub output_untouched : (r : Result ℕ Refusal) → (write_told r).refusal.number ≢ 0 → (old bytes : List ℕ) → out_after r old bytes ≡ old
  pub buffer_untouched : (r : Result Draft (Refusal × Draft)) → (step_told r).refusal.number ≢ 0 → (old : List ℕ) (at : ℕ) (bytes : List ℕ) → buf_after r old at bytes ≡ old
