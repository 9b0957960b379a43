-- What document 01 promises beside the demands holds.
use Rattle.std.specs.Prelude.{Result, Ok, Err}
use mathlib.Core.Path.{◌≡◌, refl, sym, ap, ◌∙◌}
use mathlib.Core.List.{List, ◌++◌}
use mathlib.Core.Bool.{true, false≢true}
use mathlib.Core.Logic.{◌≢◌}
use Prim.Native.Nat.{ℕ, zero, suc, ◌+◌, ◌≤◌, min}
use native.Mathlib.Omega.{arith}
use native.Mathlib.Nat.{zero-add}
use lib.ListN.{length, drop}
use Rattle.terms.specs.Refusals.{no_refusal}
use Rattle.terms.specs.Times.{rule_of}
use Rattle.body.specs.Answers.{check_body, checked_told}
use Rattle.body.specs.Blocks.{Entry, entries_in}
use Rattle.builder.specs.Build.{stamped, close_step, step_told}
use Rattle.builder.specs.Run.{Built, closed_body}
use Rattle.builder.specs.declared.Draft.{Draft}
use Rattle.builder.proofs.Running.{built_body}
use Rattle.builder.proofs.ReadBack.{built_reads_back, built_closes}
use Rattle.frame.specs.Rules.{message_rule}
use Rattle.frame.specs.Contents.{Contents, contents_length}
use Rattle.packet_bytes.specs.Bytes.{packet_bytes}
use Rattle.packet.specs.Read.{window, pass_window, read_answer, read_packet, packet_told}
use Rattle.packet.specs.Messages.{message_count, kth_message, list_answer, recorded_list, list_packet, message_answer, recorded_message, message_packet, list_told, message_told}
use Rattle.packet.specs.Write.{out_after}
use Rattle.recording.specs.Reading.{reading}
use Rattle.promises.proofs.HandedOut.{hands_out, hands_out_once}
use Rattle.promises.specs.Contents.{Accepts, output_of}
use Rattle.promises.specs.Endings.{zero_message, listed_told, given_told}
use Rattle.promises.specs.Bodies.{BodyKept}
use Rattle.promises.specs.Building.{FlagsFor}
use Rattle.promises.specs.Document01.{Document01}
use Rattle.promises.proofs.BodiesKept.{body_says}
use Rattle.promises.proofs.Keeping.{refused_exactly}
use Rattle.promises.proofs.WriterKeeping.{write_accepts, write_first, write_ends, write_placed, write_room, write_no_room, write_length, length_once}
use Rattle.promises.proofs.Building.{building}
use Rattle.promises.proofs.Writer.{writable_written, accepts_writable, length_of_lem}
use Rattle.terms.specs.declared.Refusal.{Refusal}

-- ---- the lister and one message, after the reader's tests

list_as_read : (buf : List ℕ) (start end base len₁ len₂ : ℕ) → (packet_told (read_packet buf start end base)).refusal.number ≢ 0
    → list_told (list_packet buf start end base len₁ len₂) ≡ listed_told (packet_told (read_packet buf start end base)).refusal 0
unfolding read_packet read_answer list_packet list_answer
list_as_read buf start end base len₁ len₂ = go (pass_window buf start end base)
  where
    w : List ℕ
    w = window buf start end

    go : (x : Result ℕ Refusal) → (packet_told (read_answer x w start base)).refusal.number ≢ 0
        → list_told (recorded_list base start (list_answer x start (message_count w) (min len₁ len₂)))
        ≡ listed_told (packet_told (read_answer x w start base)).refusal 0
    go (Ok p) h = absurd (h refl)
    go (Err r) h = refl

message_as_read : (buf : List ℕ) (start end base number : ℕ) → (packet_told (read_packet buf start end base)).refusal.number ≢ 0
    → message_told (message_packet buf start end base number) ≡ given_told (packet_told (read_packet buf start end base)).refusal zero_message
unfolding read_packet read_answer message_packet message_answer
message_as_read buf start end base number = go (pass_window buf start end base)
  where
    w : List ℕ
    w = window buf start end

    go : (x : Result ℕ Refusal) → (packet_told (read_answer x w start base)).refusal.number ≢ 0
        → message_told (recorded_message base start (message_answer x start (message_count w) number (kth_message w number)))
        ≡ given_told (packet_told (read_answer x w start base)).refusal zero_message
    go (Ok p) h = absurd (h refl)
    go (Err r) h = refl

-- ---- the builder

-- the rule of message times, by the flags
rule_for : (rule flags : ℕ) → FlagsFor rule flags → stamped rule ≡ true → message_rule flags ≡ rule_of rule
unfolding message_rule
rule_for zero flags f some = absurd (false≢true some)
rule_for (suc zero) flags f some = rw (f.counter refl)
rule_for (suc (suc code)) flags f some =
    let e : suc (suc code) ≡ 2 + code = omega arith in
    let (one, format) = f.absolute code e in
    rw (one, format, e)

reads_back : (buf : List ℕ) (d : Draft) (es : List Entry) (flags : ℕ) → Built buf d es → (step_told (close_step d (length buf))).refusal.number ≡ 0
    → FlagsFor d.rule flags
    → BodyKept d.kind flags (closed_body buf d) es
    × (checked_told (check_body d.kind (message_rule flags) (closed_body buf d)) ≡ record { refusal = no_refusal; count = length es })
    × (entries_in d.kind (message_rule flags) (closed_body buf d) (length es) ≡ es)
reads_back buf d es flags b closes f =
    let rule = message_rule flags in
    let body = closed_body buf d in
    let ruled = rule_for d.rule flags f in
    let (counted, entries) = built_reads_back rule b closes ruled in
    (body_says d.kind flags body es (built_body rule b closes ruled), ap checked_told counted, entries)

-- ---- the writer

output_is : (c : Contents) (out : List ℕ) → out_after (Ok (contents_length c)) out (packet_bytes c) ≡ packet_bytes c ++ drop (length (packet_bytes c)) out
unfolding out_after
output_is c out = ap (λ (k : ℕ). packet_bytes c ++ drop k out) (zero-add (length (packet_bytes c)))

written_there : (c : Contents) → Accepts c → (out : List ℕ) → length (packet_bytes c) ≤ length out
    → output_of c out ≡ packet_bytes c ++ drop (length (packet_bytes c)) out
written_there c a out room =
    let w = writable_written c (length out) (accepts_writable c a) (omega (arith, length_of_lem c)) in
    ap (λ (x : Result ℕ Refusal). out_after x out (packet_bytes c)) w ∙ output_is c out

pub document_01 : Document01
document_01 =
    record {
      read_first = refused_exactly;
      list_as_read = list_as_read;
      message_as_read = message_as_read;
      recording_handed =
          λ buf start end base. ((reading buf start end base).packets, hands_out buf start end base, λ qs h. (hands_out_once buf start end base _ qs h).1);
      builder_answers = building;
      built_reads_back = reads_back;
      block_added = λ time upper bytes. refl;
      built_closes = λ buf d e es b. built_closes b;
      write_ends = write_ends;
      write_first = λ c typed room. write_first c room typed;
      write_accepts = λ c typed room. write_accepts c room typed;
      write_placed = write_placed;
      write_room = write_room;
      write_no_room = write_no_room;
      write_length = λ c room z. let (long, is) = write_length c room z in (long, length_of_lem c ∙ sym is);
      length_once = length_once;
      written_there = written_there;
    }
