-- Document 02 §2: number, place and reason are fixed together, and only 15 has a reason.
use Rattle.std.specs.Prelude.{Result}
use mathlib.Core.Path.{◌≡◌, refl, sym, ap, ◌∙◌}
use mathlib.Core.List.{List, ◌∷◌, ◌++◌}
use mathlib.Core.Bool.{Bool, true, false, not}
use mathlib.Core.Logic.{⊎_elim}
use Prim.Native.Nat.{ℕ, ◌+◌, ◌-◌}
use native.Mathlib.Omega.{arith}
use lib.Dec.{eqb, ltb}
use Rattle.units.specs.Units.{Bytes}
use Rattle.units.specs.Choice.{pick}
use Rattle.units.proofs.Parts.{bytes_part}
use Rattle.terms.specs.declared.Refusal.{Refusal}
use Rattle.builder.specs.Build.{denied, makes, bad_draft, open_step, bad_block, bad_time, stray_time, grown, add_step, close_step, step_told}
use Rattle.builder.specs.declared.Draft.{Draft}
use Rattle.frame.specs.Contents.{Contents}
use Rattle.packet.specs.Read.{window, read_packet, packet_told}
use Rattle.packet.specs.Write.{write_packet, write_told}
use Rattle.recording.specs.Reading.{read_recording}
use Rattle.promises.specs.Refusals.{OneOf, reader_refusals, writer_refusals}
use Rattle.promises.specs.Bodies.{MessagesKept, BodyAtFault}
use Rattle.promises.specs.Contents.{Typed}
use Rattle.promises.specs.Keeps.{type, flags, body, body_bytes, D, Rule}
use Rattle.promises.specs.WriterKeeps.{WriterRule, messages}
use Rattle.promises.specs.Reasons.{layout, ElseNone, Reasons}
use Rattle.promises.proofs.BodiesKept.{fault_kept_exactly, fault_kept_once}
use Rattle.promises.proofs.Ends.{read_placed, read_else, list_else, message_else}
use Rattle.promises.proofs.HandedOut.{hands_out}
use Rattle.promises.proofs.Keeping.{kept_messages, refused_exactly}
use Rattle.promises.proofs.WriterKeeping.{write_first, write_placed, write_unrecorded, write_fault, write_else, write_no_room}

-- a refusal is its five numbers
whole : (r : Refusal) (place recorded reason : ℕ) → r.number ≡ 15 → r.place ≡ place → r.recording_place ≡ recorded → r.room ≡ 0 → r.reason ≡ reason
    → r ≡ layout place recorded reason
whole r place recorded reason n p far z q = λ i. record { number = n i; place = p i; room = z i; reason = q i; recording_place = far i }

-- ---- the reader

module _ (buf : List ℕ) (raw : Bytes buf) (start end base : ℕ) (before after : List ℕ) (order : reader_refusals ≡ before ++ (15 ∷ after))
    (kept : (m : ℕ) → OneOf m before → Rule buf start end base (window buf start end) m) (at reason : ℕ) where
  abbrev w : List ℕ
  w = window buf start end

  abbrev told : Refusal
  told = (packet_told (read_packet buf start end base)).refusal

  body_raw : Bytes (body_bytes w)
  body_raw = bytes_part w (body w) (D w) (bytes_part buf start (end - start) raw)

  -- what is told where it is 15
  placed : told.number ≡ 15 → (a : ℕ) × (told.place ≡ start + body w + a) × BodyAtFault (type w) (flags w) (body_bytes w) a told.reason
  placed n = (read_placed buf start end base raw (λ z. omega (arith, n, z))).inner n

  read_says : told ≡ layout (start + body w + at) (base + body w + at) reason → BodyAtFault (type w) (flags w) (body_bytes w) at reason
  read_says is =
      let (a, p, there) = placed (ap (λ (r : Refusal). r.number) is) in
      let same : a ≡ at = omega (arith, p, ap (λ (r : Refusal). r.place) is) in
      let q : told.reason ≡ reason = ap (λ (r : Refusal). r.reason) is in
      rw (same, q) at there

  read_made : BodyAtFault (type w) (flags w) (body_bytes w) at reason → told ≡ layout (start + body w + at) (base + body w + at) reason
  read_made there =
      let broken = (fault_kept_exactly (type w) (flags w) (body_bytes w) body_raw).1 (at, reason, there) in
      let n : told.number ≡ 15 = (refused_exactly buf raw start end base before 15 after order).1 (kept, λ r. broken (kept_messages buf start end base w r)) in
      let (a, p, told-there) = placed n in
      let (same, q) = fault_kept_once (type w) (flags w) (body_bytes w) body_raw a at told.reason reason told-there there in
      let here = read_placed buf start end base raw (λ z. omega (arith, n, z)) in
      let (distance, from_start, from-base) = here.recorded in
      whole told (start + body w + at) (base + body w + at) reason n (p ∙ ap (λ (x : ℕ). start + body w + x) same)
      (omega (arith, p, same, from_start, from-base)) here.room q

-- ---- the writer

module _ (c : Contents) (typed : Typed c) (room : ℕ) (before after : List ℕ) (order : writer_refusals ≡ before ++ (15 ∷ after))
    (kept : (m : ℕ) → OneOf m before → WriterRule c room m) (reason : ℕ) where
  abbrev answered : Refusal
  answered = (write_told (write_packet c room)).refusal

  abbrev Faulted : ℕ → ℕ → Type 0
  Faulted at why = BodyAtFault c.fields.kind c.fields.flags c.body at why

  write_says : answered ≡ layout 0 0 reason → (at : ℕ) × Faulted at reason
  write_says is =
      let (at, there) = write_fault c room typed (ap (λ (r : Refusal). r.number) is) in
      let q : answered.reason ≡ reason = ap (λ (r : Refusal). r.reason) is in
      (at, rw q at there)

  rule_15 : WriterRule c room 15 → MessagesKept c.fields.kind c.fields.flags c.body
  rule_15 (messages h) = h

  write_made : (at : ℕ) × Faulted at reason → answered ≡ layout 0 0 reason
  write_made (at, there) =
      let broken = (fault_kept_exactly c.fields.kind c.fields.flags c.body typed.body).1 (at, reason, there) in
      let n : answered.number ≡ 15 = (write_first c room typed before 15 after order).1 (kept, λ r. broken (rule_15 r)) in
      let (a, told-there) = write_fault c room typed n in
      let (same, q) = fault_kept_once c.fields.kind c.fields.flags c.body typed.body a at answered.reason reason told-there there in
      whole answered 0 0 reason n (write_placed c room) (write_unrecorded c room) (write_no_room c room (λ z. omega (arith, n, z))) q

-- ---- all others

recording_else : (buf : List ℕ) (start end base : ℕ) → ElseNone (read_recording buf start end base).refusal
recording_else buf start end base other =
    ⊎_elim (λ h. ap (λ (r : Refusal). r.reason) h.2)
    (λ h. rw h.0 at (read_else buf (read_recording buf start end base).reached end (read_recording buf start end base).recording_reached (λ n. other (sym (ap (λ (r : Refusal). r.number) h.0) ∙ n))))
    (hands_out buf start end base).ends

abbrev StepElse : Result Draft (Refusal × Draft) → Type 0
StepElse s = ElseNone (step_told s).refusal

-- a refusal by its test, then the rest
denies : (t : Bool) (r : Refusal) (d : Draft) (rest : Result Draft (Refusal × Draft)) → ElseNone r → StepElse rest → StepElse (pick t (denied r d) rest)
denies true r d rest here next = here
denies false r d rest here next = next

open_else : (d : Draft) (kind rule len : ℕ) → StepElse (open_step d kind rule len)
unfolding open_step
open_else d kind rule len = denies (not (makes kind rule)) _ d _ (λ o. refl) (denies (ltb len 4) _ d _ (λ o. refl) (λ o. refl))

add_else : (d : Draft) (len time n : ℕ) → StepElse (add_step d len time n)
unfolding add_step
add_else d len time n =
    denies (bad_draft d len) _ d _ (λ o. refl)
    (denies (bad_block d n) _ d _ (λ o. refl)
    (denies (bad_time d.rule time) _ d _ (λ o. absurd (o refl))
    (denies (stray_time d.rule time) _ d _ (λ o. refl) (denies (ltb len (grown d n)) _ d _ (λ o. refl) (λ o. refl)))))

close_else : (d : Draft) (len : ℕ) → StepElse (close_step d len)
unfolding close_step
close_else d len = denies (bad_draft d len) _ d _ (λ o. refl) (denies (eqb d.used 4) _ d _ (λ o. absurd (o refl)) (λ o. refl))

pub reasons : Reasons
reasons =
    record {
      read_fault = λ buf raw start end base before after order kept at reason. (
        read_says buf raw start end base before after order kept at reason,
        read_made buf raw start end base before after order kept at reason,
      );
      write_fault = λ c typed room before after order kept reason. (
        write_says c typed room before after order kept reason,
        write_made c typed room before after order kept reason,
      );
      read_else = read_else;
      list_else = list_else;
      message_else = message_else;
      recording_else = recording_else;
      write_else = write_else;
      open_else = open_else;
      add_else = add_else;
      close_else = close_else;
    }
