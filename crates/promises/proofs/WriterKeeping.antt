-- Contents are written exactly when every rule of the writer's holds, and refused by the first that does not: each of its tests says what document 01 says.
use Rattle.std.specs.Prelude.{Result, Ok, Err}
use mathlib.Core.Path.{◌≡◌, refl, sym, subst, ◌∙◌}
use mathlib.Core.List.{List, [], ◌∷◌, ◌++◌}
use mathlib.Core.Bool.{Bool, true, false, not, false≢true}
use mathlib.Core.Logic.{◌↔◌, inl, inr, ⊎_elim, ◌≢◌}
use Prim.Native.Nat.{ℕ, ◌+◌, ◌≤◌}
use native.Mathlib.Omega.{arith}
use native.Mathlib.Decide.{dec_le}
use lib.ListN.{length}
use lib.Dec.{T, eqb, ltb, leb}
use borrow.Author.Tests.{eqb-true, eqb-false, ltb-true, ltb-false, leb-true, le-leb, lt-leb}
use Rattle.units.specs.Units.{Bytes}
use Rattle.units.specs.Choice.{pick}
use Rattle.terms.specs.Refusals.{refused, needing, placed}
use Rattle.terms.specs.Times.{rule_of}
use Rattle.terms.specs.declared.Refusal.{Refusal}
use Rattle.terms.proofs.Times.{zero_ok}
use Rattle.frame.specs.Header.{secondary_bit, time_format}
use Rattle.frame.specs.Rules as Rules
use Rattle.frame.specs.Contents.{Contents, contents_length}
use Rattle.frame.specs.Table.{Line, line, first, value_lines}
use Rattle.frame.specs.declared.Fields.{Fields}
use Rattle.frame.proofs.Tables.{numbered, stage_some, stage_none}
use Rattle.packet.specs.Read.{contents_checked}
use Rattle.packet.specs.Write.{in_range, writer_lines, writer_refusal, fitted, write_packet, write_told}
use Rattle.packet.proofs.Told.{Says15, given_15}
use Rattle.packet.proofs.Writes.{range_says, range_made}
use Rattle.promises.specs.Refusals.{OneOf, writer_refusals}
use Rattle.promises.specs.Contents.{Typed}
use Rattle.promises.specs.Endings.{Ends, written_told}
use Rattle.promises.specs.Bodies.{BodyAtFault}
use Rattle.promises.specs.WriterKeeps.{LengthOf, WriterRule, ranged, version, defined, flagged, channel, lengths, secondary, messages, roomy, WriterKeeps}
use Rattle.promises.proofs.Members.{among_one, one_among, one_ahead}
use Rattle.promises.proofs.NumbersKept.{version_exactly, type_made, type_says, flags_exactly, channel_exactly, lengths_exactly, length_one, time_exactly}
use Rattle.promises.proofs.BodiesKept.{body_passes, messages_pass, messages_say, fault_kept}
use Rattle.promises.proofs.Refusing.{numbers, first_one, Tested, last, tests, kept_all, all_kept, first_exactly}
use Rattle.promises.proofs.Writer.{refusal_says}

-- ---- the writer's table, with 15 and 16 as its last lines

abbrev all_lines : Contents → ℕ → List Line
all_lines c room =
    writer_lines c.fields (length c.body) ++ (line 15 (body_passes (contents_checked c)) ∷ line 16 (leb (contents_length c) room) ∷ [])

lines_numbered : (f : Fields) (d : ℕ) → T (numbered (writer_lines f d))
unfolding writer_lines value_lines
lines_numbered f d = tt

fitted_number : (x : Result ℕ Refusal) (n room : ℕ) → Says15 x
    → (write_told (fitted x n room)).refusal.number ≡ first (line 15 (body_passes x) ∷ line 16 (leb n room) ∷ [])
unfolding fitted first
fitted_number (Ok k) n room right = go (ltb room n) refl
  where
    go : (t : Bool) → ltb room n ≡ t
        → (write_told (pick t (Err (needing n (refused 16 0))) (Ok n))).refusal.number ≡ pick (leb n room) 0 16
    go true t = rw (lt-leb n room (ltb-true room n t))
    go false t = rw (le-leb n room (ltb-false room n t))
fitted_number (Err r) n room right = (right r refl).0

number_is : (c : Contents) (room : ℕ) → (write_told (write_packet c room)).refusal.number ≡ first (all_lines c room)
unfolding write_packet writer_refusal
number_is c room = go (eqb (writer_refusal c.fields (length c.body)) 0) refl
  where
    go : (t : Bool) → eqb (writer_refusal c.fields (length c.body)) 0 ≡ t
        → (write_told (pick (not t) (Err (refused (writer_refusal c.fields (length c.body)) 0)) (fitted (contents_checked c) (contents_length c) room))).refusal.number
        ≡ first (all_lines c room)
    go true q =
        fitted_number (contents_checked c) (contents_length c) room (given_15 c)
        ∙ sym (stage_none (writer_lines c.fields (length c.body)) _ (lines_numbered c.fields (length c.body)) (eqb-true _ 0 q))
    go false q = stage_some (writer_lines c.fields (length c.body)) _ _ refl (eqb-false _ 0 q)

numbers_are : (c : Contents) (room : ℕ) → numbers (all_lines c room) ≡ writer_refusals
unfolding writer_lines value_lines
numbers_are c room = refl

-- ---- each line says its rule

module _ (c : Contents) (room : ℕ) where
  abbrev f : Fields
  f = c.fields

  passes₁₇ : WriterRule c room 17 → in_range f ≡ true
  passes₁₇ (ranged small none) = range_made f small none

  passes₅ : WriterRule c room 5 → Rules.version_ok f.version ≡ true
  passes₅ (version h) = (version_exactly f.version).1 h

  passes₆ : WriterRule c room 6 → Rules.type_ok f.kind ≡ true
  passes₆ (defined h) = type_made f.kind h

  passes₇ : WriterRule c room 7 → Rules.flags_ok f.flags ≡ true
  passes₇ (flagged h) = (flags_exactly f.flags).1 h

  passes₈ : WriterRule c room 8 → Rules.channel_ok f.channel f.kind ≡ true
  passes₈ (channel h) = (channel_exactly f.channel f.kind).1 h

  -- the one length that rule 9 leaves
  its_length : (p : ℕ) → LengthOf c p → LengthOf c (contents_length c)
  its_length p h = subst (LengthOf c) (length_one f.kind f.flags p (length c.body) h) h

  passes₉ : WriterRule c room 9 → Rules.lengths_ok f.kind f.flags (contents_length c) (length c.body) ≡ true
  passes₉ (lengths p h) = (lengths_exactly f.kind f.flags (contents_length c) (length c.body)).1 (its_length p h)

  -- an absent time is 0, which is in form
  passes₁₂ : (secondary_bit f.flags ≡ 0 → f.time ≡ 0) → WriterRule c room 12 → Rules.secondary_time_ok f.flags f.time ≡ true
  passes₁₂ none (secondary h) = go (dec_le 1 (secondary_bit f.flags))
    where
      go : Dec (1 ≤ secondary_bit f.flags) → Rules.secondary_time_ok f.flags f.time ≡ true
      go (yes l) = (time_exactly (time_format f.flags) f.time).1 (h (omega arith))
      go (no l) = rw (none (omega arith)) (zero_ok (rule_of (2 + time_format f.flags)))

  passes₁₅ : WriterRule c room 15 → body_passes (contents_checked c) ≡ true
  passes₁₅ (messages h) = messages_pass f.kind f.flags c.body h

  passes₁₆ : WriterRule c room 16 → leb (contents_length c) room ≡ true
  passes₁₆ (roomy p h fits) =
      let is = length_one f.kind f.flags p (length c.body) h in
      le-leb (contents_length c) room (omega arith)

  lines_tested : Typed c → Tested (WriterRule c room) (all_lines c room)
  unfolding writer_lines value_lines
  lines_tested typed =
      tests (λ t. let r = range_says f t in ranged r.0 r.1) passes₁₇ λ t₁₇.
      tests (λ t. version ((version_exactly f.version).0 t)) passes₅ λ _.
      tests (λ t. defined (type_says f.kind typed.kind t)) passes₆ λ _.
      tests (λ t. flagged ((flags_exactly f.flags).0 t)) passes₇ λ _.
      tests (λ t. channel ((channel_exactly f.channel f.kind).0 t)) passes₈ λ _.
      tests (λ t. lengths (contents_length c) ((lengths_exactly f.kind f.flags (contents_length c) (length c.body)).0 t)) passes₉ λ t₉.
      tests (λ t. secondary (λ there. (time_exactly (time_format f.flags) f.time).0 t)) (passes₁₂ (range_says f t₁₇).1) λ _.
      tests (λ t. messages (messages_say f.kind f.flags c.body typed.body t)) passes₁₅ λ _.
      tests (λ t. roomy (contents_length c) ((lengths_exactly f.kind f.flags (contents_length c) (length c.body)).0 t₉) (leb-true (contents_length c) room t))
      passes₁₆ λ _.
      last

  pub write_accepts : Typed c → ((write_told (write_packet c room)).refusal.number ≡ 0) ↔ WriterKeeps c room
  write_accepts typed =
      let are = numbers_are c room in
      let tested = lines_tested typed in
      rw (number_is c room) (rw are at (kept_all (WriterRule c room) tested (rw are)), rw are at (all_kept (WriterRule c room) tested))

  pub write_first : Typed c → (before : List ℕ) (n : ℕ) (after : List ℕ) → writer_refusals ≡ before ++ (n ∷ after)
      → ((write_told (write_packet c room)).refusal.number ≡ n) ↔ (((m : ℕ) → OneOf m before → WriterRule c room m) × (¬ WriterRule c room n))
  write_first typed before n after is =
      rw (number_is c room)
      (first_exactly (WriterRule c room) (lines_tested typed) before n after (rw (numbers_are c room)) (numbers_are c room ∙ is))

-- ---- the answer's other numbers

-- the numbers of its table ahead of 15 and 16
abbrev ruled_numbers : List ℕ
ruled_numbers = 17 ∷ 5 ∷ 6 ∷ 7 ∷ 8 ∷ 9 ∷ 12 ∷ []

-- what the writer may answer
data Outcome (c : Contents) : Result ℕ Refusal → Type 0 where
  ruled : (n : ℕ) → OneOf n ruled_numbers → Outcome c (Err (refused n 0))
  faulty : (r : Refusal) → contents_checked c ≡ Err r → Outcome c (Err (placed 0 r))
  short : LengthOf c (contents_length c) → Outcome c (Err (needing (contents_length c) (refused 16 0)))
  fits : LengthOf c (contents_length c) → Outcome c (Ok (contents_length c))

fitted_outcome : (c : Contents) (room : ℕ) → LengthOf c (contents_length c) → (x : Result ℕ Refusal) → contents_checked c ≡ x → Outcome c (fitted x (contents_length c) room)
unfolding fitted
fitted_outcome c room long (Ok k) q = go (ltb room (contents_length c))
  where
    go : (t : Bool) → Outcome c (pick t (Err (needing (contents_length c) (refused 16 0))) (Ok (contents_length c)))
    go true = short long
    go false = fits long
fitted_outcome c room long (Err r) q = faulty r q

-- 0, or a number of its table's
named : (f : Fields) (d : ℕ) → OneOf (writer_refusal f d) (0 ∷ ruled_numbers)
unfolding writer_refusal writer_lines value_lines
named f d = first_one (writer_lines f d)

outcome : (c : Contents) (room : ℕ) → Outcome c (write_packet c room)
unfolding write_packet
outcome c room = go (writer_refusal c.fields (length c.body)) refl (eqb (writer_refusal c.fields (length c.body)) 0) refl
  where
    go : (n : ℕ) → n ≡ writer_refusal c.fields (length c.body) → (t : Bool) → eqb n 0 ≡ t
        → Outcome c (pick (not t) (Err (refused n 0)) (fitted (contents_checked c) (contents_length c) room))
    go n is true q =
        let v = (refusal_says c (sym is ∙ eqb-true n 0 q)).2 in
        fitted_outcome c room ((lengths_exactly c.fields.kind c.fields.flags (contents_length c) (length c.body)).0 v.lengths_ok) (contents_checked c) refl
    go n is false q = ruled n (rw is (⊎_elim (λ z. absurd (eqb-false n 0 q (is ∙ z))) (λ o. o) (named c.fields (length c.body))))

module _ (c : Contents) where
  ends : {x : Result ℕ Refusal} → Outcome c x → Ends writer_refusals written_told 0 (write_told x)
  ends (ruled n o) = inr (refused n 0, refl, one_ahead n ruled_numbers (15 ∷ 16 ∷ []) o)
  ends (faulty r q) = inr (placed 0 r, refl, rw (given_15 c r q).0 (among_one 15 writer_refusals refl))
  ends (short long) = inr (needing (contents_length c) (refused 16 0), refl, among_one 16 writer_refusals refl)
  ends (fits long) = inl (contents_length c, refl)

  places : {x : Result ℕ Refusal} → Outcome c x → (write_told x).refusal.place ≡ 0
  places (ruled n o) = refl
  places (faulty r q) = refl
  places (short long) = refl
  places (fits long) = refl

  unrecorded : {x : Result ℕ Refusal} → Outcome c x → (write_told x).refusal.recording_place ≡ 0
  unrecorded (ruled n o) = refl
  unrecorded (faulty r q) = (given_15 c r q).2
  unrecorded (short long) = refl
  unrecorded (fits long) = refl

  rooms : {x : Result ℕ Refusal} → Outcome c x → (write_told x).refusal.number ≡ 16 → LengthOf c (write_told x).refusal.room
  rooms (ruled n o) e = absurd (false≢true (one_among 16 ruled_numbers (rw e at o)))
  rooms (faulty r q) e = absurd (omega (arith, (given_15 c r q).0, e))
  rooms (short long) e = long
  rooms (fits long) e = absurd (omega (arith, e))

  no_rooms : {x : Result ℕ Refusal} → Outcome c x → (write_told x).refusal.number ≢ 16 → (write_told x).refusal.room ≡ 0
  no_rooms (ruled n o) e = refl
  no_rooms (faulty r q) e = (given_15 c r q).1
  no_rooms (short long) e = absurd (e refl)
  no_rooms (fits long) e = refl

  reasons : Bytes c.body → {x : Result ℕ Refusal} → Outcome c x → (write_told x).refusal.number ≡ 15
      → (at : ℕ) × BodyAtFault c.fields.kind c.fields.flags c.body at (write_told x).refusal.reason
  reasons raw (ruled n o) e = absurd (false≢true (one_among 15 ruled_numbers (rw e at o)))
  reasons raw (faulty r q) e = (r.place, fault_kept c.fields.kind c.fields.flags c.body r raw q)
  reasons raw (short long) e = absurd (omega (arith, e))
  reasons raw (fits long) e = absurd (omega (arith, e))

  no_reasons : {x : Result ℕ Refusal} → Outcome c x → (write_told x).refusal.number ≢ 15 → (write_told x).refusal.reason ≡ 0
  no_reasons (ruled n o) e = refl
  no_reasons (faulty r q) e = absurd (e (given_15 c r q).0)
  no_reasons (short long) e = refl
  no_reasons (fits long) e = refl

  long_told : {x : Result ℕ Refusal} → Outcome c x → (write_told x).refusal.number ≡ 0 → LengthOf c (write_told x).length × ((write_told x).length ≡ contents_length c)
  long_told (ruled n o) e = absurd (false≢true (one_among 0 ruled_numbers (rw e at o)))
  long_told (faulty r q) e = absurd (omega (arith, (given_15 c r q).0, e))
  long_told (short long) e = absurd (omega (arith, e))
  long_told (fits long) e = (long, refl)

  written : {x : Result ℕ Refusal} → Outcome c x → (write_told x).refusal.number ≡ 0 → x ≡ Ok (write_told x).length
  written (ruled n o) e = absurd (false≢true (one_among 0 ruled_numbers (rw e at o)))
  written (faulty r q) e = absurd (omega (arith, (given_15 c r q).0, e))
  written (short long) e = absurd (omega (arith, e))
  written (fits long) e = refl

  module _ (room : ℕ) where
    pub written_is : (write_told (write_packet c room)).refusal.number ≡ 0 → write_packet c room ≡ Ok (write_told (write_packet c room)).length
    written_is = written (outcome c room)

    pub write_ends : Ends writer_refusals written_told 0 (write_told (write_packet c room))
    write_ends = ends (outcome c room)

    pub write_placed : (write_told (write_packet c room)).refusal.place ≡ 0
    write_placed = places (outcome c room)

    pub write_unrecorded : (write_told (write_packet c room)).refusal.recording_place ≡ 0
    write_unrecorded = unrecorded (outcome c room)

    pub write_room : (write_told (write_packet c room)).refusal.number ≡ 16 → LengthOf c (write_told (write_packet c room)).refusal.room
    write_room = rooms (outcome c room)

    pub write_no_room : (write_told (write_packet c room)).refusal.number ≢ 16 → (write_told (write_packet c room)).refusal.room ≡ 0
    write_no_room = no_rooms (outcome c room)

    pub write_fault : Typed c → (write_told (write_packet c room)).refusal.number ≡ 15
        → (at : ℕ) × BodyAtFault c.fields.kind c.fields.flags c.body at (write_told (write_packet c room)).refusal.reason
    write_fault typed = reasons typed.body (outcome c room)

    pub write_else : (write_told (write_packet c room)).refusal.number ≢ 15 → (write_told (write_packet c room)).refusal.reason ≡ 0
    write_else = no_reasons (outcome c room)

    pub write_length : (write_told (write_packet c room)).refusal.number ≡ 0
        → LengthOf c (write_told (write_packet c room)).length × ((write_told (write_packet c room)).length ≡ contents_length c)
    write_length = long_told (outcome c room)

-- there is one length
pub length_once : (c : Contents) (p q : ℕ) → LengthOf c p → LengthOf c q → p ≡ q
length_once c p q h k =
    length_one c.fields.kind c.fields.flags p (length c.body) h ∙ sym (length_one c.fields.kind c.fields.flags q (length c.body) k)
