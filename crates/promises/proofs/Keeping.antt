-- A packet is accepted exactly when every rule holds, and refused by the first that does not: each of the reader's tests says what document 01
-- says.
use mathlib.Core.Path.{◌≡◌, sym, ap, ◌∙◌}
use mathlib.Core.List.{List, [], ◌∷◌, ◌++◌}
use mathlib.Core.Bool.{true}
use mathlib.Core.Logic.{◌↔◌}
use Prim.Native.Nat.{ℕ, ◌+◌, ◌-◌, ◌*◌, ◌/◌, ◌%◌, ◌^◌, ◌≤◌, ◌<◌}
use native.Mathlib.Omega.{arith}
use native.Mathlib.Decide.{dec_le}
use native.Mathlib.Nat.{mod-one, mul-div-le}
use lib.ListN.{length, take, drop, get_or, length-take, take-append-drop, get_or-replicate}
use lib.Seq.{get_or-take, get_or-drop}
use lib.Dec.{eqb}
use borrow.Author.Tests.{eqb-true, eq-eqb, leb-true, le-leb}
use Rattle.units.specs.Units.{Bytes, part, field, sum_units, checksum, zeros}
use Rattle.units.proofs.Choices.{and_true}
use Rattle.units.proofs.Numbers.{zeros_true, zeros_are}
use Rattle.units.proofs.Parts.{length_part, bytes_part, field_part, field_zero, field_add}
use Rattle.units.proofs.Sums.{sum_prefix, summed_says, summed_made}
use Rattle.terms.specs.Times.{time_ok, rule_of}
use Rattle.frame.specs.Header.{byte, sync, flags_in, kind_in, channel_in, version_in, secondary_bit, time_format, unfilled_length, body_at, secondary_in, body_in, reserved_in, time_in, fields_in}
use Rattle.frame.specs.Rules as Rules
use Rattle.frame.specs.Table.{line, head_lines, value_lines, whole_lines, secondary_lines, trailer_lines, frame_lines}
use Rattle.frame.proofs.Tables.{holds}
use Rattle.frame.proofs.Stages.{no_secondary}
use Rattle.frame.proofs.Frames.{lengths_say}
use Rattle.packet.proofs.Passes.{inside_says, inside_made}
use Rattle.packet.specs.Read.{inside, window, body_checked, read_packet, packet_told}
use Rattle.promises.proofs.NumbersKept.{version_exactly, type_made, type_says, flags_exactly, channel_exactly, lengths_exactly, time_exactly}
use Rattle.promises.proofs.BodiesKept.{body_passes, messages_pass, messages_say}
use Rattle.promises.specs.Refusals.{OneOf, reader_refusals}
use Rattle.promises.specs.Numbers.{width, InFormat}
use Rattle.promises.specs.Bodies.{MessagesKept}
use Rattle.promises.specs.Keeps.{P, D, sum_place, time, Rule, within, enough, synced, header_sum, version, defined, flagged, channel, lengths, whole, secondary_sum, secondary, data_sum, filler, messages, Keeps}
use Rattle.promises.proofs.Again.{byte_below}
use Rattle.promises.proofs.Refusing.{Tested, last, tests, kept_all, all_kept, first_exactly, all_lines, number_is, numbers_are}

-- ---- 3: sync

sync_says : (w : List ℕ) → 24 ≤ length w → Rules.synced w ≡ true → take 2 w ≡ sync
sync_says [] h t = absurd (omega arith)
sync_says (a ∷ []) h t = absurd (omega arith)
sync_says (a ∷ b ∷ w) h t =
    let o = and_true (eqb a 0x25) (eqb b 0xEB) t in
    rw (eqb-true a 0x25 o.0, eqb-true b 0xEB o.1)

sync_made : (w : List ℕ) → take 2 w ≡ sync → Rules.synced w ≡ true
sync_made w e = sym (ap Rules.synced (take-append-drop 2 w)) ∙ ap (λ (l : List ℕ). Rules.synced (l ++ drop 2 w)) e

-- ---- 11 and 12: the secondary header

-- units at the front of a part are those of the list from there on
sum_of_part : (w : List ℕ) (at n unit k : ℕ) → unit * k ≤ length (part w at n) → checksum unit k (part w at n) ≡ sum_units unit k (drop at w) % 256 ^ unit
sum_of_part w at n unit k fits =
    ap (λ (x : ℕ). x % 256 ^ unit)
    (sym (sum_prefix unit k (part w at n) (drop n (drop at w)) fits) ∙ ap (sum_units unit k) (take-append-drop n (drop at w)))

-- where there is none, both tests pass
absent : (w : List ℕ) → secondary_bit (flags_in w) ≡ 0 → (Rules.secondary_summed w ≡ true) × (Rules.secondary_ok w ≡ true)
unfolding secondary_lines
absent w e =
    let h₁₁ = holds _ _ _ tt (sym (no_secondary w e)) in
    let h₁₂ = holds _ _ _ tt h₁₁.1 in
    (h₁₁.0, h₁₂.0)

-- where there is one
module _ (w : List ℕ) (there : secondary_bit (flags_in w) ≡ 1) where
  sum_there : 36 ≤ length w → checksum 2 5 (secondary_in w) ≡ sum_units 2 5 (drop 24 w) % 65536
  sum_there long = rw there (sum_of_part w 24 12 2 5 (omega (arith, length_part w 24 12 (omega arith))))

  field_there : (at n : ℕ) → at + n ≤ 12 → field (secondary_in w) at n ≡ field w (24 + at) n
  field_there at n h = rw there (field_part w 24 12 at n h)

  -- the time: low long word, high long word
  the_whole : time_in w ≡ time w
  the_whole = field_there 0 8 (omega arith) ∙ field_add w 24 4 4

-- there is one or there is none
bit_is : {A : Type 0} (w : List ℕ) → (secondary_bit (flags_in w) ≡ 1 → A) → (secondary_bit (flags_in w) ≡ 0 → A) → A
bit_is {A} w one none = go (dec_le 1 (secondary_bit (flags_in w)))
  where
    go : Dec (1 ≤ secondary_bit (flags_in w)) → A
    go (yes h) = one (omega arith)
    go (no h) = none (omega arith)

secondary_sum_exactly : (w : List ℕ) → body_at (flags_in w) ≤ length w
    → (Rules.secondary_summed w ≡ true) ↔ (secondary_bit (flags_in w) ≡ 1 → field w 34 2 ≡ sum_units 2 5 (drop 24 w) % 65536)
secondary_sum_exactly w long = (says, λ r. bit_is w (made r) (λ none. (absent w none).0))
  where
    says : Rules.secondary_summed w ≡ true → secondary_bit (flags_in w) ≡ 1 → field w 34 2 ≡ sum_units 2 5 (drop 24 w) % 65536
    says t there = sym (field_there w there 10 2 (omega arith)) ∙ sym (summed_says 2 5 (secondary_in w) t) ∙ sum_there w there (omega arith)

    made : (secondary_bit (flags_in w) ≡ 1 → field w 34 2 ≡ sum_units 2 5 (drop 24 w) % 65536) → secondary_bit (flags_in w) ≡ 1 → Rules.secondary_summed w ≡ true
    made r there = summed_made 2 5 (secondary_in w) (sum_there w there (omega arith) ∙ sym (r there) ∙ sym (field_there w there 10 2 (omega arith)))

-- what 12 says of the secondary header
record Secondary (w : List ℕ) : Type 0 where
  reserved : secondary_bit (flags_in w) ≡ 1 → field w 32 2 ≡ 0
  in_format : secondary_bit (flags_in w) ≡ 1 → InFormat (time_format (flags_in w)) (time w)

secondary_says : (w : List ℕ) → Rules.secondary_ok w ≡ true → Secondary w
secondary_says w t =
    let f = flags_in w in
    let o = and_true (eqb (reserved_in w) 0) (time_ok (rule_of (2 + time_format f)) (time_in w)) t in
    record {
      reserved = λ there. sym (field_there w there 8 2 (omega arith)) ∙ eqb-true (reserved_in w) 0 o.0;
      in_format = λ there. rw (the_whole w there) at ((time_exactly (time_format f) (time_in w)).0 o.1);
    }

secondary_made : (w : List ℕ) → Secondary w → Rules.secondary_ok w ≡ true
secondary_made w s = bit_is w made (λ none. (absent w none).1)
  where
    made : secondary_bit (flags_in w) ≡ 1 → Rules.secondary_ok w ≡ true
    made there =
        let m = time_format (flags_in w) in
        rw (eq-eqb (reserved_in w) 0 (field_there w there 8 2 (omega arith) ∙ s.reserved there))
        ((time_exactly m (time_in w)).1 (rw (the_whole w there) (s.in_format there)))

-- ---- 13: the data sum

-- the bytes from a to b in units of a sum's width, and the sum behind them
module _ (w : List ℕ) (a b unit : ℕ) (ordered : a ≤ b) (within : b ≤ length w) where
  abbrev tested : ℕ
  tested = checksum unit (length (part w a (b - a)) / unit) (part w a (b - a))

  abbrev added : ℕ
  added = sum_units unit ((b - a) / unit) (drop a w) % 256 ^ unit

  tested_added : tested ≡ added
  tested_added =
      let long : length (part w a (b - a)) ≡ b - a = length_part w a (b - a) (omega arith) in
      rw long (sum_of_part w a (b - a) unit ((b - a) / unit) (rw long (mul-div-le (b - a) unit)))

  -- where the width is 0 no sum is there, and 0 is 0
  data_sum_exactly : (eqb tested (field w b unit) ≡ true) ↔ (0 < unit → field w b unit ≡ added)
  data_sum_exactly = (
    λ t some. sym (eqb-true tested (field w b unit) t) ∙ tested_added,
    λ r. eq-eqb tested (field w b unit) (tested_added ∙ sym (made (dec_le 1 unit) r)),
  )
    where
      made : Dec (1 ≤ unit) → (0 < unit → field w b unit ≡ added) → field w b unit ≡ added
      made (yes h) r = r h
      made (no h) r = let z : unit ≡ 0 = omega arith in rw z (field_zero w b ∙ sym (mod-one _))

-- ---- 14: filler

-- the bytes from a to b
zeros_exactly : (w : List ℕ) (a b : ℕ) → b ≤ length w → (zeros (part w a (b - a)) ≡ true) ↔ ((i : ℕ) → a ≤ i → i < b → byte w i ≡ 0)
zeros_exactly w a b fits = (says, made)
  where
    shows : (i : ℕ) → i < b - a → get_or (part w a (b - a)) i 0 ≡ byte w (a + i)
    shows i h = get_or-take (b - a) (drop a w) i 0 h ∙ get_or-drop a w i 0

    says : zeros (part w a (b - a)) ≡ true → (i : ℕ) → a ≤ i → i < b → byte w i ≡ 0
    says t i from to =
        let n = length (part w a (b - a)) in
        let long : n ≡ b - a = length_part w a (b - a) (omega arith) in
        let place : a + (i - a) ≡ i = omega arith in
        sym (ap (byte w) place)
        ∙ sym (shows (i - a) (omega arith))
        ∙ ap (λ (l : List ℕ). get_or l (i - a) 0) (zeros_are (part w a (b - a)) t)
        ∙ get_or-replicate n (i - a) 0 0 (omega arith)

    made : ((i : ℕ) → a ≤ i → i < b → byte w i ≡ 0) → zeros (part w a (b - a)) ≡ true
    made r =
        zeros_true (part w a (b - a)) λ i h.
        let in-part : i < b - a = omega (arith, h, length-take (b - a) (drop a w)) in
        shows i in-part ∙ r (a + i) (omega arith) (omega arith)

-- ---- a rule that is kept passes its test

module _ (buf : List ℕ) (s e base : ℕ) (w : List ℕ) where
  passes₁ : Rule buf s e base w 1 → inside buf s e base ≡ true
  passes₁ (within ordered filled fits) = inside_made buf s e base (record { ordered = ordered; within = filled; fits = omega (arith, fits) })

  passes₂ : Rule buf s e base w 2 → Rules.enough w ≡ true
  passes₂ (enough h) = le-leb 24 (length w) h

  passes₃ : Rule buf s e base w 3 → Rules.synced w ≡ true
  passes₃ (synced h) = sync_made w h

  passes₄ : Rule buf s e base w 4 → Rules.header_summed w ≡ true
  passes₄ (header_sum h) = summed_made 2 11 w (sym h)

  passes₅ : Rule buf s e base w 5 → Rules.version_ok (version_in w) ≡ true
  passes₅ (version h) = (version_exactly (version_in w)).1 h

  passes₆ : Rule buf s e base w 6 → Rules.type_ok (kind_in w) ≡ true
  passes₆ (defined h) = type_made (kind_in w) h

  passes₇ : Rule buf s e base w 7 → Rules.flags_ok (flags_in w) ≡ true
  passes₇ (flagged h) = (flags_exactly (flags_in w)).1 h

  passes₈ : Rule buf s e base w 8 → Rules.channel_ok (channel_in w) (kind_in w) ≡ true
  passes₈ (channel h) = (channel_exactly (channel_in w) (kind_in w)).1 h

  passes₉ : Rule buf s e base w 9 → Rules.lengths_ok (kind_in w) (flags_in w) (P w) (D w) ≡ true
  passes₉ (lengths h) = (lengths_exactly (kind_in w) (flags_in w) (P w) (D w)).1 h

  passes₁₀ : Rule buf s e base w 10 → Rules.whole w ≡ true
  passes₁₀ (whole h) = le-leb (P w) (length w) h

  passes₁₁ : body_at (flags_in w) ≤ length w → Rule buf s e base w 11 → Rules.secondary_summed w ≡ true
  passes₁₁ long (secondary_sum h) = (secondary_sum_exactly w long).1 h

  passes₁₂ : Rule buf s e base w 12 → Rules.secondary_ok w ≡ true
  passes₁₂ (secondary reserved in_format) = secondary_made w (record { reserved = reserved; in_format = in_format })

  passes₁₃ : body_at (flags_in w) ≤ sum_place w → sum_place w ≤ length w → Rule buf s e base w 13 → Rules.data_summed w ≡ true
  passes₁₃ behind long (data_sum h) = (data_sum_exactly w (body_at (flags_in w)) (sum_place w) (width (flags_in w)) behind long).1 h

  passes₁₄ : sum_place w ≤ length w → Rule buf s e base w 14 → Rules.filler_ok w ≡ true
  passes₁₄ long (filler h) = (zeros_exactly w (body_at (flags_in w) + D w) (sum_place w) long).1 h

  -- the messages of a body that keeps 15
  pub kept_messages : Rule buf s e base w 15 → MessagesKept (kind_in w) (flags_in w) (body_in w)
  kept_messages (messages h) = h

  passes₁₅ : Rule buf s e base w 15 → body_passes (body_checked w) ≡ true
  unfolding fields_in body_checked
  passes₁₅ r = messages_pass (kind_in w) (flags_in w) (body_in w) (kept_messages r)

-- ---- and a test that is passed says its rule, where those before it are kept

module _ (buf : List ℕ) (s e base : ℕ) (w : List ℕ) (raw : Bytes w) where
  abbrev Holds : ℕ → Type 0
  Holds = Rule buf s e base w

  says₁ : inside buf s e base ≡ true → Holds 1
  says₁ t = let i = inside_says buf s e base t in within i.ordered i.within (omega (arith, i.fits))

  says₁₂ : Rules.secondary_ok w ≡ true → Holds 12
  says₁₂ t = let r = secondary_says w t in secondary r.reserved r.in_format

  says₁₅ : body_passes (body_checked w) ≡ true → Holds 15
  unfolding fields_in body_checked
  says₁₅ t = messages (messages_say (kind_in w) (flags_in w) (body_in w) (bytes_part w (body_at (flags_in w)) (D w) raw) t)

  -- from 11 on, of a packet that is there
  trailing : unfilled_length (flags_in w) (D w) ≤ P w → P w ≤ length w
      → Tested Holds (secondary_lines w ++ (trailer_lines w ++ (line 15 (body_passes (body_checked w)) ∷ [])))
  unfolding secondary_lines trailer_lines
  trailing parts there =
      let f = flags_in w in
      let sum = sum_place w in
      let long : body_at f ≤ length w = omega (arith, parts, there) in
      let behind : body_at f ≤ sum = omega (arith, parts) in
      let before : sum ≤ length w = omega (arith, there) in
      let sum_is_lem = (secondary_sum_exactly w long).0 in
      let data_is = (data_sum_exactly w (body_at f) sum (width f) behind before).0 in
      let zeros_are = (zeros_exactly w (body_at f + D w) sum before).0 in
      tests (λ t. secondary_sum (sum_is_lem t)) (passes₁₁ buf s e base w long) λ _.
      tests says₁₂ (passes₁₂ buf s e base w) λ _.
      tests (λ t. data_sum (data_is t)) (passes₁₃ buf s e base w behind before) λ _.
      tests (λ t. filler (zeros_are t)) (passes₁₄ buf s e base w before) λ _.
      tests says₁₅ (passes₁₅ buf s e base w) λ _.
      last

  -- from 1 on
  table_tested : Tested Holds (line 1 (inside buf s e base) ∷ (frame_lines w ++ (line 15 (body_passes (body_checked w)) ∷ [])))
  unfolding frame_lines head_lines value_lines whole_lines secondary_lines trailer_lines
  table_tested =
      tests says₁ (passes₁ buf s e base w) λ _.
      tests (λ t. enough (leb-true 24 (length w) t)) (passes₂ buf s e base w) λ t₂.
      tests (λ t. synced (sync_says w (leb-true 24 (length w) t₂) t)) (passes₃ buf s e base w) λ _.
      tests (λ t. header_sum (sym (summed_says 2 11 w t))) (passes₄ buf s e base w) λ _.
      tests (λ t. version ((version_exactly (version_in w)).0 t)) (passes₅ buf s e base w) λ _.
      tests (λ t. defined (type_says (kind_in w) (byte_below w 15 raw) t)) (passes₆ buf s e base w) λ _.
      tests (λ t. flagged ((flags_exactly (flags_in w)).0 t)) (passes₇ buf s e base w) λ _.
      tests (λ t. channel ((channel_exactly (channel_in w) (kind_in w)).0 t)) (passes₈ buf s e base w) λ _.
      tests (λ t. lengths ((lengths_exactly (kind_in w) (flags_in w) (P w) (D w)).0 t)) (passes₉ buf s e base w) λ t₉.
      tests (λ t. whole (leb-true (P w) (length w) t)) (passes₁₀ buf s e base w) λ t₁₀.
      trailing (lengths_say (kind_in w) (flags_in w) (P w) (D w) t₉).parts (leb-true (P w) (length w) t₁₀)

-- ---- accepted exactly when every rule holds, and refused with n exactly when n is the first that does not

module _ (buf : List ℕ) (raw : Bytes buf) (start end base : ℕ) where
  abbrev Kept : ℕ → Type 0
  Kept = Rule buf start end base (window buf start end)

  all_tested : Tested Kept (all_lines buf start end base)
  unfolding all_lines
  all_tested = table_tested buf start end base (window buf start end) (bytes_part buf start (end - start) raw)

  pub accepted_exactly : ((packet_told (read_packet buf start end base)).refusal.number ≡ 0) ↔ Keeps buf start end base (window buf start end)
  accepted_exactly =
      let are = numbers_are buf start end base in
      rw (number_is buf start end base) (rw are at (kept_all Kept all_tested (rw are)), rw are at (all_kept Kept all_tested))

  pub refused_exactly : (before : List ℕ) (n : ℕ) (after : List ℕ) → reader_refusals ≡ before ++ (n ∷ after)
      → ((packet_told (read_packet buf start end base)).refusal.number ≡ n)
      ↔ (((m : ℕ) → OneOf m before → Rule buf start end base (window buf start end) m) × (¬ Rule buf start end base (window buf start end) n))
  refused_exactly before n after is =
      rw (number_is buf start end base)
      (first_exactly Kept all_tested before n after (rw (numbers_are buf start end base)) (numbers_are buf start end base ∙ is))
