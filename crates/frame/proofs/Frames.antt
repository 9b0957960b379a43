-- What a window whose frame is let through says, rule by rule, and that what stands behind its packet has no say.
use mathlib.Core.Path.{◌≡◌, refl, sym, ap, ◌∙◌}
use mathlib.Core.List.{List, ◌++◌}
use mathlib.Core.Bool.{Bool, true, false, ◌&&◌}
use Prim.Native.Nat.{ℕ, ◌+◌, ◌-◌, ◌%◌, ◌≤◌, ◌<◌}
use native.Mathlib.Omega.{arith}
use lib.ListN.{length, take, drop, length-append, get_or-append, take-append-drop}
use lib.Seq.{length-take-le}
use lib.Dec.{T, eqb, leb}
use borrow.Author.Tests.{eqb-true, eq-eqb, leb-true, leb-false, le-leb, lt-leb}
use Rattle.std.specs.Prelude.{Result, Ok}
use Rattle.terms.specs.declared.Number.{Number}
use Rattle.terms.specs.Numbers.{told}
use Rattle.units.specs.Units.{summed}
use Rattle.units.specs.Choice.{pick}
use Rattle.units.proofs.Choices.{and_true, same_test}
use Rattle.units.proofs.Parts.{part_front, field_front}
use Rattle.units.proofs.Sums.{sum_prefix}
use Rattle.frame.specs.Header.{byte, channel_in, packet_length, data_length, version_in, flags_in, kind_in, header_sum_in, secondary_length, sum_length, body_at, unfilled_length, length_for, filler_at, sum_at, filler_length, secondary_in, body_in, filler_in, body_and_filler_in, data_sum_in, fields_in}
use Rattle.frame.specs.Rules.{version_ok, type_ok, flags_ok, channel_ok, limit, lengths_ok, enough, synced, header_summed, whole, secondary_summed, secondary_ok, data_summed, filler_ok}
use Rattle.frame.specs.Table.{first, head_lines, value_lines, values_in, whole_lines, secondary_lines, trailer_lines, frame_lines}
use Rattle.frame.specs.inner.Lengths.{Sound}
use Rattle.frame.proofs.Tables.{holds, numbered, stage_none, stage_same, stage_first, stage_second}

-- ---- the parts of the table

pub head_numbered : (w : List ℕ) → T (numbered (head_lines w))
unfolding head_lines
head_numbered w = tt

pub value_numbered : (channel version flags kind p d : ℕ) → T (numbered (value_lines channel version flags kind p d))
unfolding value_lines
value_numbered channel version flags kind p d = tt

pub whole_numbered : (w : List ℕ) → T (numbered (whole_lines w))
unfolding whole_lines
whole_numbered w = tt

pub secondary_numbered : (w : List ℕ) → T (numbered (secondary_lines w))
unfolding secondary_lines
secondary_numbered w = tt

-- each part lets the window through
pub record Parted (w : List ℕ) : Type 0 where
  pub head : first (head_lines w) ≡ 0
  pub values : first (values_in w) ≡ 0
  pub there : first (whole_lines w) ≡ 0
  pub secondary : first (secondary_lines w) ≡ 0
  pub trailer : first (trailer_lines w) ≡ 0

pub parted : (w : List ℕ) → first (frame_lines w) ≡ 0 → Parted w
unfolding frame_lines
parted w e =
    let e₁ = stage_second (head_lines w) _ (head_numbered w) e in
    let e₂ = stage_second (values_in w) _ (value_numbered _ _ _ _ _ _) e₁ in
    let e₃ = stage_second (whole_lines w) _ (whole_numbered w) e₂ in
    let e₄ = stage_second (secondary_lines w) _ (secondary_numbered w) e₃ in
    record {
      head = stage_first (head_lines w) _ e;
      values = stage_first (values_in w) _ e₁;
      there = stage_first (whole_lines w) _ e₂;
      secondary = stage_first (secondary_lines w) _ e₃;
      trailer = e₄;
    }

pub parted_passes : (w : List ℕ) → Parted w → first (frame_lines w) ≡ 0
unfolding frame_lines
parted_passes w p =
    stage_none (head_lines w) _ (head_numbered w) p.head
    ∙ stage_none (values_in w) _ (value_numbered _ _ _ _ _ _) p.values
    ∙ stage_none (whole_lines w) _ (whole_numbered w) p.there
    ∙ stage_none (secondary_lines w) _ (secondary_numbered w) p.secondary
    ∙ p.trailer

-- ---- the rules by name

-- 5 to 9, of numbers
pub record Valued (channel version flags kind p d : ℕ) : Type 0 where
  pub version_ok : version_ok version ≡ true
  pub type_ok : type_ok kind ≡ true
  pub flags_ok : flags_ok flags ≡ true
  pub channel_ok : channel_ok channel kind ≡ true
  pub lengths_ok : lengths_ok kind flags p d ≡ true

pub valued_says : (channel version flags kind p d : ℕ) → first (value_lines channel version flags kind p d) ≡ 0 → Valued channel version flags kind p d
unfolding value_lines
valued_says channel version flags kind p d e =
    let h₅ = holds _ _ _ tt e in
    let h₆ = holds _ _ _ tt h₅.1 in
    let h₇ = holds _ _ _ tt h₆.1 in
    let h₈ = holds _ _ _ tt h₇.1 in
    let h₉ = holds _ _ _ tt h₈.1 in
    record { version_ok = h₅.0; type_ok = h₆.0; flags_ok = h₇.0; channel_ok = h₈.0; lengths_ok = h₉.0 }

pub valued_passes : (channel version flags kind p d : ℕ) → Valued channel version flags kind p d → first (value_lines channel version flags kind p d) ≡ 0
unfolding value_lines first
valued_passes channel version flags kind p d v = rw (v.version_ok, v.type_ok, v.flags_ok, v.channel_ok, v.lengths_ok)

-- 2 to 14, of a window's bytes
pub record Framed (w : List ℕ) : Type 0 where
  pub enough : enough w ≡ true
  pub synced : synced w ≡ true
  pub header_summed : header_summed w ≡ true
  pub values : Valued (channel_in w) (version_in w) (flags_in w) (kind_in w) (packet_length w) (data_length w)
  pub whole : whole w ≡ true
  pub secondary_summed : secondary_summed w ≡ true
  pub secondary_ok : secondary_ok w ≡ true
  pub data_summed : data_summed w ≡ true
  pub filler_ok : filler_ok w ≡ true

pub framed_says : (w : List ℕ) → first (frame_lines w) ≡ 0 → Framed w
unfolding head_lines whole_lines secondary_lines trailer_lines
framed_says w e =
    let p = parted w e in
    let h₂ = holds _ _ _ tt p.head in
    let h₃ = holds _ _ _ tt h₂.1 in
    let h₄ = holds _ _ _ tt h₃.1 in
    let h₁₀ = holds _ _ _ tt p.there in
    let h₁₁ = holds _ _ _ tt p.secondary in
    let h₁₂ = holds _ _ _ tt h₁₁.1 in
    let h₁₃ = holds _ _ _ tt p.trailer in
    let h₁₄ = holds _ _ _ tt h₁₃.1 in
    record {
      enough = h₂.0;
      synced = h₃.0;
      header_summed = h₄.0;
      values = valued_says _ _ _ _ _ _ p.values;
      whole = h₁₀.0;
      secondary_summed = h₁₁.0;
      secondary_ok = h₁₂.0;
      data_summed = h₁₃.0;
      filler_ok = h₁₄.0;
    }

pub framed_passes : (w : List ℕ) → Framed w → first (frame_lines w) ≡ 0
unfolding head_lines whole_lines secondary_lines trailer_lines first
framed_passes w f =
    parted_passes w
    (record {
      head = rw (f.enough, f.synced, f.header_summed);
      values = valued_passes _ _ _ _ _ _ f.values;
      there = rw f.whole;
      secondary = rw (f.secondary_summed, f.secondary_ok);
      trailer = rw (f.data_summed, f.filler_ok);
    })

-- ---- what 2 to 10 leave

pub limit_cap : (kind : ℕ) → limit kind ≤ 134217728
unfolding limit
limit_cap kind = either (eqb kind 0x01)
  where
    either : (t : Bool) → pick t 134217728 524288 ≤ 134217728
    either true = omega arith
    either false = omega arith

pub head_enough : (w : List ℕ) → first (head_lines w) ≡ 0 → 24 ≤ length w
unfolding head_lines
head_enough w e = leb-true 24 (length w) (holds _ _ _ tt e).0

-- what the length rules say of P and D
pub record Lengths (kind flags p d : ℕ) : Type 0 where
  pub fours : p % 4 ≡ 0
  pub within : p ≤ limit kind
  pub some : 1 ≤ d
  pub parts : unfilled_length flags d ≤ p
  pub few : p ≤ unfilled_length flags d + 3

pub lengths_say : (kind flags p d : ℕ) → lengths_ok kind flags p d ≡ true → Lengths kind flags p d
lengths_say kind flags p d e =
    let parts = unfilled_length flags d in
    let a = eqb (p % 4) 0 in
    let b = leb p (limit kind) in
    let c = leb 1 d in
    let o₅ = and_true (a && b && c && leb parts p) (leb p (parts + 3)) e in
    let o₄ = and_true (a && b && c) (leb parts p) o₅.0 in
    let o₃ = and_true (a && b) c o₄.0 in
    let o₂ = and_true a b o₃.0 in
    record {
      fours = eqb-true (p % 4) 0 o₂.0;
      within = leb-true p (limit kind) o₂.1;
      some = leb-true 1 d o₃.1;
      parts = leb-true parts p o₄.1;
      few = leb-true p (parts + 3) o₅.1;
    }

-- the rule that the reader tests leaves one P for each D, the writer's
pub length_is : (kind flags p d : ℕ) → lengths_ok kind flags p d ≡ true → p ≡ length_for flags d
length_is kind flags p d e = let l = lengths_say kind flags p d e in omega (arith, l.fours, l.parts, l.few)

pub length_kept : (kind flags d : ℕ) → 1 ≤ d → length_for flags d ≤ limit kind → lengths_ok kind flags (length_for flags d) d ≡ true
length_kept kind flags d some within =
    let p = length_for flags d in
    rw (
      eq-eqb (p % 4) 0 (omega arith),
      le-leb p (limit kind) within,
      le-leb 1 d some,
      le-leb (unfilled_length flags d) p (omega arith),
      le-leb p (unfilled_length flags d + 3) (omega arith),
    )

-- the code's tests of the lengths
pub limit_small : (kind p : ℕ) → p ≤ 524288 → true ≡ leb p (limit kind)
unfolding limit
limit_small kind p h = go (eqb kind 0x01)
  where
    go : (b : Bool) → true ≡ leb p (pick b 134217728 524288)
    go true = sym (le-leb p 134217728 (omega arith))
    go false = sym (le-leb p 524288 h)

pub limit_large : (kind p : ℕ) → 524288 < p → (eqb kind 0x01 && leb p 134217728) ≡ leb p (limit kind)
unfolding limit
limit_large kind p h = go (eqb kind 0x01)
  where
    go : (b : Bool) → (b && leb p 134217728) ≡ leb p (pick b 134217728 524288)
    go true = refl
    go false = sym (lt-leb p 524288 h)

pub lengths_test : (kind flags p d q : ℕ) (within : Bool) → q ≡ length_for flags d → within ≡ leb p (limit kind)
    → (eqb p q && within && leb 1 d) ≡ lengths_ok kind flags p d
lengths_test kind flags p d q within is l = rw (is, l) (same_test _ (lengths_ok kind flags p d) kept made)
  where
    kept : (eqb p (length_for flags d) && leb p (limit kind) && leb 1 d) ≡ true → lengths_ok kind flags p d ≡ true
    kept t =
        let a = and_true (eqb p (length_for flags d) && leb p (limit kind)) (leb 1 d) t in
        let b = and_true (eqb p (length_for flags d)) (leb p (limit kind)) a.0 in
        let e : p ≡ length_for flags d = eqb-true p (length_for flags d) b.0 in
        rw e (length_kept kind flags d (leb-true 1 d a.1) (leb-true (length_for flags d) (limit kind) (rw e at b.1)))

    made : lengths_ok kind flags p d ≡ true → (eqb p (length_for flags d) && leb p (limit kind) && leb 1 d) ≡ true
    made t =
        let l = lengths_say kind flags p d t in
        rw (eq-eqb p (length_for flags d) (length_is kind flags p d t), le-leb p (limit kind) l.within, le-leb 1 d l.some)

pub sound : (w : List ℕ) → first (head_lines w) ≡ 0 → first (values_in w) ≡ 0 → first (whole_lines w) ≡ 0 → Sound w
unfolding whole_lines
sound w head values there =
    let n = lengths_say (kind_in w) (flags_in w) (packet_length w) (data_length w) (valued_says _ _ _ _ _ _ values).lengths_ok in
    record {
      header = head_enough w head;
      there = leb-true _ _ (holds _ _ _ tt there).0;
      capped = omega (arith, n.within, limit_cap (kind_in w));
      parts = n.parts;
      some = n.some;
      fours = n.fours;
    }

pub frame_sound : (w : List ℕ) → first (frame_lines w) ≡ 0 → Sound w
frame_sound w e = let p = parted w e in sound w p.head p.values p.there

-- a test of these bytes that named no refusal
pub passed_sound : {A : Type 0} (w bs : List ℕ) (a : A) (r : Result A Number) → bs ≡ w → r ≡ Ok a → told r ≡ first (frame_lines bs) → Sound w
passed_sound w bs a r same is e = frame_sound w (rw (← same) (sym e ∙ ap told is))

-- ---- what stands behind a packet

-- v holds a header; t is what stands behind v
module _ (v t : List ℕ) (header : 24 ≤ length v) where
  byte_front : (i : ℕ) → i < 24 → byte (v ++ t) i ≡ byte v i
  byte_front i h = get_or-append v t 0 i (omega arith)

  pub head_front : head_lines (v ++ t) ≡ head_lines v
  unfolding head_lines summed
  head_front =
      let long : enough (v ++ t) ≡ enough v = le-leb 24 (length (v ++ t)) (omega (arith, length-append v t)) ∙ sym (le-leb 24 (length v) header) in
      rw (long, byte_front 0 (omega arith), byte_front 1 (omega arith), sum_prefix 2 11 v t (omega arith), field_front v t 22 2 (omega arith))

  pub values_front : values_in (v ++ t) ≡ values_in v
  values_front =
      rw (
        field_front v t 2 2 (omega arith),
        byte_front 12 (omega arith),
        byte_front 14 (omega arith),
        byte_front 15 (omega arith),
        field_front v t 4 4 (omega arith),
        field_front v t 8 4 (omega arith),
      )

-- v holds all of the packet that it declares
module _ (v t : List ℕ) (header : 24 ≤ length v) (there : packet_length v ≤ length v) (parts : unfilled_length (flags_in v) (data_length v) ≤ packet_length v) where
  pub flags_front : flags_in (v ++ t) ≡ flags_in v
  flags_front = byte_front v t header 14 (omega arith)

  pub kind_front : kind_in (v ++ t) ≡ kind_in v
  kind_front = byte_front v t header 15 (omega arith)

  pub packet_length_front : packet_length (v ++ t) ≡ packet_length v
  packet_length_front = field_front v t 4 4 (omega arith)

  pub data_length_front : data_length (v ++ t) ≡ data_length v
  data_length_front = field_front v t 8 4 (omega arith)

  pub head_sum_front : header_sum_in (v ++ t) ≡ header_sum_in v
  head_sum_front = field_front v t 22 2 (omega arith)

  pub filler_at_front : filler_at (v ++ t) ≡ filler_at v
  filler_at_front = rw (flags_front, data_length_front)

  pub sum_at_front : sum_at (v ++ t) ≡ sum_at v
  sum_at_front = rw (flags_front, packet_length_front)

  secondary_front : secondary_in (v ++ t) ≡ secondary_in v
  secondary_front = rw flags_front (part_front v t 24 (secondary_length (flags_in v)) (omega arith))

  pub body_front : body_in (v ++ t) ≡ body_in v
  body_front = rw (flags_front, data_length_front) (part_front v t (body_at (flags_in v)) (data_length v) (omega arith))

  filler_front : filler_in (v ++ t) ≡ filler_in v
  filler_front = rw (filler_at_front, sum_at_front) (part_front v t (filler_at v) (filler_length v) (omega arith))

  filled_front : body_and_filler_in (v ++ t) ≡ body_and_filler_in v
  filled_front = rw (sum_at_front, flags_front) (part_front v t (body_at (flags_in v)) (sum_at v - body_at (flags_in v)) (omega arith))

  pub data_sum_front : data_sum_in (v ++ t) ≡ data_sum_in v
  data_sum_front = rw (sum_at_front, flags_front) (field_front v t (sum_at v) (sum_length (flags_in v)) (omega arith))

  pub fields_front : fields_in (v ++ t) ≡ fields_in v
  unfolding fields_in
  fields_front =
      rw (
        secondary_front,
        field_front v t 2 2 (omega arith),
        byte_front v t header 12 (omega arith),
        byte_front v t header 13 (omega arith),
        flags_front,
        kind_front,
        field_front v t 16 6 (omega arith),
      )

  whole_front : whole_lines (v ++ t) ≡ whole_lines v
  unfolding whole_lines
  whole_front =
      rw (
        packet_length_front,
        le-leb (packet_length v) (length (v ++ t)) (omega (arith, length-append v t)),
        le-leb (packet_length v) (length v) there,
      )

  secondary_lines_front : secondary_lines (v ++ t) ≡ secondary_lines v
  unfolding secondary_lines
  secondary_lines_front = rw (secondary_front, flags_front)

  trailer_front : trailer_lines (v ++ t) ≡ trailer_lines v
  unfolding trailer_lines
  trailer_front = rw (filled_front, data_sum_front, filler_front, flags_front)

  pub frame_front : frame_lines (v ++ t) ≡ frame_lines v
  unfolding frame_lines
  frame_front = rw (head_front v t header, values_front v t header, whole_front, secondary_lines_front, trailer_front)

-- what is said of a packet is the same whatever stands behind it
abbrev pub OfFront : {A : Type 0} → (List ℕ → A) → Type 0
OfFront said =
    (v t : List ℕ) → 24 ≤ length v → packet_length v ≤ length v → unfilled_length (flags_in v) (data_length v) ≤ packet_length v → said (v ++ t) ≡ said v

-- then it depends on a sound packet's declared length of bytes alone
pub own_bytes_lem : {A : Type 0} (said : List ℕ → A) → OfFront said → (w u : List ℕ) → Sound w
    → take (packet_length w) u ≡ take (packet_length w) w → said u ≡ said w
own_bytes_lem said front w u s same =
    let p = packet_length w in
    let v = take p w in
    let e : v ++ drop p w ≡ w = take-append-drop p w in
    let g : v ++ drop p u ≡ u = ap (λ (x : List ℕ). x ++ drop p u) (sym same) ∙ take-append-drop p u in
    let l : length v ≡ p = length-take-le p w s.there in
    let p-is : p ≡ packet_length v = ap packet_length (sym e) ∙ field_front v (drop p w) 4 4 (omega (arith, s.parts)) in
    let d : data_length w ≡ data_length v = ap data_length (sym e) ∙ field_front v (drop p w) 8 4 (omega (arith, s.parts)) in
    let f : flags_in w ≡ flags_in v = ap flags_in (sym e) ∙ get_or-append v (drop p w) 0 14 (omega (arith, s.parts)) in
    let parts : unfilled_length (flags_in v) (data_length v) ≤ packet_length v = rw (← d, ← f, ← p-is) s.parts in
    let alone : (t : List ℕ) → said (v ++ t) ≡ said v = λ (t : List ℕ). front v t (omega (arith, s.parts)) (omega arith) parts in
    ap said (sym g) ∙ alone (drop p u) ∙ sym (alone (drop p w)) ∙ ap said e

-- ---- a longer fill

pub short_2 : (w : List ℕ) → length w < 24 → first (frame_lines w) ≡ 2
unfolding frame_lines head_lines first
short_2 w h = rw (lt-leb 24 (length w) h)

cut_10 : (w : List ℕ) → first (head_lines w) ≡ 0 → first (values_in w) ≡ 0 → length w < packet_length w → first (frame_lines w) ≡ 10
unfolding frame_lines whole_lines first
cut_10 w head values h =
    stage_none (head_lines w) _ (head_numbered w) head
    ∙ stage_none (values_in w) _ (value_numbered _ _ _ _ _ _) values
    ∙ rw (lt-leb (packet_length w) (length w) h)

-- a number that is neither 2 nor 10 stays
pub frame_longer : (v t : List ℕ) → (first (frame_lines v) ≡ 2 → ⊥) → (first (frame_lines v) ≡ 10 → ⊥) → first (frame_lines (v ++ t)) ≡ first (frame_lines v)
unfolding frame_lines
frame_longer v t not-2 not-10 = header (leb 24 (length v)) refl
  where
    behind : (b : Bool) → leb (packet_length v) (length v) ≡ b → 24 ≤ length v → first (head_lines v) ≡ 0 → first (values_in v) ≡ 0
        → first (whole_lines (v ++ t) ++ (secondary_lines (v ++ t) ++ trailer_lines (v ++ t))) ≡ first (whole_lines v ++ (secondary_lines v ++ trailer_lines v))
    behind true h long head values =
        let there = leb-true (packet_length v) (length v) h in
        let parts = (lengths_say (kind_in v) (flags_in v) (packet_length v) (data_length v) (valued_says _ _ _ _ _ _ values).lengths_ok).parts in
        rw (whole_front v t long there parts, secondary_lines_front v t long there parts, trailer_front v t long there parts)
    behind false h long head values = absurd (not-10 (cut_10 v head values (leb-false (packet_length v) (length v) h)))

    header : (b : Bool) → leb 24 (length v) ≡ b → first (frame_lines (v ++ t)) ≡ first (frame_lines v)
    header true h =
        let long = leb-true 24 (length v) h in
        rw (head_front v t long, values_front v t long)
        (stage_same (head_lines v) _ _ λ head. stage_same (values_in v) _ _ λ values. behind (leb (packet_length v) (length v)) refl long head values)
    header false h = absurd (not-2 (short_2 v (leb-false 24 (length v) h)))

-- 10 waits for P bytes
pub cut_longer : (v t : List ℕ) → 24 ≤ length v → first (head_lines v) ≡ 0 → first (values_in v) ≡ 0 → length (v ++ t) < packet_length v → first (frame_lines (v ++ t)) ≡ 10
cut_longer v t long head values h =
    cut_10 (v ++ t) (ap first (head_front v t long) ∙ head) (ap first (values_front v t long) ∙ values) (rw (field_front v t 4 4 (omega arith)) h)
