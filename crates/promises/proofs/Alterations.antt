-- A packet that the writer accepts, altered in a single unit, is refused with the number that names it, whatever stands behind it;
-- and no byte that the demand speaks of is in none of the units.
use mathlib.Core.Path.{◌≡◌, refl, sym, ap, subst, ◌∙◌}
use mathlib.Core.List.{List, ◌++◌, append_assoc}
use mathlib.Core.Logic.{◌⊎◌, inl, inr, ⊎_elim, ◌≢◌}
use Prim.Native.Nat.{ℕ, zero, suc, ◌+◌, ◌-◌, ◌*◌, ◌/◌, ◌%◌, ◌≤◌, ◌<◌}
use native.Mathlib.Omega.{arith}
use native.Mathlib.Decide.{dec_lt}
use lib.ListN.{length, take, drop, length-drop, take-append-drop}
use lib.Seq.{take_at, length-take-le, drop-drop, get_or-take, get_or-drop, ext_get_or}
use Rattle.units.specs.Units.{Bytes, part, splice, Changed}
use Rattle.frame.specs.Sums.{sum_width}
use Rattle.units.proofs.Numbers.{bytes_append, bytes_take, bytes_drop}
use Rattle.units.proofs.Writes.{length_splice, drop_splice, part_splice_before}
use Rattle.units.proofs.Parts.{length_part, bytes_part}
use Rattle.frame.specs.Header.{byte, packet_length, flags_in, fields_in, sum_length, body_at}
use Rattle.frame.specs.declared.Fields.{Fields}
use Rattle.frame.specs.Table.{first, frame_lines}
use Rattle.frame.proofs.Frames.{Framed, framed_says, framed_passes, flags_front, packet_length_front, frame_front, OfFront}
use Rattle.frame.specs.Contents.{Contents, contents_length}
use Rattle.packet_bytes.specs.Bytes.{packet_bytes}
use Rattle.promises.specs.Contents.{Typed, Accepts}
use Rattle.promises.specs.Altered.{flags_of, UnitOf, sync, primary, secondary, trailer, AlteredAt, Altered}
use Rattle.promises.proofs.Writer.{length_of_lem, accepts_writable}
use Rattle.promises.proofs.Written.{written_bytes, written_length, written_fields, written_framed, written_sound}
use Rattle.promises.proofs.Spoilt.{sync_refused, primary_refused, secondary_refused, trailer_refused}

-- ---- a change told by its bytes is one unit replaced

three_parts : (at n : ℕ) (xs : List ℕ) → xs ≡ take at xs ++ (part xs at n ++ drop (at + n) xs)
three_parts at n xs = rw (← drop-drop n at xs, take-append-drop n (drop at xs), take-append-drop at xs)

changed_at : (at n : ℕ) (xs ys : List ℕ) → at + n ≤ length xs → AlteredAt at n xs ys → Changed at n xs ys
changed_at at n xs ys room c =
    record {
      front = take at xs;
      old = part xs at n;
      new = part ys at n;
      back = drop (at + n) xs;
      was = three_parts at n xs;
      is = is;
      place = length-take-le at xs (omega arith);
      old_width = length_part xs at n room;
      new_width = length_part ys at n (omega (arith, c.long));
      new_bytes = bytes_part ys at n c.bytes;
      differs = λ e. c.differs (is ∙ ap (λ (u : List ℕ). take at xs ++ (u ++ drop (at + n) xs)) (sym e) ∙ sym (three_parts at n xs));
    }
  where
    fronts : take at ys ≡ take at xs
    fronts =
        let l₁ : length (take at ys) ≡ at = length-take-le at ys (omega (arith, c.long)) in
        let l₂ : length (take at xs) ≡ at = length-take-le at xs (omega arith) in
        ext_get_or 0 (take at ys) (take at xs) (l₁ ∙ sym l₂) λ i h.
        get_or-take at ys i 0 (omega arith) ∙ c.same i (inl (omega arith)) ∙ sym (get_or-take at xs i 0 (omega arith))

    backs : drop (at + n) ys ≡ drop (at + n) xs
    backs =
        ext_get_or 0 (drop (at + n) ys) (drop (at + n) xs) (rw (length-drop, length-drop, c.long)) λ i h.
        get_or-drop (at + n) ys i 0 ∙ c.same (at + n + i) (inr (omega arith)) ∙ sym (get_or-drop (at + n) xs i 0)

    is : ys ≡ take at xs ++ (part ys at n ++ drop (at + n) xs)
    is = rw (← fronts, ← backs) (three_parts at n ys)

-- ---- the packet altered is refused

changed_front : (at n : ℕ) (xs ys t : List ℕ) → Changed at n xs ys → Changed at n (xs ++ t) (ys ++ t)
changed_front at n xs ys t c =
    record {
      front = c.front;
      old = c.old;
      new = c.new;
      back = c.back ++ t;
      was = rw c.was (simp append_assoc);
      is = rw c.is (simp append_assoc);
      place = c.place;
      old_width = c.old_width;
      new_width = c.new_width;
      new_bytes = c.new_bytes;
      differs = c.differs;
    }

unit_room : (c : Contents) (n at width : ℕ) → UnitOf c n at width → at + width ≤ length (packet_bytes c)
unit_room c n at width sync = omega (arith, length_of_lem c)
unit_room c n _ width (primary j some most) = omega (arith, length_of_lem c)
unit_room c n _ width (secondary j most) = omega (arith, length_of_lem c)
unit_room c n _ width (trailer j some most) = most

module _ (c : Contents) (a : Accepts c) (rest : List ℕ) where
  abbrev whole : List ℕ
  whole = packet_bytes c ++ rest

  -- what is said of the packet alone
  front : {A : Type 0} (said : List ℕ → A) → OfFront said → said whole ≡ said (packet_bytes c)
  front said law =
      let s = written_sound c a.typed (accepts_writable c a) in
      law (packet_bytes c) rest s.header s.there s.parts

  length_in : packet_length whole ≡ length (packet_bytes c)
  length_in = front packet_length packet_length_front ∙ written_length c a.typed (accepts_writable c a) ∙ sym (length_of_lem c)

  flags_in_lem : flags_in whole ≡ flags_of c
  unfolding fields_in
  flags_in_lem = front flags_in flags_front ∙ ap (λ (f : Fields). f.flags) (written_fields c a.typed (accepts_writable c a))

  framed_in : Framed whole
  framed_in =
      framed_says whole (ap first (front frame_lines frame_front) ∙ framed_passes (packet_bytes c) (written_framed c a.typed (accepts_writable c a)))

  bytes_in_lem : Bytes (take (packet_length whole) whole)
  bytes_in_lem = rw (length_in, take_at (packet_bytes c) rest (length (packet_bytes c)) refl) (written_bytes c a.typed)

  unit_refused : (n at width : ℕ) (v : List ℕ) → UnitOf c n at width → Changed at width whole v → first (frame_lines v) ≡ n
  unit_refused n at width v sync ch = sync_refused whole v bytes_in_lem framed_in ch
  unit_refused n _ width v (primary j some most) ch = primary_refused whole v bytes_in_lem framed_in j some (omega arith) ch
  unit_refused n _ width v (secondary j most) ch = secondary_refused whole v bytes_in_lem framed_in j (rw flags_in_lem (omega arith)) ch
  unit_refused n _ width v (trailer j some most) ch =
      trailer_refused whole v bytes_in_lem framed_in j (rw flags_in_lem some) (rw (flags_in_lem, length_in) most) (rw flags_in_lem ch)

  -- whatever stands behind it
  pub altered_refused : (n : ℕ) (ys : List ℕ) → Altered c n ys → first (frame_lines (ys ++ rest)) ≡ n
  altered_refused n ys h =
      let ch = changed_at h.place h.width (packet_bytes c) ys (unit_room c n h.place h.width h.unit) h.change in
      unit_refused n h.place h.width (ys ++ rest) h.unit (changed_front h.place h.width (packet_bytes c) ys rest ch)

-- ---- no change of a unit is left out

spliced : (xs : List ℕ) (at : ℕ) (new : List ℕ) → at + length new ≤ length xs → Bytes xs → Bytes new → splice xs at new ≢ xs
    → AlteredAt at (length new) xs (splice xs at new)
spliced xs at new room old-bytes new_bytes other =
    record {
      long = length_splice xs at new room;
      bytes =
          bytes_append (take at xs ++ new) (drop (at + length new) xs) (bytes_append (take at xs) new (bytes_take at xs old-bytes) new_bytes)
          (bytes_drop (at + length new) xs old-bytes);
      same = λ i h. ⊎_elim (before i) (behind i) h;
      differs = other;
    }
  where
    before : (i : ℕ) → i < at → byte (splice xs at new) i ≡ byte xs i
    before i h =
        sym (get_or-take at (splice xs at new) i 0 h)
        ∙ ap (λ (l : List ℕ). byte l i) (part_splice_before xs at new room 0 at (omega arith))
        ∙ get_or-take at xs i 0 h

    behind : (i : ℕ) → at + length new ≤ i → byte (splice xs at new) i ≡ byte xs i
    behind i h =
        let e : at + length new + (i - (at + length new)) ≡ i = omega arith in
        subst (λ (k : ℕ). byte (splice xs at new) k ≡ byte xs k) e
        (sym (get_or-drop (at + length new) (splice xs at new) (i - (at + length new)) 0)
        ∙ ap (λ (l : List ℕ). byte l (i - (at + length new))) (drop_splice xs at new room)
        ∙ get_or-drop (at + length new) xs (i - (at + length new)) 0)

pub change_named : (c : Contents) → Typed c → (n at width : ℕ) → UnitOf c n at width → (new : List ℕ) → length new ≡ width → Bytes new
    → splice (packet_bytes c) at new ≢ packet_bytes c → Altered c n (splice (packet_bytes c) at new)
change_named c t n at width u new long new_bytes other =
    record {
      place = at;
      width = width;
      unit = u;
      change = rw (← long) (spliced (packet_bytes c) at new (omega (arith, unit_room c n at width u)) (written_bytes c t) new_bytes other);
    }

-- ---- no byte is left out

-- a byte from b on lies in a whole unit, counted from b
unit_of : (code b p i : ℕ) → 0 < sum_width code → b % 4 ≡ 0 → p % 4 ≡ 0 → b ≤ i → i < p
    → (j : ℕ) × (b + sum_width code * j ≤ i) × (i < b + sum_width code * j + sum_width code) × (b + sum_width code * j + sum_width code ≤ p)
unit_of zero b p i some fb fp from upto = absurd (omega arith)
unit_of (suc zero) b p i some fb fp from upto = (i - b, omega arith, omega arith, omega arith)
unit_of (suc (suc zero)) b p i some fb fp from upto = ((i - b) / 2, omega arith, omega arith, omega arith)
unit_of (suc (suc (suc n))) b p i some fb fp from upto = ((i - b) / 4, omega arith, omega arith, omega arith)

-- each byte of both headers, and of body, filler and sum where a data sum is carried, lies in one of the units named
pub every_byte_named : (c : Contents) (i : ℕ) → i < length (packet_bytes c) → (i < body_at (flags_of c)) ⊎ (0 < sum_length (flags_of c))
    → (n : ℕ) × (at : ℕ) × (width : ℕ) × UnitOf c n at width × (at ≤ i) × (i < at + width)
every_byte_named c i within h = go (dec_lt i 2) (dec_lt i 24) (dec_lt i (body_at (flags_of c))) h
  where
    go : Dec (i < 2) → Dec (i < 24) → Dec (i < body_at (flags_of c)) → (i < body_at (flags_of c)) ⊎ (0 < sum_length (flags_of c))
        → (n : ℕ) × (at : ℕ) × (width : ℕ) × UnitOf c n at width × (at ≤ i) × (i < at + width)
    go (yes a) _ _ _ = (3, 0, 2, sync, omega arith, omega arith)
    go (no a) (yes b) _ _ = (4, 2 * (i / 2), 2, primary (i / 2) (omega arith) (omega arith), omega arith, omega arith)
    go (no a) (no b) (yes d) _ = (11, 24 + 2 * ((i - 24) / 2), 2, secondary ((i - 24) / 2) (omega arith), omega arith, omega arith)
    go (no a) (no b) (no d) (inl e) = absurd (d e)
    go (no a) (no b) (no d) (inr some) =
        let width = sum_length (flags_of c) in
        let body = body_at (flags_of c) in
        let (j, from, upto, room) =
        unit_of (flags_of c % 4) body (contents_length c) i some (omega arith) (omega arith) (omega arith) (omega (arith, length_of_lem c)) in
        (13, body + width * j, width, trailer j some (omega (arith, length_of_lem c)), from, upto)
