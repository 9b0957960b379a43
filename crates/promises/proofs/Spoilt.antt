-- A window that the frame's rules let through, one unit of it changed, is refused with the number named.
use mathlib.Core.Path.{◌≡◌, refl, sym, ap, subst, ◌∙◌}
use mathlib.Core.List.{List, ◌++◌, append_assoc}
use mathlib.Core.Bool.{Bool, true, false}
use Prim.Native.Nat.{ℕ, zero, suc, ◌+◌, ◌-◌, ◌*◌, ◌/◌, ◌%◌, ◌≤◌, ◌<◌}
use native.Mathlib.Omega.{arith}
use native.Mathlib.Nat.{zero-add, div-eq_of_eq-mul_right, mul-suc}
use lib.ListN.{length, take, drop, length-append, length-drop, get_or-append, take-append-drop}
use lib.Seq.{length-take-le, take-append-add, drop-append-le, take-take}
use lib.Dec.{eqb}
use borrow.Author.Tests.{eqb-true}
use Rattle.units.specs.Units.{Bytes, part, num, field, sum_units, checksum, summed, Changed}
use Rattle.frame.specs.Sums.{sum_width}
use Rattle.units.proofs.Numbers.{num_inj}
use Rattle.units.proofs.Parts.{length_part, bytes_part, part_part, part_front, part_at, field_part, field_front, field_two}
use Rattle.units.proofs.Sums.{sum_prefix, sum_sees}
use Rattle.units.proofs.Choices.{and_true}
use Rattle.frame.specs.Header.{byte, packet_length, flags_in, secondary_length, sum_length, body_at}
use Rattle.frame.specs.Rules.{enough, synced, header_summed, secondary_summed, data_summed}
use Rattle.frame.specs.Table.{first, head_lines, values_in, whole_lines, secondary_lines, trailer_lines, frame_lines}
use Rattle.frame.specs.inner.Lengths.{Sound}
use Rattle.frame.proofs.Tables.{stage_none}
use Rattle.frame.proofs.Frames.{Parted, parted, Framed, framed_passes, frame_sound, head_numbered, value_numbered, whole_numbered, secondary_numbered}

-- ---- what a change of one unit leaves

module _ (at n : ℕ) (xs ys : List ℕ) (c : Changed at n xs ys) where
  pub changed_length : length ys ≡ length xs
  changed_length = rw (c.is, c.was) (simp (length-append, c.old_width, c.new_width))

  pub changed_room : at + n ≤ length xs
  changed_room = rw (c.was, length-append c.front (c.old ++ c.back), length-append c.old c.back) (omega (arith, c.place, c.old_width))

  old_is : part xs at n ≡ c.old
  old_is = part_at xs c.front c.old c.back at n c.was c.place c.old_width

  new_is : part ys at n ≡ c.new
  new_is = part_at ys c.front c.new c.back at n c.is c.place c.new_width

  -- the unit itself is another number
  pub changed_unit : Bytes (part xs at n) → field ys at n ≡ field xs at n → ⊥
  changed_unit b e =
      let bo : Bytes c.old = rw old_is at b in
      let same : num c.old ≡ num c.new = ap num (sym old_is) ∙ sym e ∙ ap num new_is in
      c.differs (num_inj c.old c.new bo c.new_bytes (c.old_width ∙ sym c.new_width) same)

  -- ahead of the unit
  pub byte_ahead : (i : ℕ) → i < at → byte ys i ≡ byte xs i
  byte_ahead i h =
      let l : i < length c.front = omega (arith, c.place) in
      rw (c.is, c.was, get_or-append c.front (c.new ++ c.back) 0 i l, get_or-append c.front (c.old ++ c.back) 0 i l)

  pub part_ahead : (i m : ℕ) → i + m ≤ at → part ys i m ≡ part xs i m
  part_ahead i m h =
      let l : i + m ≤ length c.front = omega (arith, c.place) in
      rw (c.is, c.was, part_front c.front (c.new ++ c.back) i m l, part_front c.front (c.old ++ c.back) i m l)

  pub field_ahead : (i m : ℕ) → i + m ≤ at → field ys i m ≡ field xs i m
  field_ahead i m h = ap num (part_ahead i m h)

  -- a change inside a region is a change of the region
  pub changed_region : (base i len : ℕ) → at ≡ base + i → i + n ≤ len → Changed i n (part xs base len) (part ys base len)
  changed_region base i len e h =
      record {
        front = drop base c.front;
        old = c.old;
        new = c.new;
        back = take (len - (i + n)) c.back;
        was = rw c.was (around c.old c.old_width);
        is = rw c.is (around c.new c.new_width);
        place = rw length-drop (omega (arith, c.place));
        old_width = c.old_width;
        new_width = c.new_width;
        new_bytes = c.new_bytes;
        differs = c.differs;
      }
    where
      around : (u : List ℕ) → length u ≡ n → part (c.front ++ (u ++ c.back)) base len ≡ drop base c.front ++ (u ++ take (len - (i + n)) c.back)
      around u l =
          let f = drop base c.front in
          let lf : length (f ++ u) ≡ i + n = rw (length-append, length-drop) (omega (arith, c.place)) in
          let k : len ≡ length (f ++ u) + (len - (i + n)) = omega arith in
          ap (take len) (drop-append-le base c.front (u ++ c.back) (omega (arith, c.place)) ∙ sym (append_assoc f u c.back))
          ∙ ap (λ (m : ℕ). take m (f ++ u ++ c.back)) k
          ∙ take-append-add (f ++ u) c.back (len - (i + n))
          ∙ append_assoc f u (take (len - (i + n)) c.back)

-- ---- sums of the first units, and of a region

-- a sum and what it adds up are the first bytes alone
pub summed_front : (w k : ℕ) (xs : List ℕ) → w * suc k ≤ length xs → summed w k (part xs 0 (w * suc k)) ≡ summed w k xs
unfolding summed
summed_front w k xs h =
    let n = w * suc k in
    let l : length (take n xs) ≡ n = length-take-le n xs h in
    let e : take n xs ++ drop n xs ≡ xs = take-append-drop n xs in
    let s : sum_units w k (take n xs ++ drop n xs) ≡ sum_units w k (take n xs) = sum_prefix w k (take n xs) (drop n xs) (omega (arith, mul-suc w k)) in
    let f : field (take n xs ++ drop n xs) (w * k) w ≡ field (take n xs) (w * k) w =
    field_front (take n xs) (drop n xs) (w * k) w (omega (arith, mul-suc w k)) in
    rw (← s, ← f, e)

-- a sum at s of the units from b on, told of the region that they make
pub summed_region : (w k : ℕ) (xs : List ℕ) (b s p : ℕ) → 0 < w → p ≤ length xs → s ≡ b + w * k → p ≡ s + w
    → eqb (checksum w (length (part xs b (s - b)) / w) (part xs b (s - b))) (field xs s w) ≡ summed w k (part xs b (p - b))
unfolding summed
summed_region w k xs b s p hw there e g =
    let r = part xs b (p - b) in
    let lr : length r ≡ p - b = length_part xs b (p - b) (omega arith) in
    let d : s - b ≡ w * k = omega arith in
    let units : length (part xs b (s - b)) / w ≡ k = div-eq_of_eq-mul_right hw (length_part xs b (s - b) (omega arith) ∙ d) in
    let f : field r (w * k) w ≡ field xs s w = field_part xs b (p - b) (w * k) w (omega arith) ∙ ap (λ (i : ℕ). field xs i w) (sym e) in
    let q : part xs b (s - b) ≡ take (w * k) r = ap (part xs b) d ∙ sym (take-take (w * k) (p - b) (drop b xs) (omega arith)) in
    let t : sum_units w k (take (w * k) r ++ drop (w * k) r) ≡ sum_units w k (take (w * k) r) =
    sum_prefix w k (take (w * k) r) (drop (w * k) r) (omega (arith, length-take-le (w * k) r (omega arith))) in
    rw (units, f, q, ← t, take-append-drop (w * k) r)

-- what P leaves behind the body's place is whole units of the sum's width
units_exact : (code b p : ℕ) → 0 < sum_width code → b % 4 ≡ 0 → p % 4 ≡ 0 → b + sum_width code ≤ p
    → p - sum_width code ≡ b + sum_width code * ((p - sum_width code - b) / sum_width code)
units_exact zero b p h fb fp l = absurd (omega arith)
units_exact (suc zero) b p h fb fp l = omega arith
units_exact (suc (suc zero)) b p h fb fp l = omega arith
units_exact (suc (suc (suc n))) b p h fb fp l = omega arith

-- ---- the first rule that does not hold

third : (v : List ℕ) → enough v ≡ true → synced v ≡ false → first (frame_lines v) ≡ 3
unfolding frame_lines head_lines first
third v a b = rw (a, b)

fourth : (v : List ℕ) → enough v ≡ true → synced v ≡ true → header_summed v ≡ false → first (frame_lines v) ≡ 4
unfolding frame_lines head_lines first
fourth v a b d = rw (a, b, d)

eleventh : (v : List ℕ) → first (head_lines v) ≡ 0 → first (values_in v) ≡ 0 → first (whole_lines v) ≡ 0 → secondary_summed v ≡ false → first (frame_lines v) ≡ 11
unfolding frame_lines secondary_lines first
eleventh v a b d e =
    stage_none (head_lines v) _ (head_numbered v) a
    ∙ stage_none (values_in v) _ (value_numbered _ _ _ _ _ _) b
    ∙ stage_none (whole_lines v) _ (whole_numbered v) d
    ∙ rw e

thirteenth : (v : List ℕ) → first (head_lines v) ≡ 0 → first (values_in v) ≡ 0 → first (whole_lines v) ≡ 0 → first (secondary_lines v) ≡ 0 → data_summed v ≡ false
    → first (frame_lines v) ≡ 13
unfolding frame_lines trailer_lines first
thirteenth v a b d e g =
    stage_none (head_lines v) _ (head_numbered v) a
    ∙ stage_none (values_in v) _ (value_numbered _ _ _ _ _ _) b
    ∙ stage_none (whole_lines v) _ (whole_numbered v) d
    ∙ stage_none (secondary_lines v) _ (secondary_numbered v) e
    ∙ rw g

-- ---- a change behind the header

module _ (at n : ℕ) (w v : List ℕ) (c : Changed at n w v) (behind : 24 ≤ at) where
  flags_kept : flags_in v ≡ flags_in w
  flags_kept = byte_ahead at n w v c 14 (omega arith)

  packet_length_kept : packet_length v ≡ packet_length w
  packet_length_kept = field_ahead at n w v c 4 4 (omega arith)

  head_kept : head_lines v ≡ head_lines w
  unfolding head_lines
  head_kept =
      let l : length v ≡ length w = changed_length at n w v c in
      let r : at + n ≤ length w = changed_room at n w v c in
      let s : summed 2 11 v ≡ summed 2 11 w =
      sym (summed_front 2 11 v (omega arith)) ∙ ap (summed 2 11) (part_ahead at n w v c 0 24 (omega arith)) ∙ summed_front 2 11 w (omega arith) in
      rw (l, byte_ahead at n w v c 0 (omega arith), byte_ahead at n w v c 1 (omega arith), s)

  values_kept : values_in v ≡ values_in w
  values_kept =
      rw (
        field_ahead at n w v c 2 2 (omega arith),
        byte_ahead at n w v c 12 (omega arith),
        flags_kept,
        byte_ahead at n w v c 15 (omega arith),
        packet_length_kept,
        field_ahead at n w v c 8 4 (omega arith),
      )

  whole_kept : whole_lines v ≡ whole_lines w
  unfolding whole_lines
  whole_kept = rw (packet_length_kept, changed_length at n w v c)

  secondary_kept : body_at (flags_in w) ≤ at → secondary_lines v ≡ secondary_lines w
  unfolding secondary_lines
  secondary_kept h = rw (flags_kept, part_ahead at n w v c 24 (secondary_length (flags_in w)) h)

-- ---- a window that is let through, one unit of it changed

-- the first two bytes are told by their number
synced_says : (w : List ℕ) → synced w ≡ true → field w 0 2 ≡ 0x25 + 256 * 0xEB
synced_says w e =
    let o = and_true (eqb (byte w 0) 0x25) (eqb (byte w 1) 0xEB) e in
    omega (arith, field_two w 0, eqb-true (byte w 0) 0x25 o.0, eqb-true (byte w 1) 0xEB o.1)

-- w before, v after
module _ (w v : List ℕ) (b : Bytes (take (packet_length w) w)) (f : Framed w) where
  sound : Sound w
  sound = frame_sound w (framed_passes w f)

  parts : Parted w
  parts = parted w (framed_passes w f)

  -- any part of the packet is of bytes
  bytes_within : (at n : ℕ) → at + n ≤ packet_length w → Bytes (part w at n)
  bytes_within at n h =
      let e : part (take (packet_length w) w) at n ≡ part w at n = part_part w 0 (packet_length w) at n h ∙ rw (zero-add at) in
      subst Bytes e (bytes_part (take (packet_length w) w) at n b)

  enough_kept : (at n : ℕ) → Changed at n w v → enough v ≡ true
  enough_kept at n c = rw (changed_length at n w v c) f.enough

  pub sync_refused : Changed 0 2 w v → first (frame_lines v) ≡ 3
  sync_refused c = third v (enough_kept 0 2 c) (unsynced (synced v) refl)
    where
      unsynced : (t : Bool) → synced v ≡ t → t ≡ false
      unsynced true e = absurd (changed_unit 0 2 w v c (bytes_within 0 2 (omega (arith, sound.parts))) (synced_says v e ∙ sym (synced_says w f.synced)))
      unsynced false e = refl

  pub primary_refused : (j : ℕ) → 0 < j → j < 12 → Changed (2 * j) 2 w v → first (frame_lines v) ≡ 4
  primary_refused j some most c =
      let l : length v ≡ length w = changed_length (2 * j) 2 w v c in
      let long : 24 ≤ length w = sound.header in
      let s : synced v ≡ true = rw (byte_ahead (2 * j) 2 w v c 0 (omega arith), byte_ahead (2 * j) 2 w v c 1 (omega arith)) f.synced in
      let r : Changed (2 * j) 2 (part w 0 24) (part v 0 24) = changed_region (2 * j) 2 w v c 0 (2 * j) 24 (omega arith) (omega arith) in
      let t : summed 2 11 (part w 0 24) ≡ true = summed_front 2 11 w long ∙ f.header_summed in
      let u : summed 2 11 (part v 0 24) ≡ false =
      sum_sees 2 11 j (part w 0 24) (part v 0 24) (omega arith) (length_part w 0 24 long) (bytes_within 0 24 (omega (arith, sound.parts))) r t in
      fourth v (enough_kept (2 * j) 2 c) s (sym (summed_front 2 11 v (omega arith)) ∙ u)

  pub secondary_refused : (j : ℕ) → 2 * j < secondary_length (flags_in w) → Changed (24 + 2 * j) 2 w v → first (frame_lines v) ≡ 11
  secondary_refused j h c =
      let at = 24 + 2 * j in
      let n : secondary_length (flags_in w) ≡ 12 = omega arith in
      let long : 24 + 12 ≤ length w = omega (arith, sound.parts, sound.there) in
      let r : Changed (2 * j) 2 (part w 24 12) (part v 24 12) = changed_region at 2 w v c 24 (2 * j) 12 refl (omega arith) in
      let t : summed 2 5 (part w 24 12) ≡ true = rw n at f.secondary_summed in
      let u : summed 2 5 (part v 24 12) ≡ false =
      sum_sees 2 5 j (part w 24 12) (part v 24 12) (omega arith) (length_part w 24 12 long) (bytes_within 24 12 (omega (arith, sound.parts))) r t in
      let fits : 24 ≤ at = omega arith in
      eleventh v
      (ap first (head_kept at 2 w v c fits) ∙ parts.head)
      (ap first (values_kept at 2 w v c fits) ∙ parts.values)
      (ap first (whole_kept at 2 w v c fits) ∙ parts.there)
      (rw (flags_kept at 2 w v c fits, n) u)

  pub trailer_refused : (j : ℕ) → 0 < sum_length (flags_in w)
      → body_at (flags_in w) + sum_length (flags_in w) * j + sum_length (flags_in w) ≤ packet_length w
      → Changed (body_at (flags_in w) + sum_length (flags_in w) * j) (sum_length (flags_in w)) w v → first (frame_lines v) ≡ 13
  trailer_refused j some fits c =
      let body = body_at (flags_in w) in
      let width = sum_length (flags_in w) in
      let p = packet_length w in
      let sum = p - width in
      let at = body + width * j in
      let units = (sum - body) / width in
      let e : sum ≡ body + width * units = units_exact (flags_in w % 4) body p some (omega arith) sound.fours (omega arith) in
      let there : p ≤ length w = sound.there in
      let l : length v ≡ length w = changed_length at width w v c in
      let q : p ≡ sum + width = omega arith in
      let r : Changed (width * j) width (part w body (p - body)) (part v body (p - body)) =
      changed_region at width w v c body (width * j) (p - body) refl (omega arith) in
      let t : summed width units (part w body (p - body)) ≡ true = sym (summed_region width units w body sum p some there e q) ∙ f.data_summed in
      let long : length (part w body (p - body)) ≡ width * suc units =
      length_part w body (p - body) (omega arith) ∙ omega (arith, mul-suc width units) in
      let u : summed width units (part v body (p - body)) ≡ false =
      sum_sees width units j (part w body (p - body)) (part v body (p - body)) some long (bytes_within body (p - body) (omega arith)) r t in
      let behind : 24 ≤ at = omega arith in
      let d : data_summed v ≡ false =
      rw (flags_kept at width w v c behind, packet_length_kept at width w v c behind) (summed_region width units v body sum p some (omega arith) e q ∙ u) in
      thirteenth v
      (ap first (head_kept at width w v c behind) ∙ parts.head)
      (ap first (values_kept at width w v c behind) ∙ parts.values)
      (ap first (whole_kept at width w v c behind) ∙ parts.there)
      (ap first (secondary_kept at width w v c behind (omega arith)) ∙ parts.secondary)
      d
