-- An accepted packet is one that the writer accepts, and written again it has the same bytes.
use Rattle.std.specs.Prelude.{Ok}
use mathlib.Core.Path.{◌≡◌, refl, sym, ap, subst, ◌∙◌}
use mathlib.Core.List.{List, [], ◌∷◌, ◌++◌}
use mathlib.Core.Bool.{Bool, true, false, ◌||◌}
use Prim.Native.Nat.{ℕ, zero, suc, ◌+◌, ◌-◌, ◌*◌, ◌%◌, ◌^◌, ◌≤◌, ◌<◌}
use native.Mathlib.Omega.{arith}
use native.Mathlib.Nat.{pow-le-pow_right, lt_of_lt_of_le, zero-lt-suc}
use lib.ListN.{length, take, drop, get_or, replicate, length-take, take-append-drop}
use lib.Seq.{length-take-le, drop-cons, take-take, take-add, take_all}
use lib.Dec.{eqb}
use borrow.Author.Tests.{eqb-true, eqb-false}
use Rattle.units.specs.Units.{Bytes, part, num, field, bytes_of, sum_units, checksum, summed}
use Rattle.frame.specs.Sums.{secondary_sum, data_sum}
use Rattle.units.specs.Choice.{pick}
use Rattle.units.proofs.Numbers.{num_lt, zeros_are}
use Rattle.units.proofs.Parts.{length_part, bytes_part, part_add, part_part, field_one, bytes_of_field}
use Rattle.units.proofs.Sums.{sum_over, summed_says}
use Rattle.units.proofs.Choices.{and_true}
use Rattle.frame.specs.Header.{byte, sync, packet_length, data_length, flags_in, kind_in, secondary_bit, secondary_length, sum_code, sum_length, body_at, filler_for, length_for, filler_at, sum_at, filler_length, secondary_in, body_in, filler_in, body_and_filler_in, data_sum_in, time_in, reserved_in, fields_in}
use Rattle.frame.specs.Rules.{secondary_time_ok}
use Rattle.frame.specs.inner.Lengths.{Sound}
use Rattle.frame.proofs.Frames.{Framed, framed_says, framed_passes, frame_sound, length_is}
use Rattle.frame.specs.Contents.{contents, contents_in, contents_length}
use Rattle.packet_bytes.specs.Bytes.{head_words, head_bytes, secondary_words, secondary_bytes, body_and_filler_bytes, data_bytes, packet_bytes}
use Rattle.packet.specs.Read.{window, packet_in, body_checked, read_packet}
use Rattle.packet.specs.declared.Packet.{Packet}
use Rattle.packet.proofs.Own.{accepted_at}
use Rattle.promises.specs.Contents.{Typed, Accepts, contents_of}
use Rattle.promises.proofs.Writer.{Writable, writable_accepts}

-- ---- parts one behind the other

part_cons : (bs : List ℕ) (at n : ℕ) → at < length bs → part bs at (suc n) ≡ get_or bs at 0 ∷ part bs (suc at) n
part_cons bs at n h = rw (drop-cons bs at 0 h)

two_bytes : (bs : List ℕ) (at : ℕ) → at + 2 ≤ length bs → get_or bs at 0 ∷ get_or bs (suc at) 0 ∷ [] ≡ part bs at 2
two_bytes bs at h = rw (part_cons bs at 1 (omega arith), part_cons bs (suc at) 0 (omega arith)) refl

four_bytes : (bs : List ℕ) (at : ℕ) → at + 4 ≤ length bs
    → get_or bs at 0 ∷ get_or bs (suc at) 0 ∷ get_or bs (suc (suc at)) 0 ∷ get_or bs (suc (suc (suc at))) 0 ∷ [] ≡ part bs at 4
four_bytes bs at h =
    rw (part_cons bs at 3 (omega arith), part_cons bs (suc at) 2 (omega arith))
    (ap (λ (l : List ℕ). get_or bs at 0 ∷ get_or bs (suc at) 0 ∷ l) (two_bytes bs (suc (suc at)) (omega arith)))

pub field_below : (bs : List ℕ) (at n : ℕ) → Bytes bs → field bs at n < 256 ^ n
field_below bs at n b =
    let l : length (part bs at n) ≤ n = simp length-take (omega arith) in
    lt_of_lt_of_le (num_lt (part bs at n) (bytes_part bs at n b)) (pow-le-pow_right (zero-lt-suc 255) l)

pub byte_below : (bs : List ℕ) (at : ℕ) → Bytes bs → byte bs at < 2 ^ 8
byte_below bs at b = omega (arith, field_below bs at 1 b, field_one bs at)

-- units and the right sum behind them, written again
sum_again : (w k : ℕ) (xs : List ℕ) → Bytes xs → w * k + w ≤ length xs → summed w k xs ≡ true
    → take (w * k) xs ++ bytes_of w (checksum w k (take (w * k) xs)) ≡ take (w * k + w) xs
sum_again w k xs b h t =
    let n = w * k in
    let l : length (take n xs) ≡ n = length-take-le n xs (omega arith) in
    let s : sum_units w k (take n xs) ≡ sum_units w k xs = sym (sum_over w k (take n xs) (drop n xs) l) ∙ ap (sum_units w k) (take-append-drop n xs) in
    let e : checksum w k (take n xs) ≡ field xs n w = ap (λ (x : ℕ). x % 256 ^ w) s ∙ summed_says w k xs t in
    rw (e, bytes_of_field xs n w b h, take-add n w xs)

-- ---- the secondary header

secondary_again : (f : ℕ) (s : List ℕ) → Bytes s → length s ≡ secondary_length f → summed 2 5 s ≡ true → field s 8 2 ≡ 0
    → secondary_bytes f (field s 0 8) ≡ s
unfolding secondary_bytes secondary_words
secondary_again f s b l t r = go (eqb (secondary_bit f) 1) refl
  where
    go : (x : Bool) → eqb (secondary_bit f) 1 ≡ x
        → pick x (secondary_words (field s 0 8) ++ bytes_of 2 (secondary_sum (secondary_words (field s 0 8)))) [] ≡ s
    go true q =
        let i : secondary_bit f ≡ 1 = eqb-true (secondary_bit f) 1 q in
        let n : length s ≡ 12 = omega arith in
        let e : bytes_of 8 (field s 0 8) ++ bytes_of 2 0 ≡ take 10 s =
        rw (← r, bytes_of_field s 0 8 b (omega arith), bytes_of_field s 8 2 b (omega arith)) (sym (take-add 8 2 s)) in
        rw e (sum_again 2 5 s b (omega arith) t ∙ take_all 12 s (omega arith))
    go false q =
        let i : secondary_bit f ≡ 1 → ⊥ = eqb-false (secondary_bit f) 1 q in
        take_all 0 s (omega arith)

-- an absent secondary time is 0
absent_time : (x : ℕ) (w : List ℕ) → x < 2 → (eqb x 1 || eqb (field (part w 24 (12 * x)) 0 8) 0) ≡ true
unfolding num
absent_time zero w h = refl
absent_time (suc zero) w h = refl
absent_time (suc (suc x)) w h = absurd (omega arith)

-- ---- a window that 2 to 14 let through

module _ (w : List ℕ) (b : Bytes w) (f : Framed w) where
  sound : Sound w
  sound = frame_sound w (framed_passes w f)

  length_body : length (body_in w) ≡ data_length w
  length_body = length_part w (body_at (flags_in w)) (data_length w) (omega (arith, sound.parts, sound.there))

  length_again : packet_length w ≡ length_for (flags_in w) (data_length w)
  length_again = length_is (kind_in w) (flags_in w) (packet_length w) (data_length w) f.values.lengths_ok

  sync_again : sync ≡ take 2 w
  sync_again =
      let s = and_true (eqb (byte w 0) 0x25) (eqb (byte w 1) 0xEB) f.synced in
      rw (← eqb-true (byte w 0) 0x25 s.0, ← eqb-true (byte w 1) 0xEB s.1) (two_bytes w 0 (omega (arith, sound.header)))

  words_again : head_words (fields_in w) (packet_length w) (data_length w) ≡ take 22 w
  unfolding head_words fields_in
  words_again =
      let h = sound.header in
      let c = bytes_of_field w 2 2 b (omega arith) in
      let p = bytes_of_field w 4 4 b (omega arith) in
      let d = bytes_of_field w 8 4 b (omega arith) in
      let v = four_bytes w 12 (omega arith) in
      let r = bytes_of_field w 16 6 b (omega arith) in
      (λ i. sync_again i ++ c i ++ p i ++ d i ++ v i ++ r i) ∙ rw (take-add 16 6 w, take-add 12 4 w, take-add 8 4 w, take-add 4 4 w, take-add 2 2 w)

  head_again : head_bytes (fields_in w) (packet_length w) (data_length w) ≡ take 24 w
  unfolding head_bytes
  head_again = rw words_again (sum_again 2 11 w b (omega (arith, sound.header)) f.header_summed)

  time_again : secondary_bytes (flags_in w) (time_in w) ≡ secondary_in w
  time_again =
      let n = secondary_length (flags_in w) in
      let r = and_true (eqb (reserved_in w) 0) (secondary_time_ok (flags_in w) (time_in w)) f.secondary_ok in
      let l : length (secondary_in w) ≡ n = length_part w 24 n (omega (arith, sound.parts, sound.there)) in
      secondary_again (flags_in w) (secondary_in w) (bytes_part w 24 n b) l f.secondary_summed (eqb-true (reserved_in w) 0 r.0)

  filler_again : replicate (filler_for (flags_in w) (data_length w)) 0 ≡ filler_in w
  filler_again =
      let l : length (filler_in w) ≡ filler_for (flags_in w) (data_length w) =
      length_part w (filler_at w) (filler_length w) (omega (arith, sound.parts, sound.there)) ∙ omega (arith, length_again) in
      rw (← l) (sym (zeros_are (filler_in w) f.filler_ok))

  filled_again : body_and_filler_bytes (flags_in w) (body_in w) ≡ body_and_filler_in w
  unfolding body_and_filler_bytes
  filled_again =
      let n : sum_at w - body_at (flags_in w) ≡ data_length w + filler_length w = omega (arith, sound.parts) in
      rw (length_body, filler_again, n) (sym (part_add w (body_at (flags_in w)) (data_length w) (filler_length w)))

  data_again : data_bytes (flags_in w) (body_in w) ≡ part w (body_at (flags_in w)) (packet_length w - body_at (flags_in w))
  unfolding data_bytes
  data_again =
      let k = sum_length (flags_in w) in
      let n = sum_at w - body_at (flags_in w) in
      let s : data_sum (sum_code (flags_in w)) (body_and_filler_in w) ≡ data_sum_in w = eqb-true _ _ f.data_summed in
      let m : packet_length w - body_at (flags_in w) ≡ n + k = omega (arith, sound.parts) in
      let j : body_at (flags_in w) + n ≡ sum_at w = omega (arith, sound.parts) in
      rw (filled_again, s, bytes_of_field w (sum_at w) k b (omega (arith, sound.parts, sound.there)), m, part_add w (body_at (flags_in w)) n k, j)

  length_told : contents_length (contents_in w) ≡ packet_length w
  unfolding fields_in
  length_told = ap (length_for (flags_in w)) length_body ∙ sym length_again

  -- written again it has the same bytes
  pub again_bytes : packet_bytes (contents_in w) ≡ take (packet_length w) w
  unfolding packet_bytes fields_in
  again_bytes =
      let n = secondary_length (flags_in w) in
      let m = packet_length w - body_at (flags_in w) in
      let h : head_bytes (fields_in w) (contents_length (contents_in w)) (length (body_in w)) ≡ take 24 w =
      (λ i. head_bytes (fields_in w) (length_told i) (length_body i)) ∙ head_again in
      let p : body_at (flags_in w) + m ≡ packet_length w = omega (arith, sound.parts) in
      let t : take 24 w ++ secondary_in w ++ part w (body_at (flags_in w)) m ≡ take (body_at (flags_in w) + m) w =
      rw (take-add (body_at (flags_in w)) m w, take-add 24 n w) in
      (λ i. h i ++ time_again i ++ data_again i) ∙ t ∙ ap (λ (k : ℕ). take k w) p

  -- each of its parts is of the type that the writer takes
  pub again_typed : Typed (contents_in w)
  unfolding fields_in
  again_typed =
      record {
        channel = field_below w 2 2 b;
        version = byte_below w 12 b;
        sequence = byte_below w 13 b;
        flags = byte_below w 14 b;
        kind = byte_below w 15 b;
        rtc = omega (arith, field_below w 16 6 b);
        time = field_below (secondary_in w) 0 8 (bytes_part w 24 (secondary_length (flags_in w)) b);
        body = bytes_part w (body_at (flags_in w)) (data_length w) b;
      }

  -- and where its body keeps its rules, the writer has nothing against it
  pub again_right : (n : ℕ) → body_checked w ≡ Ok n → Writable (contents_in w)
  unfolding fields_in body_checked
  again_right n q =
      record {
        rtc = field_below w 16 6 b;
        absent = absent_time (secondary_bit (flags_in w)) w (omega arith);
        values = rw (length_told, length_body) f.values;
        time = (and_true (eqb (reserved_in w) 0) (secondary_time_ok (flags_in w) (time_in w)) f.secondary_ok).1;
        count = n;
        body = q;
      }

-- ---- in a buffer

-- the contents of a packet at s are those of the window's bytes
contents_there : (buf : List ℕ) (s e base : ℕ) → Sound (window buf s e) → s + length (window buf s e) ≡ e
    → contents_of buf (packet_in (window buf s e) s base) ≡ contents_in (window buf s e)
unfolding packet_in
contents_there buf s e base k r =
    let w = window buf s e in
    let p : body_in w ≡ part buf (s + body_at (flags_in w)) (data_length w) =
    part_part buf s (e - s) (body_at (flags_in w)) (data_length w) (omega (arith, k.parts, k.there)) in
    ap (contents (fields_in w)) (sym p)

-- the writer accepts what was read, and writes the bytes that were read
pub read_again : (buf : List ℕ) (s e base : ℕ) (p : Packet) → Bytes buf → read_packet buf s e base ≡ Ok p
    → Accepts (contents_of buf p) × (packet_bytes (contents_of buf p) ≡ part buf s p.length)
read_again buf s e base p b h =
    let a = accepted_at buf s e base p h in
    let w = window buf s e in
    let k = a.passes.sound in
    let f = framed_says w a.passes.framed in
    let bw = bytes_part buf s (e - s) b in
    let c : contents_of buf p ≡ contents_in w = ap (contents_of buf) a.packet ∙ contents_there buf s e base k a.reach in
    let n = a.passes.long in
    let t : take (packet_length w) w ≡ part buf s (packet_length w) =
    take-take (packet_length w) (e - s) (drop s buf) (omega (arith, k.there, a.reach)) in (
      subst Accepts (sym c) (writable_accepts (contents_in w) (again_typed w bw f) (again_right w bw f a.passes.count a.passes.body)),
      ap packet_bytes c ∙ again_bytes w bw f ∙ t ∙ ap (part buf s) (sym n),
    )
