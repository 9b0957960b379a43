-- The regions of a packet that is written, read again: the header, the secondary header, and body, filler and data sum.
use mathlib.Core.Path.{◌≡◌, refl, sym}
use mathlib.Core.List.{List, [], ◌++◌, append_assoc}
use mathlib.Core.Bool.{Bool, true, false, ◌||◌}
use Prim.Native.Nat.{ℕ, zero, suc, ◌*◌, ◌^◌, ◌<◌}
use native.Mathlib.Omega.{arith}
use native.Mathlib.Nat.{mod-lt}
use lib.ListN.{length, replicate}
use lib.Seq.{take_at, drop_at}
use lib.Dec.{lit<, eqb}
use borrow.Author.Tests.{eqb-true}
use Rattle.units.specs.Units.{Bytes, num, field, bytes_of, sum_units, checksum, summed}
use Rattle.frame.specs.Sums.{secondary_sum, data_sum}
use Rattle.units.specs.Choice.{pick}
use Rattle.units.proofs.Numbers.{pow_pos, bytes_append, length_bytes_of, bytes_bytes_of, num_bytes_of}
use Rattle.units.proofs.Sums.{sum_over, summed_made}
use Rattle.frame.specs.Header.{channel_in, packet_length, data_length, version_in, sequence_in, flags_in, kind_in, rtc_in, secondary_bit, sum_code, sum_length, filler_for}
use Rattle.frame.specs.Rules.{synced}
use Rattle.frame.specs.declared.Fields.{Fields}
use Rattle.packet_bytes.specs.Bytes.{head_words, head_bytes, secondary_words, secondary_bytes, body_and_filler_bytes, data_bytes}
use Rattle.packet_bytes.proofs.Puts.{length_words}

bytes_zeros : (n : ℕ) → Bytes (replicate n 0)
unfolding Bytes
bytes_zeros zero = tt
bytes_zeros (suc n) = (lit< tt, bytes_zeros n)

-- ---- a sum that is put behind what it adds up

pub summed_put : (w k : ℕ) (xs t : List ℕ) → length xs ≡ w * k → summed w k ((xs ++ bytes_of w (checksum w k xs)) ++ t) ≡ true
summed_put w k xs t l =
    let sum = checksum w k xs in
    let u = bytes_of w sum in
    let back : num u ≡ sum = num_bytes_of w sum (mod-lt (sum_units w k xs) (pow_pos w)) in
    rw append_assoc
    (summed_made w k (xs ++ (u ++ t))
    (rw (sum_over w k xs (u ++ t) l, drop_at xs (u ++ t) (w * k) l, take_at u t w (length_bytes_of w sum)) (sym back)))

-- ---- the header; t is what stands behind it

-- w begins with the header of these fields, P and D
pub record HeadIs (f : Fields) (p d : ℕ) (w : List ℕ) : Type 0 where
  pub sync : synced w ≡ true
  pub channel : f.channel < 2 ^ 16 → channel_in w ≡ f.channel
  pub packet_length_lem : p < 2 ^ 32 → packet_length w ≡ p
  pub data_length_lem : d < 2 ^ 32 → data_length w ≡ d
  pub version : version_in w ≡ f.version
  pub sequence : sequence_in w ≡ f.sequence
  pub flags : flags_in w ≡ f.flags
  pub kind : kind_in w ≡ f.kind
  pub rtc : f.rtc < 2 ^ 48 → rtc_in w ≡ f.rtc

module _ (f : Fields) (p d : ℕ) (t : List ℕ) where
  pub head_is : HeadIs f p d (head_bytes f p d ++ t)
  unfolding head_bytes head_words bytes_of
  head_is =
      record {
        sync = refl;
        channel = num_bytes_of 2 f.channel;
        packet_length_lem = num_bytes_of 4 p;
        data_length_lem = num_bytes_of 4 d;
        version = refl;
        sequence = refl;
        flags = refl;
        kind = refl;
        rtc = num_bytes_of 6 f.rtc;
      }

  pub head_summed : summed 2 11 (head_bytes f p d ++ t) ≡ true
  unfolding head_bytes
  head_summed = summed_put 2 11 (head_words f p d) t (length_words f p d)

pub head_bytes_lem : (f : Fields) (p d : ℕ) → f.version < 2 ^ 8 → f.sequence < 2 ^ 8 → f.flags < 2 ^ 8 → f.kind < 2 ^ 8 → Bytes (head_bytes f p d)
unfolding head_bytes head_words bytes_of Bytes
head_bytes_lem f p d v s g k = search arith

-- ---- the secondary header, there or not

secondary_cases : (P : List ℕ → Type 0) (f time : ℕ) → P (secondary_words time ++ bytes_of 2 (secondary_sum (secondary_words time)))
    → (eqb (secondary_bit f) 1 ≡ false → P []) → P (secondary_bytes f time)
unfolding secondary_bytes
secondary_cases P f time there absent = go (eqb (secondary_bit f) 1) refl
  where
    go : (t : Bool) → eqb (secondary_bit f) 1 ≡ t → P (pick t (secondary_words time ++ bytes_of 2 (secondary_sum (secondary_words time))) [])
    go true e = there
    go false e = absent e

module _ (f time : ℕ) where
  pub secondary_summed_lem : summed 2 5 (secondary_bytes f time) ≡ true
  unfolding secondary_words bytes_of summed sum_units num
  secondary_summed_lem = secondary_cases (λ xs. summed 2 5 xs ≡ true) f time (summed_put 2 5 (secondary_words time) [] refl) (λ e. refl)

  pub secondary_reserved : field (secondary_bytes f time) 8 2 ≡ 0
  unfolding secondary_words bytes_of num
  secondary_reserved = secondary_cases (λ xs. field xs 8 2 ≡ 0) f time refl (λ e. refl)

  pub secondary_time : time < 2 ^ 64 → (eqb (secondary_bit f) 1 || eqb time 0) ≡ true → field (secondary_bytes f time) 0 8 ≡ time
  unfolding secondary_words bytes_of num
  secondary_time h a = secondary_cases (λ xs. field xs 0 8 ≡ time) f time (num_bytes_of 8 time h) (λ e. sym (eqb-true time 0 (rw e at a)))

  pub secondary_bytes_lem : Bytes (secondary_bytes f time)
  unfolding secondary_words Bytes
  secondary_bytes_lem =
      secondary_cases Bytes f time
      (bytes_append (bytes_of 8 time ++ bytes_of 2 0) (bytes_of 2 (secondary_sum (bytes_of 8 time ++ bytes_of 2 0)))
      (bytes_append (bytes_of 8 time) (bytes_of 2 0) (bytes_bytes_of 8 time) (bytes_bytes_of 2 0))
      (bytes_bytes_of 2 (secondary_sum (bytes_of 8 time ++ bytes_of 2 0))))
      (λ e. tt)

-- ---- body, filler and data sum

-- the data sum as it is put down
abbrev pub sum_bytes : ℕ → List ℕ → List ℕ
sum_bytes f body = bytes_of (sum_length f) (data_sum (sum_code f) (body_and_filler_bytes f body))

module _ (f : ℕ) (body : List ℕ) where
  pub data_parts : data_bytes f body ≡ body ++ (replicate (filler_for f (length body)) 0 ++ sum_bytes f body)
  unfolding data_bytes body_and_filler_bytes
  data_parts = append_assoc body (replicate (filler_for f (length body)) 0) (sum_bytes f body)

  -- it is cut to its width already
  pub sum_back : num (sum_bytes f body) ≡ data_sum (sum_code f) (body_and_filler_bytes f body)
  sum_back = num_bytes_of (sum_length f) (data_sum (sum_code f) (body_and_filler_bytes f body)) (mod-lt _ (pow_pos (sum_length f)))

  pub data_bytes_lem : Bytes body → Bytes (data_bytes f body)
  data_bytes_lem h =
      let n = filler_for f (length body) in
      rw data_parts
      (bytes_append body (replicate n 0 ++ sum_bytes f body) h
      (bytes_append (replicate n 0) (sum_bytes f body) (bytes_zeros n) (bytes_bytes_of (sum_length f) _)))
