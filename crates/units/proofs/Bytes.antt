-- The library's words for a number's bytes, low byte first, are those of specs/.
use Rattle.std.proofs.Common.{◌≡◌, ℕ, zero, suc, ◌+◌, ◌*◌, ◌/◌, ◌%◌, ◌^◌, List, length, refl, sym, ap, ◌∙◌, arith, div-one, pow-suc, add-zero, add-one, zero-add, mul_comm, slice_index}
use Rattle.std.proofs.lemmas.Slice.{put_mid-paste}
use Rattle.std.specs.Int.{byte_at, byte_worth, bytes_low_first, sum_through}
use native.Mathlib.Nat.{div-div-eq-div-mul}
use borrow.Rule.Slice.PartMut.{put_mid}
use Rattle.units.specs.Units.{part, field, bytes_of, splice}
use Rattle.units.proofs.Numbers.{length_bytes_of}
use Rattle.units.proofs.Parts.{field_add, field_one, field_part}
use Rattle.units.proofs.Writes.{paste_whole}

-- a write to a part that is as long as what is written
pub splice_mid : (bs : List ℕ) (at n : ℕ) (vs : List ℕ) → length vs ≡ n → put_mid at n bs vs ≡ splice bs at vs
splice_mid bs at n vs l = put_mid-paste at n bs vs vs n refl refl (sym l) ∙ paste_whole bs at vs n (sym l)

-- the value of k + 1 bytes from `at` on
pub le_field : (k : ℕ) (bs : List ℕ) (at n : ℕ) (vs : List ℕ) → vs ≡ part bs at n → n ≡ suc k
    → sum_through (λ i. byte_worth i (slice_index vs i)) k ≡ field bs at (suc k)
le_field k bs at n vs is e = whole k vs ∙ rw (is, e) (field_part bs at (suc k) 0 (suc k) (omega arith) ∙ rw add-zero refl)
  where
    whole : (k : ℕ) (vs : List ℕ) → sum_through (λ i. byte_worth i (slice_index vs i)) k ≡ field vs 0 (suc k)
    whole zero vs = sym (field_one vs 0)
    whole (suc k) vs =
        let next : field vs (0 + suc k) 1 ≡ slice_index vs (suc k) = rw zero-add (field_one vs (suc k)) in
        let worth : slice_index vs (suc k) * 256 ^ suc k ≡ 256 ^ suc k * field vs (0 + suc k) 1 = rw next (mul_comm (slice_index vs (suc k)) (256 ^ suc k)) in
        let last : field vs 0 (suc (suc k)) ≡ field vs 0 (suc k) + 256 ^ suc k * field vs (0 + suc k) 1 = rw add-one at (field_add vs 0 (suc k) 1) in
        omega (arith, whole k vs, last, worth)

byte : (i v : ℕ) → byte_at i v ≡ v / 256 ^ i % 256
byte zero v = rw div-one refl
byte (suc i) v = refl

-- the n bytes of v from the i-th on
from_byte : (i n v : ℕ) → bytes_low_first i n v ≡ bytes_of n (v / 256 ^ i)
unfolding bytes_of
from_byte i zero v = refl
from_byte i (suc n) v =
    let e : v / 256 ^ i / 256 ≡ v / 256 ^ suc i = rw pow-suc (div-div-eq-div-mul v (256 ^ i) 256) in
    rw (byte i v, from_byte (suc i) n v, e) refl

-- a write of the n bytes of v
pub le_put : (n v : ℕ) (bs : List ℕ) (at m : ℕ) (vs : List ℕ) → vs ≡ bytes_low_first 0 n v → m ≡ n → put_mid at m bs vs ≡ splice bs at (bytes_of n v)
le_put n v bs at m vs is e =
    let i : vs ≡ bytes_of n v = is ∙ from_byte 0 n v ∙ ap (bytes_of n) (div-one v) in
    splice_mid bs at m vs (ap length i ∙ length_bytes_of n v ∙ sym e) ∙ ap (splice bs at) i
