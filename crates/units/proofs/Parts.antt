-- Laws of parts and fields.
use Rattle.std.proofs.Common.{◌≡◌, ℕ, zero, suc, ◌+◌, ◌-◌, ◌*◌, ◌^◌, ◌<◌, ◌≤◌, List, [], ◌∷◌, ◌++◌, length, get_or, take, drop, sym, refl, ap, ◌∙◌, subst, add-zero, mul_assoc, suc-add, zero-add, arith, length-drop, length-take, take-take, drop-drop, take_at, take-add, drop_at}
use native.Mathlib.Nat.{pow-succ', suc-sub-suc, zero-sub, sub-zero}
use lib.Seq.{take-length, take-append-le, drop-append-le, take-nil, drop-nil}
use Rattle.units.specs.Units.{Bytes, part, num, field, bytes_of}
use Rattle.units.proofs.Numbers.{bytes_take, bytes_drop, bytes_of_num, num_lt}

-- ---- parts

pub length_part : (bs : List ℕ) (at n : ℕ) → at + n ≤ length bs → length (part bs at n) ≡ n
length_part bs at n h = simp (length-take, length-drop) (omega arith)

pub bytes_part : (bs : List ℕ) (at n : ℕ) → Bytes bs → Bytes (part bs at n)
bytes_part bs at n h = bytes_take n (drop at bs) (bytes_drop at bs h)

pub drop_take : (b n : ℕ) (l : List ℕ) → drop b (take n l) ≡ take (n - b) (drop b l)
drop_take zero n l = rw sub-zero
drop_take (suc b) zero l = rw zero-sub
drop_take (suc b) (suc n) [] = sym (take-nil (suc n - suc b))
drop_take (suc b) (suc n) (x ∷ xs) = rw suc-sub-suc (drop_take b n xs)

-- the part that is the whole
pub part_whole : (bs : List ℕ) → part bs 0 (length bs - 0) ≡ bs
part_whole bs = let e : length bs - 0 ≡ length bs = omega arith in rw e (take-length bs)

-- one behind the other
pub part_add : (bs : List ℕ) (at n m : ℕ) → part bs at (n + m) ≡ part bs at n ++ part bs (at + n) m
part_add bs at n m = take-add n m (drop at bs) ∙ ap (λ (l : List ℕ). part bs at n ++ take m l) (drop-drop n at bs)

pub part_part : (bs : List ℕ) (a n b m : ℕ) → b + m ≤ n → part (part bs a n) b m ≡ part bs (a + b) m
part_part bs a n b m h =
    let k : m ≤ n - b = omega arith in
    rw (drop_take, drop-drop, take-take)

-- a part that lies in the front is not touched by what comes behind
pub part_front : (xs ys : List ℕ) (at n : ℕ) → at + n ≤ length xs → part (xs ++ ys) at n ≡ part xs at n
part_front xs ys at n h =
    let k : at ≤ length xs = omega arith in
    let j : n ≤ length (drop at xs) = simp length-drop (omega arith) in
    rw (drop-append-le, take-append-le)

-- what stands between p and r
pub part_at : (w p x r : List ℕ) (at n : ℕ) → w ≡ p ++ (x ++ r) → length p ≡ at → length x ≡ n → part w at n ≡ x
part_at w p x r at n e lp lx = rw (e, drop_at p (x ++ r) at lp) (take_at x r n lx)

-- ---- fields

pub field_part : (bs : List ℕ) (a n b m : ℕ) → b + m ≤ n → field (part bs a n) b m ≡ field bs (a + b) m
field_part bs a n b m h = ap num (part_part bs a n b m h)

pub field_front : (xs ys : List ℕ) (at n : ℕ) → at + n ≤ length xs → field (xs ++ ys) at n ≡ field xs at n
field_front xs ys at n h = ap num (part_front xs ys at n h)

pub field_zero : (bs : List ℕ) (at : ℕ) → field bs at 0 ≡ 0
unfolding num
field_zero bs at = refl

-- one byte, then the rest; also past the end, where each is 0
pub field_suc : (bs : List ℕ) (at n : ℕ) → field bs at (suc n) ≡ get_or bs at 0 + 256 * field bs (at + 1) n
unfolding num
field_suc [] zero n = rw (drop-nil, take-nil)
field_suc [] (suc at) n = rw (drop-nil (suc at + 1), take-nil)
field_suc (b ∷ bs) zero n = refl
field_suc (b ∷ bs) (suc at) n = rw suc-add (field_suc bs at n)

pub field_one : (bs : List ℕ) (at : ℕ) → field bs at 1 ≡ get_or bs at 0
field_one bs at = omega (arith, field_suc bs at 0, field_zero bs (at + 1))

pub field_two : (bs : List ℕ) (at : ℕ) → field bs at 2 ≡ get_or bs at 0 + 256 * get_or bs (at + 1) 0
field_two bs at = omega (arith, field_suc bs at 1, field_one bs (at + 1))

-- a field of n + m bytes: its low n, then the others
pub field_add : (bs : List ℕ) (at n m : ℕ) → field bs at (n + m) ≡ field bs at n + 256 ^ n * field bs (at + n) m
field_add bs at zero m = rw (zero-add, field_zero, add-zero) (omega arith)
field_add bs at (suc n) m =
    let i : at + 1 + n ≡ at + suc n = omega arith in
    let e : 256 ^ suc n * field bs (at + suc n) m ≡ 256 * (256 ^ n * field bs (at + suc n) m) = rw pow-succ' (mul_assoc 256 (256 ^ n) (field bs (at + suc n) m)) in
    let ih : field bs (at + 1) (n + m) ≡ field bs (at + 1) n + 256 ^ n * field bs (at + suc n) m = rw i at (field_add bs (at + 1) n m) in
    rw (suc-add, field_suc bs at (n + m), field_suc bs at n) (omega arith)

pub field_lt : (bs : List ℕ) (at n : ℕ) → Bytes bs → at + n ≤ length bs → field bs at n < 256 ^ n
field_lt bs at n h fits =
    let l : length (part bs at n) ≡ n = length_part bs at n fits in
    rw l at (num_lt (part bs at n) (bytes_part bs at n h))

-- the bytes of a field are those of its number
pub bytes_of_field : (bs : List ℕ) (at n : ℕ) → Bytes bs → at + n ≤ length bs → bytes_of n (field bs at n) ≡ part bs at n
bytes_of_field bs at n h fits =
    subst (λ (l : ℕ). bytes_of l (field bs at n) ≡ part bs at n) (length_part bs at n fits) (bytes_of_num (part bs at n) (bytes_part bs at n h))
