-- Laws of numbers and their bytes, each over the width.
use Rattle.std.proofs.Common.{◌≡◌, ℕ, zero, suc, ◌+◌, ◌*◌, ◌/◌, ◌%◌, ◌^◌, ◌<◌, true, false, eqb, ◌&&◌, ne_eqb, Bool, List, [], ◌∷◌, ◌++◌, length, get_or, take, drop, replicate, sym, refl, ap, ◌∙◌, mod-eq_of_lt, suc-add, pow-suc, zero-add, div-one, arith, lit<, take-append-drop, eq-eqb, eqb-true}
use native.Mathlib.Nat.{div-div-eq-div-mul, mod-one, mod-mod, pow-succ', one-le-pow}
use lib.Arith.{mod-mul}
use Rattle.units.specs.Units.{Bytes, num, bytes_of, zeros}
use Rattle.units.proofs.Choices.{and_true}

pub pow_pos : (n : ℕ) → 0 < 256 ^ n
pow_pos n = one-le-pow n 256 (lit< tt)

-- ---- lists of bytes

pub bytes_left : (xs ys : List ℕ) → Bytes (xs ++ ys) → Bytes xs
unfolding Bytes
bytes_left [] ys h = tt
bytes_left (x ∷ xs) ys h = (h.0, bytes_left xs ys h.1)

pub bytes_right : (xs ys : List ℕ) → Bytes (xs ++ ys) → Bytes ys
unfolding Bytes
bytes_right [] ys h = h
bytes_right (x ∷ xs) ys h = bytes_right xs ys h.1

pub bytes_append : (xs ys : List ℕ) → Bytes xs → Bytes ys → Bytes (xs ++ ys)
unfolding Bytes
bytes_append [] ys h g = g
bytes_append (x ∷ xs) ys h g = (h.0, bytes_append xs ys h.1 g)

pub bytes_take : (n : ℕ) (xs : List ℕ) → Bytes xs → Bytes (take n xs)
bytes_take n xs h = bytes_left (take n xs) (drop n xs) (rw take-append-drop h)

pub bytes_drop : (n : ℕ) (xs : List ℕ) → Bytes xs → Bytes (drop n xs)
bytes_drop n xs h = bytes_right (take n xs) (drop n xs) (rw take-append-drop h)

-- each element below 256 makes a list of bytes
pub bytes_known : (bs : List ℕ) → ((i : ℕ) → get_or bs i 0 < 256) → Bytes bs
unfolding Bytes
bytes_known [] each = tt
bytes_known (b ∷ bs) each = (each 0, bytes_known bs (λ i. each (suc i)))

-- ---- a number and its bytes, both ways

pub length_bytes_of : (n v : ℕ) → length (bytes_of n v) ≡ n
unfolding bytes_of
length_bytes_of zero v = refl
length_bytes_of (suc n) v = ap suc (length_bytes_of n (v / 256))

pub bytes_bytes_of : (n v : ℕ) → Bytes (bytes_of n v)
unfolding bytes_of Bytes
bytes_bytes_of zero v = tt
bytes_bytes_of (suc n) v = (omega arith, bytes_bytes_of n (v / 256))

pub num_bytes_of_mod : (n v : ℕ) → num (bytes_of n v) ≡ v % 256 ^ n
unfolding bytes_of num
num_bytes_of_mod zero v = sym (mod-one v)
num_bytes_of_mod (suc n) v =
    let ih : num (bytes_of n (v / 256)) ≡ v / 256 % 256 ^ n = num_bytes_of_mod n (v / 256) in
    let e : v % (256 ^ n * 256) ≡ (v / 256 % 256 ^ n) * 256 + v % 256 = mod-mul v (pow_pos n) (lit< tt) in
    rw pow-suc (omega arith)

pub num_bytes_of : (n v : ℕ) → v < 256 ^ n → num (bytes_of n v) ≡ v
num_bytes_of n v h = num_bytes_of_mod n v ∙ mod-eq_of_lt h

pub bytes_of_num : (bs : List ℕ) → Bytes bs → bytes_of (length bs) (num bs) ≡ bs
unfolding bytes_of num Bytes
bytes_of_num [] h = refl
bytes_of_num (b ∷ bs) h =
    let lo : (b + 256 * num bs) % 256 ≡ b = omega (arith, h.0) in
    let hi : (b + 256 * num bs) / 256 ≡ num bs = omega (arith, h.0) in
    rw (lo, hi, bytes_of_num bs h.1)

pub num_inj : (xs ys : List ℕ) → Bytes xs → Bytes ys → length xs ≡ length ys → num xs ≡ num ys → xs ≡ ys
num_inj xs ys hx hy l e = cc (bytes_of_num xs hx, bytes_of_num ys hy)

pub num_lt : (bs : List ℕ) → Bytes bs → num bs < 256 ^ length bs
unfolding num Bytes
num_lt [] h = lit< tt
num_lt (b ∷ bs) h = rw pow-succ' (omega (arith, h.0, num_lt bs h.1))

-- ---- parts of a number

-- a number of n + m bytes: its low n bytes, then the others
pub bytes_of_add : (n m v : ℕ) → bytes_of (n + m) v ≡ bytes_of n v ++ bytes_of m (v / 256 ^ n)
unfolding bytes_of
bytes_of_add zero m v = rw (zero-add, div-one)
bytes_of_add (suc n) m v =
    let e : v / 256 / 256 ^ n ≡ v / 256 ^ suc n = rw pow-succ' (div-div-eq-div-mul v 256 (256 ^ n)) in
    rw (suc-add, ← e) (ap (λ (l : List ℕ). v % 256 ∷ l) (bytes_of_add n m (v / 256)))

-- n bytes hold the number modulo 256 ^ n
pub bytes_of_mod : (n v : ℕ) → bytes_of n (v % 256 ^ n) ≡ bytes_of n v
bytes_of_mod n v =
    num_inj (bytes_of n (v % 256 ^ n)) (bytes_of n v) (bytes_bytes_of n (v % 256 ^ n)) (bytes_bytes_of n v)
    (length_bytes_of n (v % 256 ^ n) ∙ sym (length_bytes_of n v))
    (num_bytes_of_mod n (v % 256 ^ n) ∙ mod-mod v (256 ^ n) ∙ sym (num_bytes_of_mod n v))

-- ---- zeros

pub zeros_true : (bs : List ℕ) → ((i : ℕ) → i < length bs → get_or bs i 0 ≡ 0) → zeros bs ≡ true
unfolding zeros
zeros_true [] h = refl
zeros_true (b ∷ bs) h = rw (eq-eqb b 0 (h 0 (omega arith))) (zeros_true bs (λ i l. h (suc i) (omega arith)))

pub zeros_false : (bs : List ℕ) (i : ℕ) → (get_or bs i 0 ≡ 0 → ⊥) → zeros bs ≡ false
unfolding zeros
zeros_false [] i h = absurd (h refl)
zeros_false (b ∷ bs) zero h = rw (ne_eqb b 0 h) refl
zeros_false (b ∷ bs) (suc i) h = rest (eqb b 0) (zeros_false bs i h)
  where
    rest : (t : Bool) → zeros bs ≡ false → (t && zeros bs) ≡ false
    rest true e = e
    rest false e = refl

pub zeros_replicate : (n : ℕ) → zeros (replicate n 0) ≡ true
unfolding zeros
zeros_replicate zero = refl
zeros_replicate (suc n) = zeros_replicate n

pub zeros_are : (xs : List ℕ) → zeros xs ≡ true → xs ≡ replicate (length xs) 0
unfolding zeros
zeros_are [] t = refl
zeros_are (x ∷ xs) t =
    let p = and_true (eqb x 0) (zeros xs) t in
    let e : x ≡ 0 = eqb-true x 0 p.0 in
    rw (e, ← zeros_are xs p.1)
