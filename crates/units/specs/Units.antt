-- Bytes, little-endian numbers and sums of units: what every contract above is written in.
use Rattle.std.specs.Prelude.{◌≡◌, ℕ, zero, suc, ◌+◌, ◌*◌, ◌/◌, ◌%◌, ◌^◌, ◌<◌, Bool, true, false, ◌&&◌, ◌≢◌, List, [], ◌∷◌, ◌++◌, length, take, drop, ◌==◌}

-- ---- bytes and places

-- every element is a byte
unfoldable pub Bytes : List ℕ → Type 0
Bytes [] = Unit {0}
Bytes (b ∷ bs) = (b < 256) × Bytes bs

-- the n bytes from `at` on
abbrev pub part : List ℕ → ℕ → ℕ → List ℕ
part bs at n = take n (drop at bs)

-- vs written over bs from `at` on
abbrev pub splice : List ℕ → ℕ → List ℕ → List ℕ
splice bs at vs = take at bs ++ vs ++ drop (at + length vs) bs

-- whether every byte is zero
unfoldable pub zeros : List ℕ → Bool
zeros [] = true
zeros (b ∷ bs) = b == 0 && zeros bs

-- whether two runs of bytes are equal
unfoldable pub same : List ℕ → List ℕ → Bool
same [] [] = true
same [] (y ∷ ys) = false
same (x ∷ xs) [] = false
same (x ∷ xs) (y ∷ ys) = x == y && same xs ys

-- ---- little-endian numbers

-- the value of some bytes, low byte first
unfoldable pub num : List ℕ → ℕ
num [] = 0
num (b ∷ bs) = b + 256 * num bs

-- the value of the n bytes from `at` on
abbrev pub field : List ℕ → ℕ → ℕ → ℕ
field bs at n = num (part bs at n)

-- the n low bytes of v, low byte first
unfoldable pub bytes_of : ℕ → ℕ → List ℕ
bytes_of zero v = []
bytes_of (suc n) v = v % 256 ∷ bytes_of n (v / 256)

-- ---- sums of units

-- the first k units of w bytes, added up
unfoldable pub sum_units : ℕ → ℕ → List ℕ → ℕ
sum_units w zero bs = 0
sum_units w (suc k) bs = num (take w bs) + sum_units w k (drop w bs)

-- the same modulo 2 to the width in bits
abbrev pub checksum : ℕ → ℕ → List ℕ → ℕ
checksum w k bs = sum_units w k bs % 256 ^ w

-- ---- a sum that stands behind what it adds up

-- whether the unit behind the first k units of w bytes is their sum
unfoldable pub summed : ℕ → ℕ → List ℕ → Bool
summed w k bs = checksum w k bs == field bs (w * k) w

-- ys is xs with the unit of w bytes at `at` replaced by a different one
pub record Changed (at w : ℕ) (xs ys : List ℕ) : Type 0 where
  pub front : List ℕ
  pub old : List ℕ
  pub new : List ℕ
  pub back : List ℕ
  pub was : xs ≡ front ++ (old ++ back)
  pub is : ys ≡ front ++ (new ++ back)
  pub place : length front ≡ at
  pub old_width : length old ≡ w
  pub new_width : length new ≡ w
  pub new_bytes : Bytes new
  pub differs : old ≢ new
