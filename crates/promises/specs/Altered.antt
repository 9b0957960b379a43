-- Packets altered in a single unit (demand 3).
use Rattle.std.specs.Prelude.{◌≡◌, List, [], ◌∷◌, ◌++◌, ◌⊎◌, ◌≢◌, ℕ, suc, ◌+◌, ◌*◌, ◌≤◌, ◌<◌, length}
use Rattle.units.specs.Units.{Bytes}
use Rattle.frame.specs.Header.{byte}
use Rattle.frame.specs.Contents.{Contents}
use Rattle.packet_bytes.specs.Bytes.{packet_bytes}
use Rattle.promises.specs.Contents.{Accepts, AllAccepted, written}
use Rattle.promises.specs.Numbers.{bit7, width}

abbrev pub flags_of : Contents → ℕ
flags_of c = c.fields.flags

-- the length of its secondary header, where its body begins, and its data sum's width in bytes, by the flags (document 01, "Primary header")
abbrev pub secondary_size : Contents → ℕ
secondary_size c = 12 * bit7 (flags_of c)

abbrev pub body_place : Contents → ℕ
body_place c = 24 + secondary_size c

abbrev pub sum_size : Contents → ℕ
sum_size c = width (flags_of c)

-- the units that the demand names in the packet of c: the refusal that each is to give, its place and its width
pub data UnitOf (c : Contents) : ℕ → ℕ → ℕ → Type 0 where
  -- the sync word
  sync : UnitOf c 3 0 2
  -- another 16-bit word of its primary header of 24 bytes, the sum too
  primary : (j : ℕ) → 0 < j → 2 * j + 2 ≤ 24 → UnitOf c 4 (2 * j) 2
  -- one 16-bit word of its secondary header, if it has one, the sum too
  secondary : (j : ℕ) → 2 * j + 2 ≤ secondary_size c → UnitOf c 11 (24 + 2 * j) 2
  -- if it carries a data sum, one aligned unit of that sum's width in body, filler or sum, counted from the body's first byte
  trailer : (j : ℕ) → 0 < sum_size c → body_place c + sum_size c * j + sum_size c ≤ length (packet_bytes c)
      → UnitOf c 13 (body_place c + sum_size c * j) (sum_size c)

-- ys is xs with some of the n bytes at `at` altered, and no other
pub record AlteredAt (at n : ℕ) (xs ys : List ℕ) : Type 0 where
  pub long : length ys ≡ length xs
  pub bytes : Bytes ys
  pub same : (i : ℕ) → (i < at) ⊎ (at + n ≤ i) → byte ys i ≡ byte xs i
  pub differs : ys ≢ xs

-- ys is the packet of c altered in a single unit, whose refusal is to be n
pub record Altered (c : Contents) (n : ℕ) (ys : List ℕ) : Type 0 where
  pub place : ℕ
  pub width : ℕ
  pub unit : UnitOf c n place width
  pub change : AlteredAt place width (packet_bytes c) ys

-- contents that the writer accepts, written end to end, each packet left as it is or altered in a single unit; k of them are altered
pub data Pieces : List Contents → ℕ → List ℕ → Type 0 where
  none : Pieces [] 0 []
  intact : {c : Contents} {cs : List Contents} {k : ℕ} {bs : List ℕ} → Accepts c → Pieces cs k bs → Pieces (c ∷ cs) k (packet_bytes c ++ bs)
  altered : {c : Contents} {n : ℕ} {ys : List ℕ} {cs : List Contents} {k : ℕ} {bs : List ℕ} → Accepts c → Altered c n ys → Pieces cs k bs
      → Pieces (c ∷ cs) (suc k) (ys ++ bs)

-- where any is altered, at least one: the first altered one, what stands before it as it was written, and what stands behind
pub record FirstAltered (cs : List Contents) (bs : List ℕ) : Type 0 where
  pub before : List Contents
  pub first : Contents
  pub behind : List Contents
  pub number : ℕ
  pub found : List ℕ
  pub rest : List ℕ
  pub list : cs ≡ before ++ (first ∷ behind)
  pub written_before : AllAccepted before
  pub writable : Accepts first
  pub alteration : Altered first number found
  pub bytes : bs ≡ written before ++ (found ++ rest)
