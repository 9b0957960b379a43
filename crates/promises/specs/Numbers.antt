-- The rules of numbers in document 01's words, which reader and writer share. No test of theirs is cited: that the tests say the same is proved in
-- proofs/NumbersKept.antt.
use Rattle.std.specs.Prelude.{◌≡◌, List, [], ◌∷◌, ◌⊎◌, ◌≢◌, ℕ, ◌+◌, ◌*◌, ◌/◌, ◌%◌, ◌^◌, ◌≤◌, ◌<◌}
use Rattle.frame.specs.Sums.{sum_width}
use Rattle.promises.specs.Refusals.{OneOf}

-- ---- flags (document 01, "Primary header")

-- bit 7: secondary header present
abbrev pub bit7 : ℕ → ℕ
bit7 flags = flags / 128 % 2

-- bit 6: message times are absolute
abbrev pub bit6 : ℕ → ℕ
bit6 flags = flags / 64 % 2

-- bits 3-2: time format, 00 Chapter 4, 01 IEEE 1588, 10 extended counter, 11 reserved
abbrev pub format : ℕ → ℕ
format flags = flags / 4 % 4

-- bits 1-0: data sum, none, 8, 16 or 32 bits; its width in bytes
abbrev pub width : ℕ → ℕ
width flags = sum_width (flags % 4)

-- ---- rules 5 to 9

-- 5: version is 0x01 to 0x09
abbrev pub VersionKept : ℕ → Type 0
VersionKept version = (0x01 ≤ version) × (version ≤ 0x09)

-- defined types: 0x00-0x04, 0x09, 0x0A, 0x11, 0x12, 0x19, 0x1A, 0x21, 0x29, 0x30, 0x38, 0x40-0x44, 0x48-0x4A, 0x50, 0x58, 0x59, 0x60,
-- 0x68, 0x69, 0x70-0x72, 0x78-0x7A. That is 35; all others are reserved
abbrev pub defined_types : List ℕ
defined_types =
    0x00 ∷ 0x01 ∷ 0x02 ∷ 0x03 ∷ 0x04 ∷ 0x09 ∷ 0x0A ∷ 0x11 ∷ 0x12 ∷ 0x19 ∷ 0x1A ∷ 0x21 ∷ 0x29 ∷ 0x30 ∷ 0x38 ∷ 0x40 ∷ 0x41 ∷ 0x42 ∷ 0x43 ∷ 0x44
    ∷ 0x48 ∷ 0x49 ∷ 0x4A ∷ 0x50 ∷ 0x58 ∷ 0x59 ∷ 0x60 ∷ 0x68 ∷ 0x69 ∷ 0x70 ∷ 0x71 ∷ 0x72 ∷ 0x78 ∷ 0x79 ∷ 0x7A ∷ []

-- 6: the type is a defined one
abbrev pub TypeKept : ℕ → Type 0
TypeKept kind = OneOf kind defined_types

-- 7: time format 11 is reserved, refused even where bit 7 is 0; if bit 6 is 1, bit 7 must be 1
abbrev pub FlagsKept : ℕ → Type 0
FlagsKept flags = (format flags ≢ 3) × (bit6 flags ≡ 1 → bit7 flags ≡ 1)

-- 8: channel 0 only with types 0x01 and 0x04
abbrev pub ChannelKept : ℕ → ℕ → Type 0
ChannelKept channel kind = channel ≡ 0 → (kind ≡ 0x01) ⊎ (kind ≡ 0x04)

-- 9, of the lengths p (P) and d (D)
pub record LengthsKept (kind flags p d : ℕ) : Type 0 where
  -- P is a multiple of 4, at most 524,288, or 134,217,728 for type 0x01
  pub fours : p % 4 ≡ 0
  pub most : (p ≤ 524288) ⊎ ((kind ≡ 0x01) × (p ≤ 134217728))
  -- D is at least 1
  pub some : 1 ≤ d
  -- P = 24, plus 12 if bit 7 is set, plus D, plus filler of 0 to 3 bytes, plus the sum's width
  pub parts : (filler : ℕ) × (filler ≤ 3) × (p ≡ 24 + 12 * bit7 flags + d + filler + width flags)

-- ---- times (document 01, "Secondary header" and "Opened bodies")

-- a 64-bit time by its format, `code`; extended counter: any
pub record InFormat (code time : ℕ) : Type 0 where
  -- Chapter 4: the low 16 bits are zero
  pub chapter4 : code ≡ 0 → time % 2 ^ 16 ≡ 0
  -- IEEE 1588: low is nanoseconds below 1,000,000,000
  pub ieee1588 : code ≡ 1 → time % 2 ^ 32 < 1000000000

-- a message's time, by the flags
pub record TimeInForm (flags time : ℕ) : Type 0 where
  -- flag bit 6 clear means a value below 2^48
  pub counter : bit6 flags ≡ 0 → time < 2 ^ 48
  -- set means the secondary time rule of the same format
  pub absolute : bit6 flags ≡ 1 → InFormat (format flags) time
