-- The three sums of a packet (document 01, "Primary header", "Secondary header" and "Trailer").
use Rattle.std.specs.Prelude.{List, ℕ, zero, suc, ◌/◌, length, Option, Some, None}
use Rattle.units.specs.Units.{checksum}
use Rattle.frame.specs.declared.sums.Width.{Width}
use Rattle.frame.specs.declared.sums.Width.TheVariants.{Bits8, Bits16, Bits32}

-- the sum of the eleven 16-bit words ahead of it (11.2.1.1)
abbrev pub header_sum : List ℕ → ℕ
header_sum bs = checksum 2 11 bs

-- the sum of the five 16-bit words before it (secondary header)
abbrev pub secondary_sum : List ℕ → ℕ
secondary_sum bs = checksum 2 5 bs

-- bits 1-0 of the flags, for each width of a data sum
abbrev pub code_of : Width → ℕ
code_of Bits8 = 1
code_of Bits16 = 2
code_of Bits32 = 3

-- and for none
abbrev pub code_in : Option Width → ℕ
code_in None = 0
code_in (Some width) = code_of width

-- the data sum's width in bytes, by bits 1-0 of the flags: none, 8, 16 or 32 bits
abbrev pub sum_width : ℕ → ℕ
sum_width zero = 0
sum_width (suc zero) = 1
sum_width (suc (suc zero)) = 2
sum_width (suc (suc (suc n))) = 4

-- body and filler in units of the sum's own width (trailer)
abbrev pub data_sum : ℕ → List ℕ → ℕ
data_sum code bs = checksum (sum_width code) (length bs / sum_width code) bs
