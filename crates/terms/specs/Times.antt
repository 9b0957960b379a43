-- Time rules (document 01, "Secondary header" and "Opened bodies"): one definition for message times and the secondary time.
use Rattle.std.specs.Prelude.{Bool, true, ℕ, ◌%◌, ◌^◌, ltb, eqb}
use Rattle.units.specs.Choice.{pick}
use Rattle.terms.specs.declared.TimeRule.{TimeRule}
use Rattle.terms.specs.declared.TimeRule.TheVariants.{Counter, Chapter4, Ieee1588, Extended}

-- a 64-bit time in form
unfoldable pub time_ok : TimeRule → ℕ → Bool
-- flag bit 6 clear: a value below 2^48
time_ok Counter t = ltb t (2 ^ 48)
-- Chapter 4: the low 16 bits are zero
time_ok Chapter4 t = eqb (t % 2 ^ 16) 0
-- IEEE 1588: low is nanoseconds below 1,000,000,000
time_ok Ieee1588 t = ltb (t % 2 ^ 32) 1000000000
-- extended counter: any
time_ok Extended t = true

-- a rule by its number: 1 the counter (flag bit 6 clear), else 2 and the format bits.
-- 0, no rule, tests no time, and 5 and above are refused: what they give here has no say
unfoldable pub rule_of : ℕ → TimeRule
rule_of n = pick (eqb n 1) Counter (pick (eqb n 2) Chapter4 (pick (eqb n 3) Ieee1588 Extended))
