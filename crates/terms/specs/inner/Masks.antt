-- A time rule in plain numbers, for loops that take it once. No rule of its own: in_form proves what it stands for.
use Rattle.std.specs.Prelude.{ℕ, ◌-◌, ◌^◌}
use Rattle.terms.specs.declared.TimeRule.{TimeRule}
use Rattle.terms.specs.declared.TimeRule.TheVariants.{Counter, Chapter4, Ieee1588, Extended}

-- a time rule as two numbers: the bits of a time under the mask stay below the limit (in_form)
unfoldable pub mask_of : TimeRule → ℕ
mask_of Counter = 2 ^ 64 - 1
mask_of Chapter4 = 2 ^ 16 - 1
mask_of Ieee1588 = 2 ^ 32 - 1
mask_of Extended = 0

unfoldable pub limit_of : TimeRule → ℕ
limit_of Counter = 2 ^ 48
limit_of Chapter4 = 1
limit_of Ieee1588 = 1000000000
limit_of Extended = 1
