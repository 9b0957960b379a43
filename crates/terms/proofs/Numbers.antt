-- Every refusal's number is above 0, so that 0 tells of none.
use Prim.Native.Nat.{◌<◌}
use native.Mathlib.Omega.{arith}
use Rattle.terms.specs.declared.Number.{Number}
use Rattle.terms.specs.declared.Number.TheVariants.{State, Short, Sync, HeaderSum, Version, «Type», Flags, Channel, Length, Cut, SecondarySum, Secondary, DataSum, Filler, Layout, Room, Range, Full, NoEntry, Long}
use Rattle.terms.specs.Numbers.{number_of}

pub above_none : (n : Number) → 0 < number_of n
above_none State = omega arith
above_none Short = omega arith
above_none Sync = omega arith
above_none HeaderSum = omega arith
above_none Version = omega arith
above_none «Type» = omega arith
above_none Flags = omega arith
above_none Channel = omega arith
above_none Length = omega arith
above_none Cut = omega arith
above_none SecondarySum = omega arith
above_none Secondary = omega arith
above_none DataSum = omega arith
above_none Filler = omega arith
above_none Layout = omega arith
above_none Room = omega arith
above_none Range = omega arith
above_none Full = omega arith
above_none NoEntry = omega arith
above_none Long = omega arith
