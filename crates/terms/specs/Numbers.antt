-- The refusals by their numbers (document 01, "What each call says no to"; from 18 on document 02), and the reasons of 15 by theirs (02 §2).
use Rattle.std.specs.Prelude.{ℕ, Result, Ok, Err}
use Rattle.terms.specs.declared.Number.{Number}
use Rattle.terms.specs.declared.Number.TheVariants.{State, Short, Sync, HeaderSum, Version, «Type», Flags, Channel, Length, Cut, SecondarySum, Secondary, DataSum, Filler, Layout, Room, Range, Full, NoEntry, Long}
use Rattle.terms.specs.declared.Reason.{Reason}
use Rattle.terms.specs.declared.Reason.TheVariants.{ChannelWord, CutShort, Time, LengthZero, Pad, LeftOver, Missing}

abbrev pub number_of : Number → ℕ
number_of State = 1
number_of Short = 2
number_of Sync = 3
number_of HeaderSum = 4
number_of Version = 5
number_of «Type» = 6
number_of Flags = 7
number_of Channel = 8
number_of Length = 9
number_of Cut = 10
number_of SecondarySum = 11
number_of Secondary = 12
number_of DataSum = 13
number_of Filler = 14
number_of Layout = 15
number_of Room = 16
number_of Range = 17
number_of Full = 19
number_of NoEntry = 20
number_of Long = 21

-- what a test answers, as document 01 numbers it: 0 where nothing is refused
abbrev pub told : {A : Type 0} → Result A Number → ℕ
told (Ok a) = 0
told (Err number) = number_of number

abbrev pub reason_of : Reason → ℕ
reason_of ChannelWord = 1
reason_of CutShort = 2
reason_of Time = 3
reason_of LengthZero = 4
reason_of Pad = 5
reason_of LeftOver = 6
reason_of Missing = 7
