-- The table of refusals (document 01, "What each call says no to"): 2 to 14, all placed at the packet's start.
use Rattle.std.specs.Prelude.{List, [], ◌∷◌, ◌++◌, Bool, ℕ}
use Rattle.units.specs.Choice.{pick}
use Rattle.frame.specs.Header.{channel_in, packet_length, data_length, version_in, flags_in, kind_in}
use Rattle.frame.specs.Rules.{version_ok, type_ok, flags_ok, channel_ok, lengths_ok, enough, synced, header_summed, whole, secondary_summed, secondary_ok, data_summed, filler_ok}

-- a line of the table: the refusal's number, and whether the rule holds
pub data Line : Type 0 where
  line : ℕ → Bool → Line

-- tested from the top: the number of the first rule that does not hold, and 0 where all hold
unfoldable pub first : List Line → ℕ
first [] = 0
first (line number holds ∷ lines) = pick holds (first lines) number

-- 2 to 4: is there a header
unfoldable pub head_lines : List ℕ → List Line
head_lines w =
    line 2 (enough w)
    ∷ line 3 (synced w)
    ∷ line 4 (header_summed w)
    ∷ []

-- 5 to 9: may its numbers be so
unfoldable pub value_lines : ℕ → ℕ → ℕ → ℕ → ℕ → ℕ → List Line
value_lines channel version flags kind p d =
    line 5 (version_ok version)
    ∷ line 6 (type_ok kind)
    ∷ line 7 (flags_ok flags)
    ∷ line 8 (channel_ok channel kind)
    ∷ line 9 (lengths_ok kind flags p d)
    ∷ []

-- of a header
abbrev pub values_in : List ℕ → List Line
values_in w = value_lines (channel_in w) (version_in w) (flags_in w) (kind_in w) (packet_length w) (data_length w)

-- 10: is the packet there
unfoldable pub whole_lines : List ℕ → List Line
whole_lines w =
    line 10 (whole w)
    ∷ []

-- 11 and 12: the secondary header
unfoldable pub secondary_lines : List ℕ → List Line
secondary_lines w =
    line 11 (secondary_summed w)
    ∷ line 12 (secondary_ok w)
    ∷ []

-- 13 and 14: the trailer
unfoldable pub trailer_lines : List ℕ → List Line
trailer_lines w =
    line 13 (data_summed w)
    ∷ line 14 (filler_ok w)
    ∷ []

-- 2 to 14, of a window's bytes w
unfoldable pub frame_lines : List ℕ → List Line
frame_lines w =
    head_lines w
    ++ (values_in w
    ++ (whole_lines w
    ++ (secondary_lines w
    ++ trailer_lines w)))
