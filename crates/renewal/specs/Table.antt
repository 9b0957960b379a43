-- The renewal table (document 02 §13): its entries, their names, and the slots they stand in.
use Rattle.std.specs.Prelude.{List, [], ◌∷◌, Bool, ◌&&◌, not, ℕ, suc, ◌+◌, drop, get_or, replicate, ltb, eqb}
use Rattle.units.specs.Choice.{pick}
use Rattle.packet.specs.declared.Packet.{Packet}

-- ---- an entry: a row of seven words

abbrev pub Entry : Type 0
Entry = List ℕ

-- the first is 0 where the slot is free; with any other word the entry lives
abbrev pub free : Entry → Bool
free e = eqb (get_or e 0 0) 0

abbrev pub live : Entry → Bool
live e = not (free e)

-- recording number, place, P, channel, sequence, RTC
abbrev pub recording_of : Entry → ℕ
recording_of e = get_or e 1 0

abbrev pub place_of : Entry → ℕ
place_of e = get_or e 2 0

abbrev pub length_of : Entry → ℕ
length_of e = get_or e 3 0

-- that of a packet of this recording
abbrev pub entry_of : ℕ → Packet → Entry
entry_of recording p = 1 ∷ recording ∷ p.recording_place ∷ p.length ∷ p.fields.channel ∷ p.fields.sequence ∷ p.fields.rtc ∷ []

-- a free slot's, as the empty table has it and as an entry that is dropped leaves it
abbrev pub no_entry : Entry
no_entry = 0 ∷ 0 ∷ 0 ∷ 0 ∷ 0 ∷ 0 ∷ 0 ∷ []

-- ---- the table: up to 64 entries, each in its slot

abbrev pub empty_table : List Entry
empty_table = replicate 64 no_entry

abbrev pub entry : List Entry → ℕ → Entry
entry t k = get_or t k []

-- an entry's name is its recording number and place
abbrev pub named : ℕ → ℕ → Entry → Bool
named recording place e = live e && eqb (recording_of e) recording && eqb (place_of e) place

-- the lowest slot whose entry is as asked for; past the last if there is none
unfoldable pub lowest : (Entry → Bool) → List Entry → ℕ
lowest asked [] = 0
lowest asked (e ∷ es) = pick (asked e) 0 (suc (lowest asked es))

-- where a name is held: of a name held twice in a forged table the lowest slot counts
abbrev pub slot_of : ℕ → ℕ → List Entry → ℕ
slot_of recording place t = lowest (named recording place) t

-- freed slots are taken again, lowest first
abbrev pub free_of : List Entry → ℕ
free_of t = lowest free t

-- where a name is to be held: adding a name already held replaces it in its own slot
unfoldable pub home_of : ℕ → ℕ → List Entry → ℕ
home_of recording place t = pick (ltb (slot_of recording place t) 64) (slot_of recording place t) (free_of t)

-- the lowest such slot at or behind this one, 64 if there is none
unfoldable pub lowest_from : (Entry → Bool) → List Entry → ℕ → ℕ
lowest_from asked t from = pick (ltb from 64) (from + lowest asked (drop from t)) 64

-- the entries that live, one by one
abbrev pub next_live : List Entry → ℕ → ℕ
next_live t from = lowest_from live t from
