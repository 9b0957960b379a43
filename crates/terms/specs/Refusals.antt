-- A refusal (document 01, "What each call says no to"): its number, its place, for 16 the room needed, for 15 the reason (document 02 §2), and its
-- place in the recording (document 02 §9).
use Rattle.std.specs.Prelude.{ℕ, ◌+◌, ◌-◌}
use Rattle.terms.specs.declared.Refusal.{Refusal}

-- the record. Other crates make refusals by the names below and hand them on whole, so that what a refusal gains is added in this file
abbrev pub refusal : ℕ → ℕ → ℕ → ℕ → ℕ → Refusal
refusal number place room reason recording_place =
    record { number = number; place = place; room = room; reason = reason; recording_place = recording_place }

-- a refusal returns its number and place; the place in the recording is 0 until a call that is given a base sets it (`recorded`)
abbrev pub refused : ℕ → ℕ → Refusal
refused number place = refusal number place 0 0 0

-- 16 also gives the room needed
abbrev pub needing : ℕ → Refusal → Refusal
needing room r = refusal r.number r.place room r.reason r.recording_place

-- no refusal: all is 0
abbrev pub no_refusal : Refusal
no_refusal = refused 0 0

-- 15: an opened body breaks its layout, at the channel word or the first byte of the block at fault
-- (or of the bytes left over, or where a missing block should begin). It names the rule broken: 1 channel word (or under 4 bytes), 2 block cut
-- short, 3 time, 4 length zero, 5 pad not zero, 6 bytes after the counted blocks, 7 body ends where a block must begin
abbrev pub fault : ℕ → ℕ → Refusal
fault place reason = refusal 15 place 0 reason 0

-- the same refusal, at another place
abbrev pub placed : ℕ → Refusal → Refusal
placed place r = refusal r.number place r.room r.reason r.recording_place

-- the same refusal, so many bytes on
abbrev pub moved : ℕ → Refusal → Refusal
moved by r = placed (by + r.place) r

-- the same refusal, with its place in the recording: a base that the caller gives, plus the distance from the window's start
abbrev pub recorded : ℕ → ℕ → Refusal → Refusal
recorded base start r = refusal r.number r.place r.room r.reason (base + (r.place - start))
