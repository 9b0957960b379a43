-- What it is for a recording to be read as some contents (demand 3).
use Rattle.std.specs.Prelude.{◌≡◌, List, map, ℕ, length}
use Rattle.terms.specs.declared.Refusal.{Refusal}
use Rattle.frame.specs.Contents.{Contents}
use Rattle.packet.specs.declared.Packet.{Packet}
use Rattle.recording.specs.Reading.{read_recording}
use Rattle.promises.specs.Handed.{HandsOut}
use Rattle.recording.specs.declared.Recording.{Recording}
use Rattle.promises.specs.Contents.{contents_of}

-- the answer to a recording that is handed out as cs, to this place of the buffer and of the recording, and with this refusal
abbrev pub answered : List Contents → ℕ → ℕ → Refusal → Recording
answered cs reached recording_reached refusal =
    record { accepted = length cs; reached = reached; recording_reached = recording_reached; refusal = refusal }

-- reading the window hands out packets whose contents are cs, one behind the other, and stops there
pub record ReadsAs (buf : List ℕ) (start end base : ℕ) (cs : List Contents) (reached recording_reached : ℕ) (refusal : Refusal) : Type 0 where
  -- what the call says
  pub answer : read_recording buf start end base ≡ answered cs reached recording_reached refusal
  -- the packets that the one-packet reader gives, at each of their places with the same end and the base moved on
  pub packets : List Packet
  pub handed : HandsOut buf start end base (answered cs reached recording_reached refusal) packets
  -- and they are as cs says
  pub contents : map (contents_of buf) packets ≡ cs
