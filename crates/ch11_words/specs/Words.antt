-- The structs of include/ch11.h as 64-bit words, in the header's order: document 01's number and values of each answer.
use Rattle.std.specs.Prelude.{List, [], ◌∷◌, ◌++◌, ℕ, length}
use Rattle.terms.specs.declared.Refusal.{Refusal}
use Rattle.terms.specs.Refusals.{no_refusal}
use Rattle.builder.specs.Build.{StepTold}
use Rattle.builder.specs.declared.Draft.{Draft}
use Rattle.frame.specs.declared.Fields.{Fields}
use Rattle.packet.specs.Read.{PacketTold}
use Rattle.packet.specs.Messages.{ListTold, MessageTold}
use Rattle.packet.specs.Write.{WriteTold}
use Rattle.packet.specs.declared.Part.{Part}
use Rattle.recording.specs.declared.Recording.{Recording}
use Rattle.renewal.specs.Renewal.{AddTold, RenewTold}

-- ---- structs inside others

-- struct ch11_refusal, with which every other struct of a result begins
abbrev pub refusal_words : Refusal → List ℕ
refusal_words r = r.number ∷ r.place ∷ r.room ∷ r.reason ∷ r.recording_place ∷ []

-- its number of words
abbrev pub refusal_size : ℕ
refusal_size = length (refusal_words no_refusal)

-- struct ch11_fields
abbrev pub fields_words : Fields → List ℕ
fields_words f = f.channel ∷ f.version ∷ f.sequence ∷ f.flags ∷ f.kind ∷ f.rtc ∷ f.time ∷ []

-- struct ch11_part
abbrev pub part_words : Part → List ℕ
part_words p = p.at ∷ p.length ∷ []

-- ---- results

-- struct ch11_packet
unfoldable pub packet_words : PacketTold → List ℕ
packet_words t =
    refusal_words t.refusal
    ++ fields_words t.packet.fields
    ++ (t.packet.length ∷ t.packet.data_length ∷ t.packet.header_sum ∷ t.packet.data_sum ∷ t.packet.recording_place ∷ [])
    ++ part_words t.packet.header
    ++ part_words t.packet.secondary
    ++ part_words t.packet.body
    ++ part_words t.packet.filler
    ++ part_words t.packet.sum

-- struct ch11_list
unfoldable pub list_words : ListTold → List ℕ
list_words t = refusal_words t.refusal ++ (t.count ∷ [])

-- struct ch11_message
unfoldable pub message_words : MessageTold → List ℕ
message_words t = refusal_words t.refusal ++ (t.message.time ∷ t.message.id ∷ t.message.start ∷ t.message.length ∷ [])

-- struct ch11_recording
unfoldable pub recording_words : Recording → List ℕ
recording_words r = refusal_words r.refusal ++ (r.accepted ∷ r.reached ∷ r.recording_reached ∷ [])

-- struct ch11_written
unfoldable pub written_words : WriteTold → List ℕ
written_words t = refusal_words t.refusal ++ (t.length ∷ [])

-- the state in struct ch11_draft
abbrev pub state_words : Draft → List ℕ
state_words d = d.used ∷ d.blocks ∷ d.kind ∷ d.rule ∷ []

-- struct ch11_draft
unfoldable pub draft_words : StepTold → List ℕ
draft_words t = refusal_words t.refusal ++ state_words t.draft

-- ---- the renewal table, whose struct ch11_table is its 64 rows of words

-- struct ch11_added
unfoldable pub added_words : AddTold → List ℕ
added_words t = refusal_words t.refusal ++ (t.slot ∷ [])

-- struct ch11_renewed
unfoldable pub renewed_words : RenewTold → List ℕ
renewed_words t = refusal_words t.refusal ++ (t.lives ∷ refusal_words t.cause)
