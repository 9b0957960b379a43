-- The structs of include/ch11.h, word by word in the header's order, what the writer and adding say of words wider than what they stand for, and what each
-- call returns and leaves: said without looking at the definitions that the contracts cite. Quoted is the header. Proved in
-- proofs/Interface.antt (interface).
use Rattle.std.specs.Prelude.{◌≡◌, List, [], ◌∷◌, ◌≢◌, ℕ, ◌≤◌, ◌<◌, length, Result}
use Rattle.units.specs.Units.{bytes_of}
use Rattle.body.specs.Blocks.{block_bytes}
use Rattle.builder.specs.Build.{form_of, open_step, open_word, add_step, entry_of, close_step, counter_bytes, buf_after, StepTold, step_told}
use Rattle.builder.specs.declared.Draft.{Draft}
use Rattle.frame.specs.Contents.{Contents, contents}
use Rattle.frame.specs.declared.Fields.{Fields}
use Rattle.packet_bytes.specs.Bytes.{packet_bytes}
use Rattle.packet.specs.Read.{window, read_packet, PacketTold, packet_told}
use Rattle.packet.specs.Messages.{list_packet, list_after, starts, lengths, message_packet, ListTold, list_told, MessageTold, message_told}
use Rattle.packet.specs.Write.{write_packet, out_after, WriteTold, write_told}
use Rattle.recording.specs.Reading.{read_recording}
use Rattle.recording.specs.declared.Recording.{Recording}
use Rattle.renewal.specs.Table.{Entry, slot_of, next_live}
use Rattle.renewal.specs.Renewal.{add_entry, entry_in, own_bytes, table_added, store_added, AddTold, add_told, renew_entry, table_renewed, RenewTold, renew_told}
use Rattle.ch11_words.specs.Words.{packet_words, list_words, message_words, recording_words, written_words, draft_words, added_words, renewed_words}
use Rattle.ch11.specs.Calls as Calls
use Rattle.ch11.specs.Given.{fields_of, write_given, draft_of, add_given}
use Rattle.terms.specs.declared.Refusal.{Refusal}
use Rattle.renewal.specs.declared.Renewed.{Renewed}

-- each field can hold its value: the channel in 2 bytes; version, sequence, flags and type in one
pub record Held (f : Fields) : Type 0 where
  pub channel : f.channel ≤ 65535
  pub version : f.version ≤ 255
  pub sequence : f.sequence ≤ 255
  pub flags : f.flags ≤ 255
  pub kind : f.kind ≤ 255

-- a call returns its refusal's number, and its struct holds these words
abbrev pub Answers : ℕ → List ℕ → ℕ → List ℕ → Type 0
Answers number words n struct = (n ≡ number) × (struct ≡ words)

pub record Interface : Type 0 where
  -- struct ch11_packet: refusal, fields, lengths and sums, the five parts
  pub packet : (t : PacketTold)
      → packet_words t
      ≡ t.refusal.number ∷ t.refusal.place ∷ t.refusal.room ∷ t.refusal.reason ∷ t.refusal.recording_place
      ∷ t.packet.fields.channel ∷ t.packet.fields.version ∷ t.packet.fields.sequence ∷ t.packet.fields.flags ∷ t.packet.fields.kind
      ∷ t.packet.fields.rtc ∷ t.packet.fields.time
      ∷ t.packet.length ∷ t.packet.data_length ∷ t.packet.header_sum ∷ t.packet.data_sum ∷ t.packet.recording_place
      ∷ t.packet.header.at ∷ t.packet.header.length ∷ t.packet.secondary.at ∷ t.packet.secondary.length
      ∷ t.packet.body.at ∷ t.packet.body.length ∷ t.packet.filler.at ∷ t.packet.filler.length ∷ t.packet.sum.at ∷ t.packet.sum.length ∷ []
  -- struct ch11_list, ch11_message, ch11_recording, ch11_written, ch11_draft: the refusal first
  pub list : (t : ListTold) → list_words t ≡ t.refusal.number ∷ t.refusal.place ∷ t.refusal.room ∷ t.refusal.reason ∷ t.refusal.recording_place ∷ t.count ∷ []
  pub message : (t : MessageTold)
      → message_words t
      ≡ t.refusal.number ∷ t.refusal.place ∷ t.refusal.room ∷ t.refusal.reason ∷ t.refusal.recording_place ∷ t.message.time ∷ t.message.id ∷ t.message.start ∷ t.message.length ∷ []
  pub recording : (r : Recording) → recording_words r ≡ r.refusal.number ∷ r.refusal.place ∷ r.refusal.room ∷ r.refusal.reason ∷ r.refusal.recording_place ∷ r.accepted ∷ r.reached ∷ r.recording_reached ∷ []
  pub written : (t : WriteTold) → written_words t ≡ t.refusal.number ∷ t.refusal.place ∷ t.refusal.room ∷ t.refusal.reason ∷ t.refusal.recording_place ∷ t.length ∷ []
  pub draft : (t : StepTold)
      → draft_words t
      ≡ t.refusal.number ∷ t.refusal.place ∷ t.refusal.room ∷ t.refusal.reason ∷ t.refusal.recording_place ∷ t.draft.used ∷ t.draft.blocks ∷ t.draft.kind ∷ t.draft.rule ∷ []
  -- struct ch11_added and ch11_renewed, which ends with the reader's refusal by which an entry is dropped; struct ch11_table is the table's own words
  pub added : (t : AddTold) → added_words t ≡ t.refusal.number ∷ t.refusal.place ∷ t.refusal.room ∷ t.refusal.reason ∷ t.refusal.recording_place ∷ t.slot ∷ []
  pub renewed : (t : RenewTold)
      → renewed_words t
      ≡ t.refusal.number ∷ t.refusal.place ∷ t.refusal.room ∷ t.refusal.reason ∷ t.refusal.recording_place ∷ t.lives
      ∷ t.cause.number ∷ t.cause.place ∷ t.cause.room ∷ t.cause.reason ∷ t.cause.recording_place ∷ []
  -- struct ch11_fields and ch11_draft, as they are given
  pub fields_given : (channel version sequence flags kind rtc time : ℕ)
      → fields_of (channel ∷ version ∷ sequence ∷ flags ∷ kind ∷ rtc ∷ time ∷ [])
      ≡ record { channel = channel; version = version; sequence = sequence; flags = flags; kind = kind; rtc = rtc; time = time }
  pub draft_given : (number place room reason recorded used blocks kind rule : ℕ)
      → draft_of (number ∷ place ∷ room ∷ reason ∷ recorded ∷ used ∷ blocks ∷ kind ∷ rule ∷ []) ≡ record { used = used; blocks = blocks; kind = kind; rule = rule }
  -- "First 17 (a value that its field can't hold; ..)"
  pub write_17 : (c : Contents) (room : ℕ) → ¬ Held c.fields
      → write_told (write_given c room) ≡ record { refusal = record { number = 17; place = 0; room = 0; reason = 0; recording_place = 0 }; length = 0 }
  -- else as the writer says
  pub writes : (c : Contents) (room : ℕ) → Held c.fields → write_given c room ≡ write_packet c room
  -- adding: an upper half that its 16 bits can't hold is 17, after 1
  pub add_17 : (d : Draft) (len time upper n : ℕ) → 65535 < upper → (step_told (add_step d len time n)).refusal.number ≢ 1
      → step_told (add_given d len time upper n) ≡ record { refusal = record { number = 17; place = 0; room = 0; reason = 0; recording_place = 0 }; draft = d }
  pub add_1 : (d : Draft) (len time upper n : ℕ) → (step_told (add_step d len time n)).refusal.number ≡ 1
      → add_given d len time upper n ≡ add_step d len time n
  -- else as adding says
  pub adds : (d : Draft) (len time upper n : ℕ) → upper ≤ 65535 → add_given d len time upper n ≡ add_step d len time n
  -- ---- the calls: each answers as the one below it, of the same arguments

  pub read_packet_lem : (buf : List ℕ) (start end base n : ℕ) (s : List ℕ) → Calls.ReadPacket buf start end base n s
      → Answers (packet_told (read_packet buf start end base)).refusal.number (packet_words (packet_told (read_packet buf start end base))) n s
  pub list_messages : (buf : List ℕ) (start end base : ℕ) (starts₀ lengths₀ : List ℕ) (n : ℕ) (s starts₁ lengths₁ : List ℕ)
      → Calls.ListMessages buf start end base starts₀ lengths₀ n s starts₁ lengths₁
      → (t : Result ℕ Refusal) × (t ≡ list_packet buf start end base (length starts₀) (length lengths₀)) × Answers (list_told t).refusal.number (list_words (list_told t)) n s
      × (starts₁ ≡ list_after t (starts (window buf start end)) starts₀) × (lengths₁ ≡ list_after t (lengths (window buf start end)) lengths₀)
  pub give_message : (buf : List ℕ) (start end base number n : ℕ) (s : List ℕ) → Calls.GiveMessage buf start end base number n s
      → Answers (message_told (message_packet buf start end base number)).refusal.number (message_words (message_told (message_packet buf start end base number))) n s
  pub read_recording_lem : (buf : List ℕ) (start end base n : ℕ) (s : List ℕ) → Calls.ReadRecording buf start end base n s
      → Answers (read_recording buf start end base).refusal.number (recording_words (read_recording buf start end base)) n s
  pub write_packet_lem : (fields body out₀ : List ℕ) (n : ℕ) (s out₁ : List ℕ) → Calls.WritePacket fields body out₀ n s out₁
      → (t : Result ℕ Refusal) × (t ≡ write_given (contents (fields_of fields) body) (length out₀)) × Answers (write_told t).refusal.number (written_words (write_told t)) n s
      × (out₁ ≡ out_after t out₀ (packet_bytes (contents (fields_of fields) body)))
  pub open_body_lem : (draft₀ buf₀ : List ℕ) (kind rule n : ℕ) (s buf₁ : List ℕ) → Calls.Open draft₀ buf₀ kind rule n s buf₁
      → (t : Result Draft (Refusal × Draft)) × (t ≡ open_step (draft_of draft₀) kind rule (length buf₀)) × Answers (step_told t).refusal.number (draft_words (step_told t)) n s
      × (buf₁ ≡ buf_after t buf₀ 0 (bytes_of 4 (open_word kind rule)))
  pub add_block : (draft₀ buf₀ : List ℕ) (time upper : ℕ) (bytes : List ℕ) (n : ℕ) (s buf₁ : List ℕ) → Calls.Add draft₀ buf₀ time upper bytes n s buf₁
      → (t : Result Draft (Refusal × Draft)) × (t ≡ add_given (draft_of draft₀) (length buf₀) time upper (length bytes)) × Answers (step_told t).refusal.number (draft_words (step_told t)) n s
      × (buf₁ ≡ buf_after t buf₀ (draft_of draft₀).used (block_bytes (form_of (draft_of draft₀)) (entry_of time upper bytes)))
  pub close_body : (draft₀ buf₀ : List ℕ) (n : ℕ) (s buf₁ : List ℕ) → Calls.Close draft₀ buf₀ n s buf₁
      → (t : Result Draft (Refusal × Draft)) × (t ≡ close_step (draft_of draft₀) (length buf₀)) × Answers (step_told t).refusal.number (draft_words (step_told t)) n s
      × (buf₁ ≡ buf_after t buf₀ 0 (counter_bytes (draft_of draft₀)))
  pub renewal_add : (table₀ : List Entry) (store₀ : List ℕ) (recording place : ℕ) (buf : List ℕ) (start end n : ℕ) (s : List ℕ) (table₁ : List Entry) (store₁ : List ℕ)
      → Calls.RenewalAdd table₀ store₀ recording place buf start end n s table₁ store₁
      → (t : Result ℕ Refusal) × (t ≡ add_entry table₀ (length store₀) recording place buf start end) × Answers (add_told t).refusal.number (added_words (add_told t)) n s
      × (table₁ ≡ table_added t table₀ (entry_in recording place buf start end)) × (store₁ ≡ store_added t store₀ (own_bytes (window buf start end)))
  pub renewal_renew : (table₀ : List Entry) (store : List ℕ) (recording place : ℕ) (buf : List ℕ) (start end n : ℕ) (s : List ℕ) (table₁ : List Entry)
      → Calls.RenewalRenew table₀ store recording place buf start end n s table₁
      → (t : Result Renewed Refusal) × (t ≡ renew_entry table₀ store recording place buf start end) × Answers (renew_told t).refusal.number (renewed_words (renew_told t)) n s
      × (table₁ ≡ table_renewed t table₀ (slot_of recording place table₀))
  pub renewal_next : (table : List Entry) (slot n : ℕ) → Calls.RenewalNext table slot n → n ≡ next_live table slot
