-- What each call of include/ch11.h promises of its outcome, over the values at entry: the number it returns, and what each struct, list
-- and buffer lent for writing holds at exit.
use Rattle.std.specs.Prelude.{◌≡◌, List, ℕ, length, get_or}
use Rattle.units.specs.Units.{bytes_of}
use Rattle.body.specs.Blocks.{block_bytes}
use Rattle.builder.specs.Build.{form_of, open_step, open_word, entry_of, close_step, counter_bytes, buf_after, step_told}
use Rattle.frame.specs.Contents.{contents}
use Rattle.packet_bytes.specs.Bytes.{packet_bytes}
use Rattle.packet.specs.Read.{window, read_packet, packet_told}
use Rattle.packet.specs.Messages.{list_packet, list_after, list_told, starts, lengths, message_packet, message_told}
use Rattle.packet.specs.Write.{out_after, write_told}
use Rattle.recording.specs.Reading.{read_recording}
use Rattle.renewal.specs.Table.{Entry, slot_of, next_live}
use Rattle.renewal.specs.Renewal.{add_entry, entry_in, own_bytes, table_added, store_added, add_told, renew_entry, table_renewed, renew_told}
use Rattle.ch11_words.specs.Words.{packet_words, list_words, message_words, recording_words, written_words, draft_words, added_words, renewed_words}
use Rattle.ch11.specs.Given.{fields_of, write_given, draft_of, add_given}

-- a struct holds these words, and the number returned is its first: the refusal's number, 0 for none
abbrev pub Holds : List ℕ → ℕ → List ℕ → Type 0
Holds words r struct = (struct ≡ words) × (r ≡ get_or struct 0 0)

-- ---- readers

-- ch11_read_packet(buf, start, end, base, packet)
abbrev pub ReadPacket : List ℕ → ℕ → ℕ → ℕ → ℕ → List ℕ → Type 0
ReadPacket buf start end base = Holds (packet_words (packet_told (read_packet buf start end base)))

-- ch11_list_messages(buf, start, end, base, starts, lengths, list): the two lists at entry; then the number, the struct and the two lists at exit
abbrev pub ListMessages : List ℕ → ℕ → ℕ → ℕ → List ℕ → List ℕ → ℕ → List ℕ → List ℕ → List ℕ → Type 0
ListMessages buf start end base starts₀ lengths₀ r list starts₁ lengths₁ =
    Holds (list_words (list_told (list_packet buf start end base (length starts₀) (length lengths₀)))) r list
    × (starts₁ ≡ list_after (list_packet buf start end base (length starts₀) (length lengths₀)) (starts (window buf start end)) starts₀)
    × (lengths₁ ≡ list_after (list_packet buf start end base (length starts₀) (length lengths₀)) (lengths (window buf start end)) lengths₀)

-- ch11_message(buf, start, end, base, number, message)
abbrev pub GiveMessage : List ℕ → ℕ → ℕ → ℕ → ℕ → ℕ → List ℕ → Type 0
GiveMessage buf start end base number = Holds (message_words (message_told (message_packet buf start end base number)))

-- ch11_read_recording(buf, start, end, base, recording)
abbrev pub ReadRecording : List ℕ → ℕ → ℕ → ℕ → ℕ → List ℕ → Type 0
ReadRecording buf start end base = Holds (recording_words (read_recording buf start end base))

-- ---- the writer

-- ch11_write_packet(fields, body, out, written): the output at entry; then the number, the struct and the output at exit
abbrev pub WritePacket : List ℕ → List ℕ → List ℕ → ℕ → List ℕ → List ℕ → Type 0
WritePacket fields body out₀ r written out₁ =
    Holds (written_words (write_told (write_given (contents (fields_of fields) body) (length out₀)))) r written
    × (out₁ ≡ out_after (write_given (contents (fields_of fields) body) (length out₀)) out₀ (packet_bytes (contents (fields_of fields) body)))

-- ---- the builder: the state and the buffer at entry; then the number, the state and the buffer at exit

-- ch11_open(draft, buf, type, rule)
abbrev pub Open : List ℕ → List ℕ → ℕ → ℕ → ℕ → List ℕ → List ℕ → Type 0
Open draft₀ buf₀ kind rule r draft₁ buf₁ =
    Holds (draft_words (step_told (open_step (draft_of draft₀) kind rule (length buf₀)))) r draft₁
    × (buf₁ ≡ buf_after (open_step (draft_of draft₀) kind rule (length buf₀)) buf₀ 0 (bytes_of 4 (open_word kind rule)))

-- ch11_add(draft, buf, time, upper, bytes)
abbrev pub Add : List ℕ → List ℕ → ℕ → ℕ → List ℕ → ℕ → List ℕ → List ℕ → Type 0
Add draft₀ buf₀ time upper bytes r draft₁ buf₁ =
    Holds (draft_words (step_told (add_given (draft_of draft₀) (length buf₀) time upper (length bytes)))) r draft₁
    × (buf₁ ≡ buf_after (add_given (draft_of draft₀) (length buf₀) time upper (length bytes)) buf₀ (draft_of draft₀).used
    (block_bytes (form_of (draft_of draft₀)) (entry_of time upper bytes)))

-- ch11_close(draft, buf)
abbrev pub Close : List ℕ → List ℕ → ℕ → List ℕ → List ℕ → Type 0
Close draft₀ buf₀ r draft₁ buf₁ =
    Holds (draft_words (step_told (close_step (draft_of draft₀) (length buf₀)))) r draft₁
    × (buf₁ ≡ buf_after (close_step (draft_of draft₀) (length buf₀)) buf₀ 0 (counter_bytes (draft_of draft₀)))

-- ---- the renewal table: table and store at entry; then the number, the struct, and table and store at exit

-- ch11_renewal_add(table, store, recording, place, buf, start, end, added)
abbrev pub RenewalAdd : List Entry → List ℕ → ℕ → ℕ → List ℕ → ℕ → ℕ → ℕ → List ℕ → List Entry → List ℕ → Type 0
RenewalAdd table₀ store₀ recording place buf start end r added table₁ store₁ =
    Holds (added_words (add_told (add_entry table₀ (length store₀) recording place buf start end))) r added
    × (table₁ ≡ table_added (add_entry table₀ (length store₀) recording place buf start end) table₀ (entry_in recording place buf start end))
    × (store₁ ≡ store_added (add_entry table₀ (length store₀) recording place buf start end) store₀ (own_bytes (window buf start end)))

-- ch11_renewal_renew(table, store, recording, place, buf, start, end, renewed)
abbrev pub RenewalRenew : List Entry → List ℕ → ℕ → ℕ → List ℕ → ℕ → ℕ → ℕ → List ℕ → List Entry → Type 0
RenewalRenew table₀ store recording place buf start end r renewed table₁ =
    Holds (renewed_words (renew_told (renew_entry table₀ store recording place buf start end))) r renewed
    × (table₁ ≡ table_renewed (renew_entry table₀ store recording place buf start end) table₀ (slot_of recording place table₀))

-- ch11_renewal_next(table, slot)
abbrev pub RenewalNext : List Entry → ℕ → ℕ → Type 0
RenewalNext table slot r = r ≡ next_live table slot
