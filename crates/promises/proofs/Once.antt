-- No two outcomes satisfy the statement of a public call: its result, and what each slice lent for writing holds afterwards.
-- The statements: specs/Calls.antt.
use Rattle.std.specs.Prelude.{Result}
use mathlib.Core.Path.{◌≡◌, sym, ap, ◌∙◌}
use mathlib.Core.List.{List}
use Prim.Native.Nat.{ℕ}
use lib.ListN.{length}
use Rattle.units.specs.Units.{bytes_of}
use Rattle.body.specs.Blocks.{block_bytes}
use Rattle.builder.specs.Build.{form_of, fresh_draft, open_step, open_word, add_step, entry_of, close_step, counter_bytes, buf_after}
use Rattle.builder.specs.declared.Draft.{Draft}
use Rattle.frame.specs.Contents.{contents}
use Rattle.frame.specs.declared.Fields.{Fields}
use Rattle.packet_bytes.specs.Bytes.{packet_bytes}
use Rattle.packet.specs.Read.{window, read_packet}
use Rattle.packet.specs.Messages.{list_packet, list_after, starts, lengths, message_packet}
use Rattle.packet.specs.Write.{write_packet, out_after}
use Rattle.recording.specs.Reading.{read_recording}
use Rattle.recording.specs.declared.Recording.{Recording}
use Rattle.promises.specs.Calls.{ReadPacket, ListMessages, GiveMessage, WritePacket, ReadRecording, Fresh, Open, Add, Close}
use Rattle.body.specs.declared.Message.{Message}
use Rattle.packet.specs.declared.Packet.{Packet}
use Rattle.terms.specs.declared.Refusal.{Refusal}

-- ---- an outcome: a result that is `given`, alone or with one slice that is `after` it

abbrev Only : {A : Type 0} → A → A → Type 0
Only given r = r ≡ given

abbrev With : {A : Type 0} → A → (A → List ℕ) → A → List ℕ → Type 0
With given after r slice = (r ≡ given) × (slice ≡ after r)

only_once : {A : Type 0} (given r r' : A) → Only given r → Only given r' → r ≡ r'
only_once given r r' h h' = h ∙ sym h'

with_once : {A : Type 0} (given : A) (after : A → List ℕ) (r r' : A) (slice slice' : List ℕ) → With given after r slice → With given after r' slice'
    → (r ≡ r') × (slice ≡ slice')
with_once given after r r' slice slice' h h' =
    let e = only_once given r r' h.0 h'.0 in
    (e, h.1 ∙ ap after e ∙ sym h'.1)

-- ---- the calls on one packet

pub read_packet_once : (buf : List ℕ) (start end base : ℕ) (r r' : Result Packet Refusal) → ReadPacket buf start end base r → ReadPacket buf start end base r' → r ≡ r'
read_packet_once buf start end base = only_once (read_packet buf start end base)

pub list_messages_once : (buf : List ℕ) (start end base : ℕ) (starts₀ lengths₀ : List ℕ) (r r' : Result ℕ Refusal) (starts₁ starts₁' lengths₁ lengths₁' : List ℕ)
    → ListMessages buf start end base starts₀ lengths₀ r starts₁ lengths₁ → ListMessages buf start end base starts₀ lengths₀ r' starts₁' lengths₁'
    → (r ≡ r') × (starts₁ ≡ starts₁') × (lengths₁ ≡ lengths₁')
list_messages_once buf start end base starts₀ lengths₀ r r' starts₁ starts₁' lengths₁ lengths₁' h h' =
    let given = list_packet buf start end base (length starts₀) (length lengths₀) in
    let s = with_once given (λ x. list_after x (starts (window buf start end)) starts₀) r r' starts₁ starts₁' (h.0, h.1) (h'.0, h'.1) in
    let l = with_once given (λ x. list_after x (lengths (window buf start end)) lengths₀) r r' lengths₁ lengths₁' (h.0, h.2) (h'.0, h'.2) in
    (s.0, s.1, l.1)

pub message_once : (buf : List ℕ) (start end base number : ℕ) (r r' : Result Message Refusal) → GiveMessage buf start end base number r → GiveMessage buf start end base number r' → r ≡ r'
message_once buf start end base number = only_once (message_packet buf start end base number)

pub write_packet_once : (fields : Fields) (body out₀ : List ℕ) (r r' : Result ℕ Refusal) (out₁ out₁' : List ℕ)
    → WritePacket fields body out₀ r out₁ → WritePacket fields body out₀ r' out₁' → (r ≡ r') × (out₁ ≡ out₁')
write_packet_once fields body out₀ = with_once (write_packet (contents fields body) (length out₀)) (λ x. out_after x out₀ (packet_bytes (contents fields body)))

-- ---- the recording

pub read_recording_once : (buf : List ℕ) (start end base : ℕ) (r r' : Recording) → ReadRecording buf start end base r → ReadRecording buf start end base r' → r ≡ r'
read_recording_once buf start end base = only_once (read_recording buf start end base)

-- ---- the builder

pub fresh_once : (r r' : Draft) → Fresh r → Fresh r' → r ≡ r'
fresh_once = only_once fresh_draft

pub open_once : (d : Draft) (buf₀ : List ℕ) (kind rule : ℕ) (r r' : Result Draft (Refusal × Draft)) (buf₁ buf₁' : List ℕ)
    → Open d buf₀ kind rule r buf₁ → Open d buf₀ kind rule r' buf₁' → (r ≡ r') × (buf₁ ≡ buf₁')
open_once d buf₀ kind rule = with_once (open_step d kind rule (length buf₀)) (λ x. buf_after x buf₀ 0 (bytes_of 4 (open_word kind rule)))

pub add_once : (d : Draft) (buf₀ : List ℕ) (time upper : ℕ) (bytes : List ℕ) (r r' : Result Draft (Refusal × Draft)) (buf₁ buf₁' : List ℕ)
    → Add d buf₀ time upper bytes r buf₁ → Add d buf₀ time upper bytes r' buf₁' → (r ≡ r') × (buf₁ ≡ buf₁')
add_once d buf₀ time upper bytes =
    with_once (add_step d (length buf₀) time (length bytes)) (λ x. buf_after x buf₀ d.used (block_bytes (form_of d) (entry_of time upper bytes)))

pub close_once : (d : Draft) (buf₀ : List ℕ) (r r' : Result Draft (Refusal × Draft)) (buf₁ buf₁' : List ℕ) → Close d buf₀ r buf₁ → Close d buf₀ r' buf₁'
    → (r ≡ r') × (buf₁ ≡ buf₁')
close_once d buf₀ = with_once (close_step d (length buf₀)) (λ x. buf_after x buf₀ 0 (counter_bytes d))
