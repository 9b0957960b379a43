-- No two outcomes satisfy the statement of a call (specs/Calls.antt).
use mathlib.Core.Path.{◌≡◌, sym, ap, ◌∙◌}
use mathlib.Core.List.{List}
use Prim.Native.Nat.{ℕ}
use lib.ListN.{get_or}
use Rattle.renewal.specs.Table.{Entry}
use Rattle.ch11.specs.Calls.{Holds, ReadPacket, ListMessages, GiveMessage, ReadRecording, WritePacket, Open, Add, Close, RenewalAdd, RenewalRenew, RenewalNext}

-- ---- an outcome: a struct and the number returned, alone or with one more slice

holds_once : (words : List ℕ) (r r' : ℕ) (struct struct' : List ℕ) → Holds words r struct → Holds words r' struct' → (r ≡ r') × (struct ≡ struct')
holds_once words r r' struct struct' h h' =
    let e : struct ≡ struct' = h.0 ∙ sym h'.0 in
    (h.1 ∙ ap (λ (ws : List ℕ). get_or ws 0 0) e ∙ sym h'.1, e)

with_once : (words after : List ℕ) (r r' : ℕ) (struct struct' slice slice' : List ℕ) → Holds words r struct × (slice ≡ after) → Holds words r' struct' × (slice' ≡ after)
    → (r ≡ r') × (struct ≡ struct') × (slice ≡ slice')
with_once words after r r' struct struct' slice slice' h h' =
    let e = holds_once words r r' struct struct' h.0 h'.0 in
    (e.0, e.1, h.1 ∙ sym h'.1)

-- ---- readers

pub read_packet_once : (buf : List ℕ) (start end base r r' : ℕ) (packet packet' : List ℕ) → ReadPacket buf start end base r packet → ReadPacket buf start end base r' packet'
    → (r ≡ r') × (packet ≡ packet')
read_packet_once buf start end base r r' packet packet' = holds_once _ r r' packet packet'

pub list_messages_once : (buf : List ℕ) (start end base : ℕ) (starts₀ lengths₀ : List ℕ) (r r' : ℕ) (list list' starts₁ starts₁' lengths₁ lengths₁' : List ℕ)
    → ListMessages buf start end base starts₀ lengths₀ r list starts₁ lengths₁ → ListMessages buf start end base starts₀ lengths₀ r' list' starts₁' lengths₁'
    → (r ≡ r') × (list ≡ list') × (starts₁ ≡ starts₁') × (lengths₁ ≡ lengths₁')
list_messages_once buf start end base starts₀ lengths₀ r r' list list' starts₁ starts₁' lengths₁ lengths₁' h h' =
    let s = with_once _ _ r r' list list' starts₁ starts₁' (h.0, h.1) (h'.0, h'.1) in
    (s.0, s.1, s.2, h.2 ∙ sym h'.2)

pub message_once : (buf : List ℕ) (start end base number r r' : ℕ) (message message' : List ℕ) → GiveMessage buf start end base number r message
    → GiveMessage buf start end base number r' message' → (r ≡ r') × (message ≡ message')
message_once buf start end base number r r' message message' = holds_once _ r r' message message'

pub read_recording_once : (buf : List ℕ) (start end base r r' : ℕ) (recording recording' : List ℕ) → ReadRecording buf start end base r recording
    → ReadRecording buf start end base r' recording' → (r ≡ r') × (recording ≡ recording')
read_recording_once buf start end base r r' recording recording' = holds_once _ r r' recording recording'

-- ---- the writer

pub write_packet_once : (fields body out₀ : List ℕ) (r r' : ℕ) (written written' out₁ out₁' : List ℕ) → WritePacket fields body out₀ r written out₁
    → WritePacket fields body out₀ r' written' out₁' → (r ≡ r') × (written ≡ written') × (out₁ ≡ out₁')
write_packet_once fields body out₀ r r' written written' out₁ out₁' = with_once _ _ r r' written written' out₁ out₁'

-- ---- the builder

pub open_once : (draft₀ buf₀ : List ℕ) (kind rule r r' : ℕ) (draft₁ draft₁' buf₁ buf₁' : List ℕ) → Open draft₀ buf₀ kind rule r draft₁ buf₁
    → Open draft₀ buf₀ kind rule r' draft₁' buf₁' → (r ≡ r') × (draft₁ ≡ draft₁') × (buf₁ ≡ buf₁')
open_once draft₀ buf₀ kind rule r r' draft₁ draft₁' buf₁ buf₁' = with_once _ _ r r' draft₁ draft₁' buf₁ buf₁'

pub add_once : (draft₀ buf₀ : List ℕ) (time upper : ℕ) (bytes : List ℕ) (r r' : ℕ) (draft₁ draft₁' buf₁ buf₁' : List ℕ)
    → Add draft₀ buf₀ time upper bytes r draft₁ buf₁ → Add draft₀ buf₀ time upper bytes r' draft₁' buf₁' → (r ≡ r') × (draft₁ ≡ draft₁') × (buf₁ ≡ buf₁')
add_once draft₀ buf₀ time upper bytes r r' draft₁ draft₁' buf₁ buf₁' = with_once _ _ r r' draft₁ draft₁' buf₁ buf₁'

pub close_once : (draft₀ buf₀ : List ℕ) (r r' : ℕ) (draft₁ draft₁' buf₁ buf₁' : List ℕ) → Close draft₀ buf₀ r draft₁ buf₁ → Close draft₀ buf₀ r' draft₁' buf₁'
    → (r ≡ r') × (draft₁ ≡ draft₁') × (buf₁ ≡ buf₁')
close_once draft₀ buf₀ r r' draft₁ draft₁' buf₁ buf₁' = with_once _ _ r r' draft₁ draft₁' buf₁ buf₁'

-- ---- the renewal table

pub renewal_add_once : (table₀ : List Entry) (store₀ : List ℕ) (recording place : ℕ) (buf : List ℕ) (start end r r' : ℕ) (added added' : List ℕ) (table₁ table₁' : List Entry)
    (store₁ store₁' : List ℕ) → RenewalAdd table₀ store₀ recording place buf start end r added table₁ store₁
    → RenewalAdd table₀ store₀ recording place buf start end r' added' table₁' store₁' → (r ≡ r') × (added ≡ added') × (table₁ ≡ table₁') × (store₁ ≡ store₁')
renewal_add_once table₀ store₀ recording place buf start end r r' added added' table₁ table₁' store₁ store₁' h h' =
    let e = holds_once _ r r' added added' h.0 h'.0 in
    (e.0, e.1, h.1 ∙ sym h'.1, h.2 ∙ sym h'.2)

pub renewal_renew_once : (table₀ : List Entry) (store : List ℕ) (recording place : ℕ) (buf : List ℕ) (start end r r' : ℕ) (renewed renewed' : List ℕ) (table₁ table₁' : List Entry)
    → RenewalRenew table₀ store recording place buf start end r renewed table₁ → RenewalRenew table₀ store recording place buf start end r' renewed' table₁'
    → (r ≡ r') × (renewed ≡ renewed') × (table₁ ≡ table₁')
renewal_renew_once table₀ store recording place buf start end r r' renewed renewed' table₁ table₁' h h' =
    let e = holds_once _ r r' renewed renewed' h.0 h'.0 in
    (e.0, e.1, h.1 ∙ sym h'.1)

pub renewal_next_once : (table : List Entry) (slot r r' : ℕ) → RenewalNext table slot r → RenewalNext table slot r' → r ≡ r'
renewal_next_once table slot r r' h h' = h ∙ sym h'
