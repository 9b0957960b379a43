-- Adding, in §13's words: what is told, which slot is taken, and what table and store hold afterwards.
use Rattle.std.specs.Prelude.{◌≡◌, List, [], ◌∷◌, ◌++◌, ◌⊎◌, ◌≢◌, ℕ, ◌+◌, ◌*◌, ◌≤◌, ◌<◌, length, Result, Ok, Err}
use Rattle.units.specs.Units.{part}
use Rattle.terms.specs.Refusals.{no_refusal}
use Rattle.terms.specs.declared.Refusal.{Refusal}
use Rattle.frame.specs.Header.{byte}
use Rattle.packet.specs.Read.{read_packet, packet_told}
use Rattle.packet.specs.declared.Packet.{Packet}
use Rattle.promises.specs.Refusals.{reader_refusals}
use Rattle.promises.specs.Endings.{Ends, refused_there}
use Rattle.renewal.specs.Renewal.{AddTold, add_told}
use Rattle.renewal_promises.specs.Slots.{Rows, row, LiveAt, FreeAt, HeldAt, First, Accepts}

-- "16 first, ..; adding, then the reader's, 21 .., 19 .."
abbrev pub add_refusals : List ℕ
add_refusals = 16 ∷ (reader_refusals ++ (21 ∷ 19 ∷ []))

abbrev pub added_told : Refusal → ℕ → AddTold
added_told r slot = record { refusal = r; slot = slot }

-- "16 first, for a store under 65,536 bytes", which is the room needed
abbrev pub small_store : ℕ → ℕ → Refusal
small_store start place = record { number = 16; place = start; room = 65536; reason = 0; recording_place = place }

-- "64 other entries live"
abbrev pub OthersLive : Rows → ℕ → ℕ → Type 0
OthersLive t recording place = (k : ℕ) → k < 64 → LiveAt t k × (¬ HeldAt t recording place k)

-- the packet p goes into slot k
pub record Put (t : Rows) (store : List ℕ) (recording place : ℕ) (buf : List ℕ) (start : ℕ) (p : Packet) (k : ℕ) (t' : Rows) (store' : List ℕ) : Type 0 where
  -- "recording number, place, P, channel, sequence, RTC", in an entry that lives
  pub entry : row t' k ≡ 1 ∷ recording ∷ place ∷ p.length ∷ p.fields.channel ∷ p.fields.sequence ∷ p.fields.rtc ∷ []
  pub others : (j : ℕ) → j ≢ k → row t' j ≡ row t j
  pub slots : length t' ≡ length t
  -- "and the packet's bytes in a lent store of fixed slots of 1,024 bytes"
  pub bytes : part store' (k * 1024) p.length ≡ part buf start p.length
  -- "Adding writes the packet's own bytes only"
  pub own : (i : ℕ) → (i < k * 1024) ⊎ (k * 1024 + p.length ≤ i) → byte store' i ≡ byte store i
  pub size : length store' ≡ length store

module _ (t : Rows) (store : List ℕ) (recording place : ℕ) (buf : List ℕ) (start end : ℕ) where
  -- a packet that comes to the question of its slot
  pub record Comes (p : Packet) : Type 0 where
    pub room : 65536 ≤ length store
    pub accepted : Accepts buf start end place p
    pub short : p.length ≤ 1024

  pub record Adding (r : Result ℕ Refusal) (t' : Rows) (store' : List ℕ) : Type 0 where
    -- a slot and no refusal, or one of these refusals and nothing else
    pub ends : Ends add_refusals added_told 0 (add_told r)
    -- "16 first, for a store under 65,536 bytes"
    pub first : length store < 65536 → add_told r ≡ added_told (small_store start place) 0
    -- "then the reader's": as the one-packet reader gives it
    pub reader : 65536 ≤ length store → (packet_told (read_packet buf start end place)).refusal.number ≢ 0
        → add_told r ≡ added_told (packet_told (read_packet buf start end place)).refusal 0
    -- "21 packet over 1,024 bytes"
    pub long : 65536 ≤ length store → (p : Packet) → Accepts buf start end place p → 1024 < p.length → add_told r ≡ added_told (refused_there 21 start place) 0
    -- "19 exactly when 64 other entries live"
    pub full : (p : Packet) → Comes p → OthersLive t recording place → add_told r ≡ added_told (refused_there 19 start place) 0
    pub full_only : (add_told r).refusal.number ≡ 19 → ((p : Packet) × Comes p) × OthersLive t recording place
    -- "adding a name already held replaces it in its own slot"; "Of a name held twice in a forged table the lowest slot counts"
    pub replaced : (p : Packet) → Comes p → (k : ℕ) → First (HeldAt t recording place) k → add_told r ≡ added_told no_refusal k
    -- "Freed slots are taken again, lowest first"
    pub taken : (p : Packet) → Comes p → ((k : ℕ) → ¬ HeldAt t recording place k) → (k : ℕ) → First (FreeAt t) k → add_told r ≡ added_told no_refusal k
    -- what is told without a refusal is an accepted packet of at most 1,024 bytes in its slot
    pub put : (add_told r).refusal.number ≡ 0
        → ((add_told r).slot < 64) × ((p : Packet) × Comes p × Put t store recording place buf start p (add_told r).slot t' store')
    -- "Refusals, all leaving table and store as they were"
    pub untouched : (add_told r).refusal.number ≢ 0 → (t' ≡ t) × (store' ≡ store)
    -- the case of the enum is the one that is told
    pub answers : (add_told r).refusal.number ≡ 0 → r ≡ Ok (add_told r).slot
    pub answers_refused : (add_told r).refusal.number ≢ 0 → r ≡ Err (add_told r).refusal
