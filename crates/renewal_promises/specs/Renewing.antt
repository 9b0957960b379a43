-- Renewing, in §13's words: what is told, and what the table holds afterwards.
use Rattle.std.specs.Prelude.{◌≡◌, List, [], ◌∷◌, ◌↔◌, ◌⊎◌, ◌≢◌, ℕ, ◌≤◌, ◌<◌, length, Result, Ok, Err}
use Rattle.terms.specs.Refusals.{no_refusal}
use Rattle.terms.specs.declared.Refusal.{Refusal}
use Rattle.packet.specs.Read.{read_packet, packet_told}
use Rattle.promises.specs.Refusals.{OneOf}
use Rattle.promises.specs.Endings.{refused_there}
use Rattle.promises.specs.Handed.{Within}
use Rattle.renewal.specs.Renewal.{RenewTold, renew_told}
use Rattle.renewal_promises.specs.Slots.{Rows, row, word, HeldAt, First, Equals}
use Rattle.renewal_promises.specs.Adding.{small_store}
use Rattle.renewal.specs.declared.Renewed.{Renewed}
use Rattle.renewal.specs.declared.Renewed.TheVariants.{Lives, Dropped}

-- "16 first, ..; renewing, then 20 .., then 1"
abbrev pub renew_refusals : List ℕ
renew_refusals = 16 ∷ 20 ∷ 1 ∷ []

-- "The reader's other refusals drop the entry and are named beside it"
abbrev pub causes : List ℕ
causes = 2 ∷ 3 ∷ 4 ∷ 5 ∷ 6 ∷ 7 ∷ 8 ∷ 9 ∷ 10 ∷ 11 ∷ 12 ∷ 13 ∷ 14 ∷ 15 ∷ []

-- a refusal of the call: nothing lives on by it, and nothing is dropped
abbrev pub refused_told : Refusal → RenewTold
refused_told r = record { refusal = r; lives = 0; cause = no_refusal }

-- none, or one of these
abbrev pub NoneOr : List ℕ → Refusal → Type 0
NoneOr numbers r = (r ≡ no_refusal) ⊎ OneOf r.number numbers

-- the entry in slot k is dropped, and no other is touched
pub record Drops (t : Rows) (k : ℕ) (t' : Rows) : Type 0 where
  pub free : row t' k ≡ 0 ∷ 0 ∷ 0 ∷ 0 ∷ 0 ∷ 0 ∷ 0 ∷ []
  pub others : (j : ℕ) → j ≢ k → row t' j ≡ row t j
  pub slots : length t' ≡ length t

module _ (t : Rows) (store : List ℕ) (recording place : ℕ) (buf : List ℕ) (start end : ℕ) where
  -- the entry in slot k, by a window in its buffer
  pub record Judged (k : ℕ) (r : Result Renewed Refusal) (t' : Rows) : Type 0 where
    pub accepted : (renew_told r).refusal ≡ no_refusal
    -- "The entry lives on exactly when the packet at the window's start is accepted and equals the held bytes"
    pub lives : ((renew_told r).lives ≡ 1) ↔ Equals t store k buf start end place
    pub stays : (renew_told r).lives ≡ 1 → t' ≡ t
    -- "otherwise it is dropped in that same call"
    pub dropped : (renew_told r).lives ≢ 1 → ((renew_told r).lives ≡ 0) × Drops t k t'
    -- "a forged entry whose P passes 1,024 is dropped too"
    pub forged : 1024 < word t k 3 → ((renew_told r).lives ≡ 0) × Drops t k t'
    -- "The reader's other refusals .. are named beside it": as the one-packet reader gives them, none where it accepts
    pub cause : (renew_told r).cause ≡ (packet_told (read_packet buf start end place)).refusal

  pub record Renewing (r : Result Renewed Refusal) (t' : Rows) : Type 0 where
    pub ends : NoneOr renew_refusals (renew_told r).refusal
    pub named : NoneOr causes (renew_told r).cause
    -- "16 first, for a store under 65,536 bytes"
    pub first : length store < 65536 → renew_told r ≡ refused_told (small_store start place)
    -- "then 20 no such entry"
    pub absent : 65536 ≤ length store → ((k : ℕ) → ¬ HeldAt t recording place k) → renew_told r ≡ refused_told (refused_there 20 start place)
    -- "then 1"
    pub outside : 65536 ≤ length store → (k : ℕ) → HeldAt t recording place k → ¬ Within buf start end place → renew_told r ≡ refused_told (refused_there 1 start place)
    -- "Of a name held twice in a forged table the lowest slot counts"
    pub judged : 65536 ≤ length store → (k : ℕ) → First (HeldAt t recording place) k → Within buf start end place → Judged k r t'
    -- "Refusals, all leaving table and store as they were"
    pub untouched : (renew_told r).refusal.number ≢ 0 → t' ≡ t
    -- the case of the enum is the one that is told
    pub answers : (renew_told r).lives ≡ 1 → r ≡ (Ok Lives)
    pub answers_dropped : (renew_told r).refusal.number ≡ 0 → (renew_told r).lives ≢ 1 → r ≡ Ok (Dropped (renew_told r).cause)
    pub answers_refused : (renew_told r).refusal.number ≢ 0 → r ≡ Err (renew_told r).refusal
