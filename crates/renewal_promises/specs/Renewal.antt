-- 02 §13's promises, on the definitions that the contracts of `renewal` cite. Proved in proofs/Renewal.antt (renewal).
use Rattle.std.specs.Prelude.{◌≡◌, List, ◌↔◌, ◌≢◌, ℕ, ◌≤◌, length, replicate, Result}
use Rattle.units.specs.Units.{part}
use Rattle.packet.specs.Read.{window}
use Rattle.packet.specs.declared.Packet.{Packet}
use Rattle.promises.specs.Handed.{Within}
use Rattle.renewal.specs.Renewal.{add_told, renew_told}
use Rattle.renewal_promises.specs.Calls.{Empty, Next, Add, Renew}
use Rattle.renewal_promises.specs.Slots.{Rows, LiveAt, HeldAt, First, Accepts, Equals}
use Rattle.renewal_promises.specs.Adding.{Adding}
use Rattle.renewal_promises.specs.Renewing.{Renewing}
use Rattle.renewal_promises.specs.Keeping.{Made, Keeps, Other, Kept}
use Rattle.terms.specs.declared.Refusal.{Refusal}
use Rattle.renewal.specs.declared.Renewed.{Renewed}

pub record Renewal : Type 0 where
  -- ---- each call, on any table of 64 rows, forged ones too

  pub adding : (t : Rows) (store : List ℕ) (recording place : ℕ) (buf : List ℕ) (start end : ℕ) (r : Result ℕ Refusal) (t' : Rows) (store' : List ℕ)
      → length t ≡ 64 → Add t store recording place buf start end r t' store' → Adding t store recording place buf start end r t' store'
  pub renewing : (t : Rows) (store : List ℕ) (recording place : ℕ) (buf : List ℕ) (start end : ℕ) (r : Result Renewed Refusal) (t' : Rows)
      → length t ≡ 64 → Renew t store recording place buf start end r t' → Renewing t store recording place buf start end r t'
  -- the live entries, one by one: the lowest such slot from this one on, 64 if there is none
  pub next_live_lem : (t : Rows) (from r k : ℕ) → length t ≡ 64 → Next t from r → First (λ j. (from ≤ j) × LiveAt t j) k → r ≡ k
  pub next_none : (t : Rows) (from r : ℕ) → length t ≡ 64 → Next t from r → ((j : ℕ) → from ≤ j → ¬ LiveAt t j) → r ≡ 64
  -- a new table: 64 free slots
  pub empty_is : (t : Rows) → Empty t → t ≡ replicate 64 (replicate 7 0)
  -- ---- "So a packet withdrawn at the store is gone after one renewal of its entry"

  -- tables so made have 64 slots, and hold a name at most once
  pub slots : (t : Rows) → Made t → length t ≡ 64
  pub once : (t : Rows) → Made t → (recording place j k : ℕ) → HeldAt t recording place j → HeldAt t recording place k → j ≡ k
  -- where the packet isn't accepted, or doesn't equal what is held, no entry of that name is live afterwards
  pub gone : (t : Rows) → Made t → (store : List ℕ) (recording place : ℕ) (buf : List ℕ) (start end : ℕ) (r : Result Renewed Refusal) (t' : Rows)
      → Renew t store recording place buf start end r t' → 65536 ≤ length store → Within buf start end place
      → ((k : ℕ) → HeldAt t recording place k → ¬ Equals t store k buf start end place)
      → (k : ℕ) → ¬ HeldAt t' recording place k
  -- of a name held twice in a forged table the lowest entry alone is judged; the other stays
  pub second : (t : Rows) (store : List ℕ) (recording place : ℕ) (buf : List ℕ) (start end : ℕ) (r : Result Renewed Refusal) (t' : Rows)
      → length t ≡ 64 → Renew t store recording place buf start end r t'
      → (k : ℕ) → First (HeldAt t recording place) k → (j : ℕ) → j ≢ k → HeldAt t recording place j → HeldAt t' recording place j
  -- ---- nothing outside the window has a say

  -- two buffers that both reach to the end, with the same bytes from start to it
  pub add_inside : (t : Rows) (store : List ℕ) (recording place : ℕ) (a b : List ℕ) (start end : ℕ) (r q : Result ℕ Refusal) (t₁ t₂ : Rows) (store₁ store₂ : List ℕ)
      → end ≤ length a → end ≤ length b → window a start end ≡ window b start end
      → Add t store recording place a start end r t₁ store₁ → Add t store recording place b start end q t₂ store₂ → (r ≡ q) × (t₁ ≡ t₂) × (store₁ ≡ store₂)
  pub renew_inside : (t : Rows) (store : List ℕ) (recording place : ℕ) (a b : List ℕ) (start end : ℕ) (r q : Result Renewed Refusal) (t₁ t₂ : Rows)
      → end ≤ length a → end ≤ length b → window a start end ≡ window b start end
      → Renew t store recording place a start end r t₁ → Renew t store recording place b start end q t₂ → (r ≡ q) × (t₁ ≡ t₂)
  -- the same bytes elsewhere in a buffer: the same is added, in the same slot; the same lives and the same is dropped; with the same numbers
  pub add_elsewhere : (t : Rows) (store : List ℕ) (recording place : ℕ) (a b : List ℕ) (start end start' end' : ℕ) (r q : Result ℕ Refusal) (t₁ t₂ : Rows) (store₁ store₂ : List ℕ)
      → length t ≡ 64 → Within a start end place → Within b start' end' place → window a start end ≡ window b start' end'
      → Add t store recording place a start end r t₁ store₁ → Add t store recording place b start' end' q t₂ store₂
      → ((add_told r).refusal.number ≡ (add_told q).refusal.number) × ((add_told r).slot ≡ (add_told q).slot) × (t₁ ≡ t₂) × (store₁ ≡ store₂)
  pub renew_elsewhere : (t : Rows) (store : List ℕ) (recording place : ℕ) (a b : List ℕ) (start end start' end' : ℕ) (r q : Result Renewed Refusal) (t₁ t₂ : Rows)
      → length t ≡ 64 → Within a start end place → Within b start' end' place → window a start end ≡ window b start' end'
      → Renew t store recording place a start end r t₁ → Renew t store recording place b start' end' q t₂
      → ((renew_told r).refusal.number ≡ (renew_told q).refusal.number) × ((renew_told r).lives ≡ (renew_told q).lives)
      × ((renew_told r).cause.number ≡ (renew_told q).cause.number) × (t₁ ≡ t₂)
  -- ---- what is kept

  -- other entries, and their bytes in the store, are never touched by an add or a renewal of this one, in forged tables neither
  pub add_others : (t : Rows) (store : List ℕ) (recording place : ℕ) (buf : List ℕ) (start end : ℕ) (r : Result ℕ Refusal) (t' : Rows) (store' : List ℕ)
      → length t ≡ 64 → Add t store recording place buf start end r t' store'
      → (recording' place' j : ℕ) → Other recording place recording' place' → HeldAt t recording' place' j → Kept t store j t' store'
  pub renew_others : (t : Rows) (store : List ℕ) (recording place : ℕ) (buf : List ℕ) (start end : ℕ) (r : Result Renewed Refusal) (t' : Rows)
      → length t ≡ 64 → Renew t store recording place buf start end r t'
      → (recording' place' j : ℕ) → Other recording place recording' place' → HeldAt t recording' place' j → Kept t store j t' store
  -- what is added is kept; and what is kept stays kept through an add or a renewal of another name
  pub add_keeps : (t : Rows) (store : List ℕ) (recording place : ℕ) (buf : List ℕ) (start end : ℕ) (r : Result ℕ Refusal) (t' : Rows) (store' : List ℕ) (p : Packet)
      → length t ≡ 64 → Add t store recording place buf start end r t' store' → (add_told r).refusal.number ≡ 0 → Accepts buf start end place p
      → Keeps t' store' recording place (part buf start p.length)
  pub add_keeps_others : (t : Rows) (store : List ℕ) (recording place : ℕ) (buf : List ℕ) (start end : ℕ) (r : Result ℕ Refusal) (t' : Rows) (store' : List ℕ)
      → length t ≡ 64 → Add t store recording place buf start end r t' store'
      → (recording' place' : ℕ) (bytes : List ℕ) → Other recording place recording' place' → Keeps t store recording' place' bytes → Keeps t' store' recording' place' bytes
  pub renew_keeps_others : (t : Rows) (store : List ℕ) (recording place : ℕ) (buf : List ℕ) (start end : ℕ) (r : Result Renewed Refusal) (t' : Rows)
      → length t ≡ 64 → Renew t store recording place buf start end r t'
      → (recording' place' : ℕ) (bytes : List ℕ) → Other recording place recording' place' → Keeps t store recording' place' bytes → Keeps t' store recording' place' bytes
  -- through its own renewal too, if it lives on
  pub renew_keeps : (t : Rows) (store : List ℕ) (recording place : ℕ) (buf : List ℕ) (start end : ℕ) (r : Result Renewed Refusal) (t' : Rows) (bytes : List ℕ)
      → length t ≡ 64 → Renew t store recording place buf start end r t' → (renew_told r).lives ≡ 1
      → Keeps t store recording place bytes → Keeps t' store recording place bytes
  -- and there the entry lives on exactly when the packet at the window's start is accepted and is those bytes
  pub keeps_lives : (t : Rows) (store : List ℕ) (recording place : ℕ) (buf : List ℕ) (start end : ℕ) (r : Result Renewed Refusal) (t' : Rows) (bytes : List ℕ)
      → length t ≡ 64 → Renew t store recording place buf start end r t' → 65536 ≤ length store → Within buf start end place → Keeps t store recording place bytes
      → ((renew_told r).lives ≡ 1) ↔ ((p : Packet) × Accepts buf start end place p × (part buf start p.length ≡ bytes))
