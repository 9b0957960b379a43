-- Tables that are made by adding and renewing, and what a table keeps.
use Rattle.std.specs.Prelude.{◌≡◌, List, ◌⊎◌, ◌≢◌, ℕ, ◌*◌, ◌≤◌, length, replicate, Result}
use Rattle.units.specs.Units.{part}
use Rattle.renewal_promises.specs.Slots.{Rows, row, word, HeldAt, First}
use Rattle.renewal_promises.specs.Calls.{Add, Renew}
use Rattle.terms.specs.declared.Refusal.{Refusal}
use Rattle.renewal.specs.declared.Renewed.{Renewed}

-- a table made from the empty one, in any order, with any names, windows and stores
pub data Made : Rows → Type 0 where
  empty : Made (replicate 64 (replicate 7 0))
  added : {t t' : Rows} → Made t → (store : List ℕ) (recording place : ℕ) (buf : List ℕ) (start end : ℕ) (r : Result ℕ Refusal) (store' : List ℕ)
      → Add t store recording place buf start end r t' store' → Made t'
  renewed : {t t' : Rows} → Made t → (store : List ℕ) (recording place : ℕ) (buf : List ℕ) (start end : ℕ) (r : Result Renewed Refusal)
      → Renew t store recording place buf start end r t' → Made t'

-- the table keeps these bytes under a name: its lowest entry of that name, of as many bytes, and they stand first in its slot
pub record Keeps (t : Rows) (store : List ℕ) (recording place : ℕ) (bytes : List ℕ) : Type 0 where
  pub slot : ℕ
  pub held : First (HeldAt t recording place) slot
  pub long : word t slot 3 ≡ length bytes
  pub short : length bytes ≤ 1024
  pub there : part store (slot * 1024) (length bytes) ≡ bytes

-- another name
abbrev pub Other : ℕ → ℕ → ℕ → ℕ → Type 0
Other recording place recording' place' = (recording' ≢ recording) ⊎ (place' ≢ place)

-- an entry in slot j and its bytes are as they were
abbrev pub Kept : Rows → List ℕ → ℕ → Rows → List ℕ → Type 0
Kept t store j t' store' = (row t' j ≡ row t j) × (part store' (j * 1024) 1024 ≡ part store (j * 1024) 1024)
