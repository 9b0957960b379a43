-- What each public call on a renewal table promises of its outcome: its `ensures`, over the values at entry. The outcome is the result, and what table
-- and store hold at exit; renewing is lent the store for reading alone.
use Rattle.std.specs.Prelude.{◌≡◌, List, ℕ, length, Result}
use Rattle.packet.specs.Read.{window}
use Rattle.renewal.specs.Table.{Entry, empty_table, slot_of, next_live}
use Rattle.renewal.specs.Renewal.{add_entry, entry_in, own_bytes, table_added, store_added, renew_entry, table_renewed}
use Rattle.terms.specs.declared.Refusal.{Refusal}
use Rattle.renewal.specs.declared.Renewed.{Renewed}

abbrev pub Empty : List Entry → Type 0
Empty r = r ≡ empty_table

abbrev pub Next : List Entry → ℕ → ℕ → Type 0
Next table from r = r ≡ next_live table from

abbrev pub Add : List Entry → List ℕ → ℕ → ℕ → List ℕ → ℕ → ℕ → Result ℕ Refusal → List Entry → List ℕ → Type 0
Add table₀ store₀ recording place buf start end r table₁ store₁ =
    (r ≡ add_entry table₀ (length store₀) recording place buf start end)
    × (table₁ ≡ table_added r table₀ (entry_in recording place buf start end))
    × (store₁ ≡ store_added r store₀ (own_bytes (window buf start end)))

abbrev pub Renew : List Entry → List ℕ → ℕ → ℕ → List ℕ → ℕ → ℕ → Result Renewed Refusal → List Entry → Type 0
Renew table₀ store recording place buf start end r table₁ =
    (r ≡ renew_entry table₀ store recording place buf start end) × (table₁ ≡ table_renewed r table₀ (slot_of recording place table₀))
