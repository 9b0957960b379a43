-- No two outcomes satisfy the statement of a call (specs/Calls.antt).
use Rattle.std.specs.Prelude.{Result}
use mathlib.Core.Path.{◌≡◌, sym, ap, ◌∙◌}
use mathlib.Core.List.{List}
use Prim.Native.Nat.{ℕ}
use Rattle.packet.specs.Read.{window}
use Rattle.renewal.specs.Table.{Entry, slot_of}
use Rattle.renewal.specs.Renewal.{entry_in, own_bytes, table_added, store_added, table_renewed}
use Rattle.renewal_promises.specs.Calls.{Empty, Next, Add, Renew}
use Rattle.terms.specs.declared.Refusal.{Refusal}
use Rattle.renewal.specs.declared.Renewed.{Renewed}

pub empty_once : (r r' : List Entry) → Empty r → Empty r' → r ≡ r'
empty_once r r' h h' = h ∙ sym h'

pub next_once : (table : List Entry) (from r r' : ℕ) → Next table from r → Next table from r' → r ≡ r'
next_once table from r r' h h' = h ∙ sym h'

pub add_once : (table₀ : List Entry) (store₀ : List ℕ) (recording place : ℕ) (buf : List ℕ) (start end : ℕ) (r r' : Result ℕ Refusal) (table₁ table₁' : List Entry) (store₁ store₁' : List ℕ)
    → Add table₀ store₀ recording place buf start end r table₁ store₁ → Add table₀ store₀ recording place buf start end r' table₁' store₁'
    → (r ≡ r') × (table₁ ≡ table₁') × (store₁ ≡ store₁')
add_once table₀ store₀ recording place buf start end r r' table₁ table₁' store₁ store₁' h h' =
    let told : r ≡ r' = h.0 ∙ sym h'.0 in (
      told,
      h.1 ∙ ap (λ (x : Result ℕ Refusal). table_added x table₀ (entry_in recording place buf start end)) told ∙ sym h'.1,
      h.2 ∙ ap (λ (x : Result ℕ Refusal). store_added x store₀ (own_bytes (window buf start end))) told ∙ sym h'.2,
    )

pub renew_once : (table₀ : List Entry) (store : List ℕ) (recording place : ℕ) (buf : List ℕ) (start end : ℕ) (r r' : Result Renewed Refusal) (table₁ table₁' : List Entry)
    → Renew table₀ store recording place buf start end r table₁ → Renew table₀ store recording place buf start end r' table₁' → (r ≡ r') × (table₁ ≡ table₁')
renew_once table₀ store recording place buf start end r r' table₁ table₁' h h' =
    let told : r ≡ r' = h.0 ∙ sym h'.0 in
    (told, h.1 ∙ ap (λ (x : Result Renewed Refusal). table_renewed x table₀ (slot_of recording place table₀)) told ∙ sym h'.1)
