-- Which refusals each call may give (document 01, "What each call says no to"), each list in the order of testing.
use Rattle.std.specs.Prelude.{◌≡◌, List, [], ◌∷◌, ◌++◌, ◌⊎◌, ℕ}

-- k is one of these
abbrev pub OneOf : ℕ → List ℕ → Type 0
OneOf k [] = ⊥
OneOf k (t ∷ ts) = (k ≡ t) ⊎ OneOf k ts

-- the reader: from the top
abbrev pub reader_refusals : List ℕ
reader_refusals = 1 ∷ 2 ∷ 3 ∷ 4 ∷ 5 ∷ 6 ∷ 7 ∷ 8 ∷ 9 ∷ 10 ∷ 11 ∷ 12 ∷ 13 ∷ 14 ∷ 15 ∷ []

-- the lister, after the reader's tests
abbrev pub lister_refusals : List ℕ
lister_refusals = reader_refusals ++ (16 ∷ [])

-- one message by its number, after the reader's tests
abbrev pub message_refusals : List ℕ
message_refusals = reader_refusals ++ (17 ∷ [])

-- the writer: its own order
abbrev pub writer_refusals : List ℕ
writer_refusals = 17 ∷ 5 ∷ 6 ∷ 7 ∷ 8 ∷ 9 ∷ 12 ∷ 15 ∷ 16 ∷ []
