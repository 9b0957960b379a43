-- What is said of a whole body: the number of its messages or the first fault, the k-th message, and the two lists.
use Rattle.std.specs.Prelude.{List, [], ◌∷◌, ◌++◌, ℕ, zero, suc, ◌+◌, min, drop, ltb, leb, Result, Ok, Err, Option, Some, None}
use Rattle.units.specs.Choice.{pick}
use Rattle.body.specs.Walk.{open_body, block_at, spot, walk, Opened, Carried, Shaped, Wrong}
use Rattle.terms.specs.Refusals.{fault, no_refusal}
use Rattle.terms.specs.declared.Refusal.{Refusal}
use Rattle.terms.specs.declared.TimeRule.{TimeRule}
use Rattle.body.specs.declared.Shape.{Shape}
use Rattle.body.specs.declared.Message.{Message}
use Rattle.body.specs.declared.Unlisted.{Unlisted}
use Rattle.body.specs.declared.Unlisted.TheVariants.{Faulty, NoRoom}

-- ---- the number of messages, or the first fault

abbrev pub check_opened : Opened → List ℕ → Result ℕ Refusal
check_opened Carried bs = Ok 0
check_opened (Shaped sh) bs = walk sh bs
check_opened Wrong bs = Err (fault 0 1)

unfoldable pub check_body : ℕ → TimeRule → List ℕ → Result ℕ Refusal
check_body kind rule bs = check_opened (open_body kind rule bs) bs

-- document 01's number and values of the answer
pub record CheckedTold : Type 0 where
  pub refusal : Refusal
  pub count : ℕ

abbrev pub checked_told : Result ℕ Refusal → CheckedTold
checked_told (Ok n) = record { refusal = no_refusal; count = n }
checked_told (Err r) = record { refusal = r; count = 0 }

-- ---- the k-th message, from 0

abbrev pub no_message : Message
no_message = record { time = 0; id = 0; start = 0; length = 0 }

abbrev pub the_message : Result (Message × ℕ) Refusal → Message
the_message (Ok (m, next)) = m
the_message (Err f) = no_message

unfoldable pub message_of : Shape → List ℕ → ℕ → Message
message_of sh bs k = the_message (block_at sh bs (spot sh bs k))

abbrev pub message_opened : Opened → List ℕ → ℕ → Message
message_opened Carried bs k = no_message
message_opened (Shaped sh) bs k = message_of sh bs k
message_opened Wrong bs k = no_message

unfoldable pub message_in : ℕ → TimeRule → List ℕ → ℕ → Message
message_in kind rule bs k = message_opened (open_body kind rule bs) bs k

-- one message by its number, where there are so many
unfoldable pub pick_counted : ℕ → Message → Result ℕ Refusal → Result (Option Message) Refusal
pick_counted k m (Ok n) = pick (ltb k n) (Ok (Some m)) (Ok None)
pick_counted k m (Err f) = Err f

unfoldable pub message_at : ℕ → TimeRule → List ℕ → ℕ → Result (Option Message) Refusal
message_at kind rule bs k = pick_counted k (message_in kind rule bs k) (check_body kind rule bs)

-- ---- the two lists

-- f 0, f 1, .. to f (n - 1)
unfoldable pub tab : {A : Type 0} → ℕ → (ℕ → A) → List A
tab zero f = []
tab (suc n) f = tab n f ++ (f n ∷ [])

-- a list whose first n entries are f's; those past them are kept
unfoldable pub filled : ℕ → (ℕ → ℕ) → List ℕ → List ℕ
filled n f old = tab n f ++ drop n old

-- all messages into two lists of these lengths, where they are not more than the shorter holds
unfoldable pub list_counted : ℕ → ℕ → Result ℕ Refusal → Result ℕ Unlisted
list_counted len₁ len₂ (Ok n) = pick (leb n (min len₁ len₂)) (Ok n) (Err (NoRoom n))
list_counted len₁ len₂ (Err f) = Err (Faulty f)

unfoldable pub list_of : ℕ → TimeRule → List ℕ → ℕ → ℕ → Result ℕ Unlisted
list_of kind rule bs len₁ len₂ = list_counted len₁ len₂ (check_body kind rule bs)

-- the start of each message, counted from `base` bytes ahead of the body, and its length
abbrev pub starts_of : ℕ → (ℕ → Message) → ℕ → ℕ
starts_of base messages k = base + (messages k).start

abbrev pub lengths_of : (ℕ → Message) → ℕ → ℕ
lengths_of messages k = (messages k).length

-- a list after an answer: filled up to the count, or untouched
unfoldable pub filled_after : Result ℕ Unlisted → (ℕ → ℕ) → List ℕ → List ℕ
filled_after (Ok n) f old = filled n f old
filled_after (Err (Faulty r)) f old = old
filled_after (Err (NoRoom n)) f old = old
