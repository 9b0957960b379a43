-- Demand 1: nothing outside the window changes an answer, nor the entries of the lists.
use Rattle.std.specs.Prelude.{Result, Ok, Err}
use mathlib.Core.Path.{◌≡◌, refl, ◌∙◌, sym}
use mathlib.Core.List.{List}
use mathlib.Core.Bool.{Bool, true, false}
use Prim.Native.Nat.{ℕ, ◌-◌, ◌≤◌, min}
use native.Mathlib.Omega.{arith}
use lib.ListN.{length, take, drop, length-append, length-drop}
use lib.Seq.{take_at, drop_at, take-take}
use lib.Dec.{ltb}
use borrow.Author.Tests.{ltb-false}
use Rattle.units.specs.Units.{part}
use Rattle.units.specs.Choice.{pick}
use Rattle.terms.specs.Refusals.{refused, needing}
use Rattle.body.specs.Answers.{tab, filled}
use Rattle.body.proofs.Reading.{length_tab}
use Rattle.packet.specs.Read.{window, pass_window, read_packet}
use Rattle.packet.proofs.Passes.{inside_same}
use Rattle.packet.specs.Messages.{message_count, list_answer, recorded_list, list_packet, list_after, starts, lengths, message_packet, list_told, entries}
use Rattle.terms.specs.declared.Refusal.{Refusal}

-- ---- the lists

-- what a list held before has no say in them
pub entries_told : (r : Result ℕ Refusal) (values : ℕ → ℕ) (old old' : List ℕ) → entries r values old ≡ entries r values old'
unfolding list_after filled
entries_told (Ok n) values old old' =
    take_at (tab n values) (drop n old) n (length_tab n values) ∙ sym (take_at (tab n values) (drop n old') n (length_tab n values))
entries_told (Err r) values old old' = refl

-- those past the count are what they were
pub entries_kept : (r : Result ℕ Refusal) (values : ℕ → ℕ) (old : List ℕ) → drop (list_told r).count (list_after r values old) ≡ drop (list_told r).count old
unfolding list_after filled
entries_kept (Ok n) values old = drop_at (tab n values) (drop n old) n (length_tab n values)
entries_kept (Err r) values old = refl

-- the count fits the shorter list, and so a list keeps its length
counted_fits : (x : Result ℕ Refusal) (at n room : ℕ) → (list_told (list_answer x at n room)).count ≤ room
unfolding list_answer
counted_fits (Ok p) at n room = go (ltb room n) refl
  where
    go : (t : Bool) → ltb room n ≡ t → (list_told (pick t (Err (needing n (refused 16 at))) (Ok n))).count ≤ room
    go true e = omega arith
    go false e = ltb-false room n e
counted_fits (Err r) at n room = omega arith

-- its place in the recording has no say in the count
recorded_count : (base s : ℕ) (x : Result ℕ Refusal) → (list_told (recorded_list base s x)).count ≡ (list_told x).count
recorded_count base s (Ok n) = refl
recorded_count base s (Err r) = refl

pub count_fits : (buf : List ℕ) (s e base m n : ℕ) → (list_told (list_packet buf s e base m n)).count ≤ min m n
unfolding list_packet
count_fits buf s e base m n = rw (recorded_count base s _) (counted_fits (pass_window buf s e base) s (message_count (window buf s e)) (min m n))

pub length_after : (r : Result ℕ Refusal) (values : ℕ → ℕ) (old : List ℕ) → (list_told r).count ≤ length old → length (list_after r values old) ≡ length old
unfolding list_after filled
length_after (Ok n) values old h = simp (length-append, length_tab, length-drop) (omega arith)
length_after (Err r) values old h = refl

-- ---- the window

-- the first bytes from its start on, in the buffer and in the window
pub own_part : (buf : List ℕ) (s e n : ℕ) → n ≤ e - s → part buf s n ≡ take n (window buf s e)
own_part buf s e n h = sym (take-take n (e - s) (drop s buf) h)

-- two buffers that reach to the end, with the same bytes from start to it
module _ (a b : List ℕ) (s e base : ℕ) (in_a : e ≤ length a) (in_b : e ≤ length b) (same : window a s e ≡ window b s e) where
  pass_window_lem : pass_window a s e base ≡ pass_window b s e base
  unfolding pass_window
  pass_window_lem = rw (same, inside_same a b s e base in_a in_b)

  pub read_window : read_packet a s e base ≡ read_packet b s e base
  unfolding read_packet
  read_window = rw (same, pass_window_lem)

  pub message_window : (k : ℕ) → message_packet a s e base k ≡ message_packet b s e base k
  unfolding message_packet
  message_window k = rw (same, pass_window_lem)

  pub list_window : (m n : ℕ) → list_packet a s e base m n ≡ list_packet b s e base m n
  unfolding list_packet
  list_window m n = rw (same, pass_window_lem)

  -- the entries told are equal, whatever the lists held before
  pub entries_window : (m n : ℕ) (old old' : List ℕ)
      → (entries (list_packet a s e base m n) (starts (window a s e)) old ≡ entries (list_packet b s e base m n) (starts (window b s e)) old')
      × (entries (list_packet a s e base m n) (lengths (window a s e)) old ≡ entries (list_packet b s e base m n) (lengths (window b s e)) old')
  entries_window m n old old' = (
    rw (same, list_window m n) (entries_told (list_packet b s e base m n) (starts (window b s e)) old old'),
    rw (same, list_window m n) (entries_told (list_packet b s e base m n) (lengths (window b s e)) old old'),
  )
