-- The number that a reading tells is that of the first rule that is not kept, where each line of the table says its rule.
use Rattle.std.specs.Prelude.{Result, Ok, Err}
use mathlib.Core.Path.{◌≡◌, refl, sym, subst, ◌∙◌}
use mathlib.Core.List.{List, [], ◌∷◌, ◌++◌}
use mathlib.Core.Bool.{Bool, true, false, not, false≢true}
use mathlib.Core.Logic.{◌↔◌, inl, inr, ⊎_elim, ◌≢◌}
use Prim.Native.Nat.{ℕ, ◌+◌, ◌-◌}
use native.Mathlib.Omega.{arith}
use lib.Dec.{T, eqb}
use borrow.Author.Tests.{eqb-true, eqb-false}
use Rattle.units.specs.Choice.{pick}
use Rattle.terms.specs.Refusals.{refused, needing, recorded}
use Rattle.frame.specs.Table.{Line, line, first, head_lines, value_lines, whole_lines, secondary_lines, trailer_lines, frame_lines}
use Rattle.frame.proofs.Tables.{numbered, stage_some, stage_none}
use Rattle.packet.proofs.Told.{Says15, checked_15}
use Rattle.packet.specs.Read.{inside, window, body_checked, pass_body, pass_bytes, pass_window, read_answer, read_packet, packet_told}
use Rattle.promises.specs.Endings.{refused_there}
use Rattle.promises.specs.Refusals.{OneOf, reader_refusals}
use Rattle.promises.proofs.BodiesKept.{body_passes}
use Rattle.promises.proofs.Members.{among, apart, apart_here, apart_next, one_among, one_behind}
use Rattle.terms.specs.declared.Refusal.{Refusal}

-- ---- a table's number

-- the numbers of its lines
abbrev pub numbers : List Line → List ℕ
numbers [] = []
numbers (line n t ∷ lines) = n ∷ numbers lines

-- 0 or the number of one of its lines
pub first_one : (lines : List Line) → OneOf (first lines) (0 ∷ numbers lines)
unfolding first
first_one [] = inl refl
first_one (line n false ∷ lines) = inr (inl refl)
first_one (line n true ∷ lines) = ⊎_elim inl (λ o. inr (inr o)) (first_one lines)

-- a part that has not this number lets through what is told by it
pub stage_other : (xs ys : List Line) (n : ℕ) → T (numbered xs) → among n (0 ∷ numbers xs) ≡ false → first (xs ++ ys) ≡ n → (first xs ≡ 0) × (first ys ≡ n)
stage_other xs ys n above other q = go (eqb (first xs) 0) refl
  where
    go : (t : Bool) → eqb (first xs) 0 ≡ t → (first xs ≡ 0) × (first ys ≡ n)
    go true h = let z = eqb-true (first xs) 0 h in (z, sym (stage_none xs ys above z) ∙ q)
    go false h =
        let is : first xs ≡ n = stage_some xs ys (first xs) refl (eqb-false (first xs) 0 h) ∙ q in
        absurd (false≢true (sym other ∙ one_among n (0 ∷ numbers xs) (subst (λ (k : ℕ). OneOf k (0 ∷ numbers xs)) is (first_one xs))))

pub stage_front : (xs ys : List Line) (n : ℕ) → T (numbered xs) → among n (0 ∷ numbers ys) ≡ false → first (xs ++ ys) ≡ n → first xs ≡ n
stage_front xs ys n above other q = go (eqb (first xs) 0) refl
  where
    go : (t : Bool) → eqb (first xs) 0 ≡ t → first xs ≡ n
    go true h =
        let is : first ys ≡ n = sym (stage_none xs ys above (eqb-true (first xs) 0 h)) ∙ q in
        absurd (false≢true (sym other ∙ one_among n (0 ∷ numbers ys) (subst (λ (k : ℕ). OneOf k (0 ∷ numbers ys)) is (first_one ys))))
    go false h = stage_some xs ys (first xs) refl (eqb-false (first xs) 0 h) ∙ q

-- and so does a line whose rule is kept, if no line behind it has its number
pub line_kept : (n : ℕ) (t : Bool) (lines : List Line) → t ≡ true → among n (0 ∷ numbers lines) ≡ false → first (line n t ∷ lines) ≢ n
unfolding first
line_kept n true lines kept other q = false≢true (sym other ∙ one_among n (0 ∷ numbers lines) (subst (λ (k : ℕ). OneOf k (0 ∷ numbers lines)) q (first_one lines)))
line_kept n false lines kept other q = false≢true kept

-- ---- it is that of the first rule that is not kept

-- each line says its rule, where those before it are kept
pub data Tested (rule : ℕ → Type 0) : List Line → Type 0 where
  last : Tested rule []
  tests : {n : ℕ} {t : Bool} {lines : List Line} → (t ≡ true → rule n) → (rule n → t ≡ true) → (t ≡ true → Tested rule lines) → Tested rule (line n t ∷ lines)

module _ (rule : ℕ → Type 0) where
  -- 0 exactly where every rule is kept
  pub kept_all : {lines : List Line} → Tested rule lines → apart (numbers lines) ≡ true → first lines ≡ 0 → (m : ℕ) → OneOf m (numbers lines) → rule m
  unfolding first
  kept_all last a z m o = absurd o
  kept_all (tests {n} {t = true} {lines} says made behind) a z m (inl e) = subst rule (sym e) (says refl)
  kept_all (tests {n} {t = true} {lines} says made behind) a z m (inr o) = kept_all (behind refl) (apart_next n (numbers lines) a) z m o
  kept_all (tests {n} {t = false} {lines} says made behind) a z m o = absurd (apart_here n (numbers lines) a (inl z))

  pub all_kept : {lines : List Line} → Tested rule lines → ((m : ℕ) → OneOf m (numbers lines) → rule m) → first lines ≡ 0
  unfolding first
  all_kept last all = refl
  all_kept (tests {n} {t = true} {lines} says made behind) all = all_kept (behind refl) (λ m o. all m (inr o))
  all_kept (tests {n} {t = false} {lines} says made behind) all = absurd (false≢true (made (all n (inl refl))))

  -- n exactly where those before it are kept and its own is not
  pub first_exactly : {lines : List Line} → Tested rule lines → (before : List ℕ) (n : ℕ) (after : List ℕ) → apart (numbers lines) ≡ true
      → numbers lines ≡ before ++ (n ∷ after)
      → (first lines ≡ n) ↔ (((m : ℕ) → OneOf m before → rule m) × (¬ rule n))
  unfolding first
  first_exactly last before n after a is = absurd (rw (← is) at (one_behind n before (n ∷ after) (inl refl)))
  first_exactly (tests {n = k} {t = true} {lines} says made behind) [] n after a is =
      let here : k ≡ n = cc in (
        λ q. absurd (apart_here k (numbers lines) a (subst (λ (m : ℕ). OneOf m (0 ∷ numbers lines)) (q ∙ sym here) (first_one lines))),
        λ (before, broken). absurd (broken (subst rule here (says refl))),
      )
  first_exactly (tests {n = k} {t = false} {lines} says made behind) [] n after a is =
      let here : k ≡ n = cc in
      (λ q. (λ m o. absurd o, λ kept. false≢true (made (subst rule (sym here) kept))), λ r. here)
  first_exactly (tests {n = k} {t = true} {lines} says made behind) (b ∷ before) n after a is =
      let here : k ≡ b = cc in
      let rest : numbers lines ≡ before ++ (n ∷ after) = cc in
      let next = first_exactly (behind refl) before n after (apart_next k (numbers lines) a) rest in (
        λ q. (λ m. ⊎_elim (λ e. subst rule (here ∙ sym e) (says refl)) ((next.0 q).0 m), (next.0 q).1),
        λ (before, broken). next.1 (λ m o. before m (inr o), broken),
      )
  first_exactly (tests {n = k} {t = false} {lines} says made behind) (b ∷ before) n after a is =
      let here : k ≡ b = cc in
      let rest : numbers lines ≡ before ++ (n ∷ after) = cc in (
        λ q. absurd (apart_here k (numbers lines) a (inr (rw rest (one_behind k before (n ∷ after) (inl q))))),
        λ (before, broken). absurd (false≢true (made (subst rule (sym here) (before b (inl refl))))),
      )

-- ---- the reader's table, with 1 as its first line and 15 as its last

abbrev pub bytes_lines : List ℕ → List Line
bytes_lines w = frame_lines w ++ (line 15 (body_passes (body_checked w)) ∷ [])

unfoldable pub all_lines : List ℕ → ℕ → ℕ → ℕ → List Line
all_lines buf s e base = line 1 (inside buf s e base) ∷ bytes_lines (window buf s e)

pub frame_numbered : (w : List ℕ) → T (numbered (frame_lines w))
unfolding frame_lines head_lines value_lines whole_lines secondary_lines trailer_lines
frame_numbered w = tt

-- the number that the reader's tests give
abbrev pass_number : Result ℕ Refusal → ℕ
pass_number (Ok n) = 0
pass_number (Err r) = r.number

body_number : (c : Result ℕ Refusal) (w : List ℕ) (at : ℕ) → Says15 c → pass_number (pass_body c w at) ≡ first (line 15 (body_passes c) ∷ [])
unfolding pass_body first
body_number (Ok n) w at right = refl
body_number (Err f) w at right = (right f refl).0

bytes_number : (w : List ℕ) (at : ℕ) → pass_number (pass_bytes w at) ≡ first (bytes_lines w)
unfolding pass_bytes
bytes_number w at = go (eqb (first (frame_lines w)) 0) refl
  where
    go : (b : Bool) → eqb (first (frame_lines w)) 0 ≡ b
        → pass_number (pick (not b) (Err (refused (first (frame_lines w)) at)) (pass_body (body_checked w) w at)) ≡ first (bytes_lines w)
    go true q =
        body_number (body_checked w) w at (checked_15 w) ∙ sym (stage_none (frame_lines w) _ (frame_numbered w) (eqb-true (first (frame_lines w)) 0 q))
    go false q = stage_some (frame_lines w) _ (first (frame_lines w)) refl (eqb-false (first (frame_lines w)) 0 q)

told_number : (x : Result ℕ Refusal) (w : List ℕ) (s base : ℕ) → (packet_told (read_answer x w s base)).refusal.number ≡ pass_number x
unfolding read_answer
told_number (Ok n) w s base = refl
told_number (Err r) w s base = refl

pub number_is : (buf : List ℕ) (s e base : ℕ) → (packet_told (read_packet buf s e base)).refusal.number ≡ first (all_lines buf s e base)
unfolding read_packet pass_window first all_lines
number_is buf s e base = told_number (pass_window buf s e base) (window buf s e) s base ∙ go (inside buf s e base)
  where
    go : (t : Bool) → pass_number (pick (not t) (Err (refused 1 s)) (pass_bytes (window buf s e) s)) ≡ first (line 1 t ∷ bytes_lines (window buf s e))
    go true = bytes_number (window buf s e) s
    go false = refl

-- the numbers of its lines are the reader's refusals
pub numbers_are : (buf : List ℕ) (s e base : ℕ) → numbers (all_lines buf s e base) ≡ reader_refusals
unfolding all_lines frame_lines head_lines value_lines whole_lines secondary_lines trailer_lines
numbers_are buf s e base = refl

-- and a refusal has one of them
pub read_numbered : (buf : List ℕ) (s e base : ℕ) → (packet_told (read_packet buf s e base)).refusal.number ≢ 0
    → OneOf (packet_told (read_packet buf s e base)).refusal.number reader_refusals
read_numbered buf s e base some =
    let one = first_one (all_lines buf s e base) in
    ⊎_elim (λ z. absurd (some z)) (λ o. o) (rw (number_is buf s e base) (rw (numbers_are buf s e base) at one))

-- ---- a refusal at the window's start, with its place in the recording: the base

pub start_recorded : (base s number room : ℕ) → recorded base s (needing room (refused number s)) ≡ needing room (refused_there number s base)
start_recorded base s number room =
    let here : base + (s - s) ≡ base = omega arith in
    λ i. record { number = number; place = s; room = room; reason = 0; recording_place = here i }
