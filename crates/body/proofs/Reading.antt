-- Laws for the loops over a body that is known to have n messages, and for lists that are filled from the front.
use Rattle.std.specs.Prelude.{Option, Result, Ok, Err, Some, None}
use Rattle.std.specs.List.{slice_get}
use Rattle.std.proofs.lemmas.Option.{slice_get_past, slice_get-get_or}
use native.Mathlib.Decide.{dec_le}
use mathlib.Core.Path.{◌≡◌, refl, sym, ap, ◌∙◌}
use mathlib.Core.List.{List, [], ◌∷◌, ◌++◌, append_assoc}
use mathlib.Core.Bool.{Bool, true, false}
use Prim.Native.Nat.{ℕ, zero, suc, ◌+◌, ◌-◌, ◌^◌, ◌≤◌, ◌<◌, min}
use native.Mathlib.Omega.{arith}
use native.Mathlib.Numerals.{add-one}
use lib.ListN.{length, drop, get_or, set, length-append, get_or-append}
use lib.Seq.{drop-cons, set_at, get_or_at}
use lib.Dec.{eqb}
use borrow.Author.Tests.{eqb-true, le-leb, lt-leb, lt-ltb, le-ltb}
use Rattle.units.specs.Choice.{pick}
use Rattle.body.specs.Walk.{open_body, stamp_length, head_at, block_end, block_at, stop_at, ending, walk_from, walk, Opened, Shaped}
use Rattle.terms.specs.Refusals.{fault}
use Rattle.body.specs.Answers.{check_body, message_of, message_opened, message_in, pick_counted, message_at, tab, filled, list_counted, list_of}
use Rattle.terms.specs.declared.Refusal.{Refusal}
use Rattle.body.specs.declared.Shape.{Shape}
use Rattle.terms.specs.declared.TimeRule.{TimeRule}
use Rattle.body.specs.declared.Message.{Message}
use Rattle.body.proofs.Blocks.{says_short}
use Rattle.body.proofs.Walking.{found_stands, Walking, walking_first, walking_next, walk_stop, walk_broken, walk_found}
use Rattle.body.specs.declared.Unlisted.TheVariants.{Faulty, NoRoom}

-- ---- a body that has n messages

-- the walk stands at `at` after k blocks of a body that has n
abbrev pub ReadingBody : Shape → List ℕ → ℕ → ℕ → ℕ → Type 0
ReadingBody sh bs n k at = Walking sh bs k at × (walk_from sh bs (length bs + 1 - k) k ≡ Ok n)

pub reading_first : (sh : Shape) (bs : List ℕ) (n : ℕ) → 4 ≤ length bs → walk sh bs ≡ Ok n → ReadingBody sh bs n 0 4
unfolding walk
reading_first sh bs n h e = let z : length bs + 1 - 0 ≡ length bs + 1 = omega arith in (walking_first sh bs h, rw z e)

-- an ending that counts n comes after n blocks, at the body's end
pub ending_counted : (len k at n : ℕ) → ending len k at ≡ Ok n → (k ≡ n) × (at ≡ len)
unfolding ending
ending_counted len k at n e = go (eqb at len) refl e
  where
    go : (b : Bool) → eqb at len ≡ b → pick b (Ok k) (Err (fault at 6)) ≡ Ok n → (k ≡ n) × (at ≡ len)
    go true t e = (cc, eqb-true at len t)
    go false t e = let z : ◌≡◌ {A = ℕ} 0 1 = cc in absurd (omega arith)

module _ (sh : Shape) (bs : List ℕ) (n k at : ℕ) (now : ReadingBody sh bs n k at) where
  -- where the walk stops, all n are read and the body ends
  pub reading_end : stop_at sh (length bs) k at ≡ true → (k ≡ n) × (at ≡ length bs)
  reading_end e = ending_counted (length bs) k at n (sym (walk_stop sh bs (length bs + 1 - k) k at now.0.0 (omega arith) e) ∙ now.1)

  -- where it goes on, the block is whole
  pub reading_block : (r : Refusal) → stop_at sh (length bs) k at ≡ false → block_at sh bs at ≡ Err r → ⊥
  reading_block r s e =
      let z : ◌≡◌ {A = ℕ} 0 1 = cc (walk_broken sh bs (length bs + 1 - k) k at now.0.0 (omega arith) r s e, now.1) in
      omega arith

  pub reading_step : (m : Message) (next : ℕ) → stop_at sh (length bs) k at ≡ false → block_at sh bs at ≡ Ok (m, next) → ReadingBody sh bs n (k + 1) next
  reading_step m next s e =
      let f : length bs + 1 - k - 1 ≡ length bs + 1 - (k + 1) = omega arith in
      (walking_next sh bs k at m next now.0 e, rw f at (sym (walk_found sh bs _ k at now.0.0 (omega arith) m next s e) ∙ now.1))

  -- while messages are left the walk goes on
  pub reading_on : k < n → stop_at sh (length bs) k at ≡ false
  reading_on more = go (stop_at sh (length bs) k at) refl
    where
      go : (b : Bool) → stop_at sh (length bs) k at ≡ b → stop_at sh (length bs) k at ≡ false
      go false e = e
      go true e = absurd (omega (arith, (reading_end e).0))

  pub reading_whole : k < n → (r : Refusal) → block_at sh bs at ≡ Err r → ⊥
  reading_whole more r e = reading_block r (reading_on more) e

  pub reading_next : k < n → (m : Message) (next : ℕ) → block_at sh bs at ≡ Ok (m, next) → ReadingBody sh bs n (k + 1) next
  reading_next more m next e = reading_step m next (reading_on more) e

-- the block where the walk stands is the k-th message
pub walking_message : (sh : Shape) (bs : List ℕ) (k at : ℕ) (m : Message) (next : ℕ) → Walking sh bs k at → block_at sh bs at ≡ Ok (m, next)
    → m ≡ message_of sh bs k
unfolding message_of
walking_message sh bs k at m next w e = rw (← w.0, e)

-- while messages are left, what the head at `at` says is the k-th message, and the next block stands behind it
pub record Ahead (sh : Shape) (bs : List ℕ) (n k at : ℕ) (m : Message) : Type 0 where
  pub message : m ≡ message_of sh bs k
  pub next : ReadingBody sh bs n (k + 1) (block_end m)
  pub fits : block_end m ≤ length bs
  pub some : 0 < m.length
  pub short : m.length < 2 ^ 16

module _ (sh : Shape) (bs : List ℕ) (n k at : ℕ) (now : ReadingBody sh bs n k at) (more : k < n) where
  found_head : (m : Message) × (next : ℕ) × (block_at sh bs at ≡ Ok (m, next))
  found_head = go (block_at sh bs at) refl
    where
      go : (b : Result (Message × ℕ) Refusal) → block_at sh bs at ≡ b → (m : Message) × (next : ℕ) × (block_at sh bs at ≡ Ok (m, next))
      go (Ok (m, next)) e = (m, next, e)
      go (Err r) e = absurd (reading_whole sh bs n k at now more r e)

  pub reading_fits : at + stamp_length sh.form + 4 ≤ length bs
  reading_fits = let f = found_head in (found_stands sh bs at f.0 f.1 f.2).head

  pub reading_ahead : (m : Message) → m ≡ head_at sh.form bs at → Ahead sh bs n k at m
  unfolding head_at
  reading_ahead m is =
      let f = found_head in
      let s = found_stands sh bs at f.0 f.1 f.2 in
      let same : f.0 ≡ m = s.says ∙ sym is in
      record {
        message = rw (← same) (walking_message sh bs k at f.0 f.1 now.0 f.2);
        next = rw (← same, ← s.next_is) (reading_next sh bs n k at now more f.0 f.1 f.2);
        fits = rw (← same, ← s.next_is) s.fits;
        some = rw (← same) s.some;
        short = says_short _ _ _ _ is;
      }

-- the k-th message of a body whose shape is known
pub message_shaped : (kind : ℕ) (rule : TimeRule) (bs : List ℕ) (sh : Shape) (k : ℕ) → open_body kind rule bs ≡ Shaped sh → message_in kind rule bs k ≡ message_of sh bs k
unfolding message_in
message_shaped kind rule bs sh k e = ap (λ (o : Opened). message_opened o bs k) e

-- ---- lists filled from the front

pub length_tab : {A : Type 0} (n : ℕ) (f : ℕ → A) → length (tab n f) ≡ n
unfolding tab
length_tab zero f = refl
length_tab (suc n) f = simp (length-append, length_tab n f) (omega arith)

pub tab_ext : {A : Type 0} (n : ℕ) (f g : ℕ → A) → ((k : ℕ) → k < n → f k ≡ g k) → tab n f ≡ tab n g
unfolding tab
tab_ext zero f g h = refl
tab_ext (suc n) f g h = simp (tab_ext n f g (λ k l. h k (omega arith)), h n (omega arith))

pub tab_at : {A : Type 0} (n : ℕ) (f : ℕ → A) (d : A) (k : ℕ) → k < n → get_or (tab n f) k d ≡ f k
unfolding tab
tab_at zero f d k h = absurd (omega arith)
tab_at (suc n) f d k h = go (dec_le n k) (tab_at n f d k)
  where
    go : Dec (n ≤ k) → (k < n → get_or (tab n f) k d ≡ f k) → get_or (tab n f ++ (f n ∷ [])) k d ≡ f k
    go (yes l) before = let z : n ≡ k = omega arith in get_or_at (tab n f) (f n) [] d k (length_tab n f ∙ z) ∙ ap f z
    go (no l) before = get_or-append (tab n f) (f n ∷ []) d k (omega (arith, length_tab n f)) ∙ before (omega arith)

-- of all n the first k, and x ahead of the others: x is the next
pub tab_next : {A : Type 0} (n k : ℕ) (f : ℕ → A) (x : A) (xs : List A) → tab k f ++ (x ∷ xs) ≡ tab n f
    → (k < n) × (x ≡ f k) × (tab (k + 1) f ++ xs ≡ tab n f)
unfolding tab
tab_next {A = A} n k f x xs e =
    let l : k + suc (length xs) ≡ n = sym (length-append (tab k f) (x ∷ xs) ∙ ap (λ (j : ℕ). j + suc (length xs)) (length_tab k f)) ∙ ap length e ∙ length_tab n f in
    let more : k < n = omega arith in
    let is : x ≡ f k = sym (get_or_at (tab k f) x xs x k (length_tab k f)) ∙ ap (λ (ys : List A). get_or ys k x) e ∙ tab_at n f x k more in
    (more, is, rw (add-one, ← is, append_assoc) e)

-- the next entry
pub fill_next : (k : ℕ) (f : ℕ → ℕ) (old now : List ℕ) (v : ℕ) → k < length old → now ≡ filled k f old → v ≡ f k
    → set now k v ≡ filled (k + 1) f old
unfolding filled tab
fill_next k f old now v h e is =
    rw (e, add-one, drop-cons old k 0 h, set_at (tab k f) (get_or old k 0) (drop (suc k) old) v k (length_tab k f), append_assoc, is)

-- which answer a lister gives
module _ (r q : ℕ) (w : Result ℕ Refusal) where
  pub list_short : (n : ℕ) → w ≡ Ok n → min r q < n → Err (NoRoom n) ≡ list_counted r q w
  unfolding list_counted
  list_short n e h = simp (e, lt-leb n (min r q) h)

  pub list_room : (n : ℕ) → w ≡ Ok n → n ≤ min r q → Ok n ≡ list_counted r q w
  unfolding list_counted
  list_room n e h = simp (e, le-leb n (min r q) h)

  pub list_faulty : (f : Refusal) → w ≡ Err f → Err (Faulty f) ≡ list_counted r q w
  unfolding list_counted
  list_faulty f e = simp e

-- ---- what the three calls say of a body that has n messages

module _ (kind : ℕ) (rule : TimeRule) (bs : List ℕ) (n : ℕ) (has : check_body kind rule bs ≡ Ok n) where
  pub message_one : (k : ℕ) → k < n → message_at kind rule bs k ≡ Ok (Some (message_in kind rule bs k))
  unfolding message_at pick_counted
  message_one k h = simp (has, lt-ltb k n h)

  pub message_missing : (k : ℕ) → n ≤ k → message_at kind rule bs k ≡ (Ok None)
  unfolding message_at pick_counted
  message_missing k h = simp (has, le-ltb k n h)

  -- the k-th of all, if there is one
  pub message_nth : (k : ℕ) (r : Option Message) → r ≡ slice_get (tab n (message_in kind rule bs)) k → Ok r ≡ message_at kind rule bs k
  message_nth k r is = go (dec_le n k)
    where
      l : length (tab n (message_in kind rule bs)) ≡ n
      l = length_tab n (message_in kind rule bs)

      go : Dec (n ≤ k) → Ok r ≡ message_at kind rule bs k
      go (yes past) = ap Ok (is ∙ slice_get_past _ k (omega (arith, l))) ∙ sym (message_missing k past)
      go (no within) =
          let m = message_in kind rule bs k in
          ap Ok (is ∙ slice_get-get_or _ k m (omega (arith, l)) ∙ ap Some (tab_at n _ m k (omega arith))) ∙ sym (message_one k (omega arith))

  pub lists_all : (len₁ len₂ : ℕ) → n ≤ min len₁ len₂ → list_of kind rule bs len₁ len₂ ≡ Ok n
  unfolding list_of
  lists_all len₁ len₂ h = sym (list_room len₁ len₂ (check_body kind rule bs) n has h)

  pub lists_none : (len₁ len₂ : ℕ) → min len₁ len₂ < n → list_of kind rule bs len₁ len₂ ≡ Err (NoRoom n)
  unfolding list_of
  lists_none len₁ len₂ h = sym (list_short len₁ len₂ (check_body kind rule bs) n has h)
