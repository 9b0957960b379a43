-- How a walk ends; places lie in the body or at its end: a fault's, and a message's bytes.
use Rattle.std.specs.Prelude.{Result, Ok, Err}
use mathlib.Core.Path.{◌≡◌, refl, sym, ap, ◌∙◌, subst}
use mathlib.Core.List.{List}
use mathlib.Core.Bool.{Bool, true, false, not}
use mathlib.Core.Logic.{◌≢◌, ◌⊎◌, inl, inr, ⊎_elim}
use Prim.Native.Nat.{ℕ, zero, suc, ◌+◌, ◌-◌, ◌%◌, ◌^◌, ◌≤◌, ◌<◌}
use native.Mathlib.Omega.{arith}
use native.Mathlib.Nat.{zero-add, add-zero}
use lib.ListN.{length}
use lib.Dec.{ltb, leb, eqb}
use borrow.Author.Tests.{leb-true, leb-false, ltb-true, ltb-false, eqb-true, eqb-false, not-true, not-false}
use Rattle.units.specs.Units.{part, zeros}
use Rattle.units.specs.Choice.{pick}
use Rattle.terms.specs.Times.{time_ok}
use Rattle.body.specs.Walk.{block_end, head_at, judge, block_at, stop_at, ending, stamp_length, open_body, walk, walk_from, Opened, Carried, Shaped, Wrong}
use Rattle.terms.specs.Refusals.{fault}
use Rattle.body.specs.Answers.{check_body, check_opened, message_of, message_in}
use Rattle.terms.specs.declared.TimeRule.{TimeRule}
use Rattle.terms.specs.declared.Refusal.{Refusal}
use Rattle.body.specs.declared.Shape.{Shape}
use Rattle.body.specs.declared.Message.{Message}
use Rattle.body.proofs.Walking.{Walking, walking_first, walking_next, walk_stop, walk_broken, walk_found, open_long}
use Rattle.body.proofs.Reading.{ReadingBody, reading_first, reading_ahead, message_shaped}

-- ---- faults

-- a body's refusal, at this place, for a reason of which Q holds
abbrev pub FaultFor : (ℕ → Type 0) → ℕ → Refusal → Type 0
FaultFor Q at r = (r ≡ fault at r.reason) × Q r.reason

-- for any reason
abbrev pub FaultAt : ℕ → Refusal → Type 0
FaultAt at r = FaultFor (λ n. 0 < n) at r

pub fault_place : (at : ℕ) (r : Refusal) → FaultAt at r → r.place ≡ at
fault_place at r is = ap (λ (x : Refusal). x.place) is.0

-- Q holds of each reason for which a block at `at` may be at fault, where the tests ahead of it are passed
pub record EachReason (sh : Shape) (bs : List ℕ) (at : ℕ) (m : Message) (Q : ℕ → Type 0) : Type 0 where
  pub none : length bs ≤ at → Q 7
  pub head : at < length bs → length bs < at + stamp_length sh.form + 4 → Q 2
  pub short : at + stamp_length sh.form + 4 ≤ length bs → length bs < block_end m → Q 2
  pub time : block_end m ≤ length bs → time_ok sh.rule m.time ≡ false → Q 3
  pub empty : block_end m ≤ length bs → time_ok sh.rule m.time ≡ true → m.length ≡ 0 → Q 4
  pub pad : block_end m ≤ length bs → time_ok sh.rule m.time ≡ true → m.length ≢ 0
      → zeros (part bs (m.start + m.length) (m.length % 2)) ≡ false → Q 5

-- a test that refuses for reason n, or hands on to the tests behind it
by_test : (Q : ℕ → Type 0) (t : Bool) (at n : ℕ) (rest : Result (Message × ℕ) Refusal) → (t ≡ true → Q n) → (t ≡ false → (r : Refusal) → rest ≡ Err r → FaultFor Q at r)
    → (r : Refusal) → pick t (Err (fault at n)) rest ≡ Err r → FaultFor Q at r
by_test Q true at n rest here behind r e = let is : fault at n ≡ r = cc in subst (FaultFor Q at) is (refl, here refl)
by_test Q false at n rest here behind r e = behind refl r e

-- every fault of a block is placed at its first byte, and its reason is that of the first test that it fails
pub broken_for : (sh : Shape) (bs : List ℕ) (at : ℕ) (Q : ℕ → Type 0) → EachReason sh bs at (head_at sh.form bs at) Q
    → (r : Refusal) → block_at sh bs at ≡ Err r → FaultFor Q at r
unfolding block_at judge
broken_for sh bs at Q each =
    let m = head_at sh.form bs at in
    let head-end = at + stamp_length sh.form + 4 in
    let in_form = time_ok sh.rule m.time in
    let padded = zeros (part bs (m.start + m.length) (m.length % 2)) in
    by_test Q (leb (length bs) at) at 7 _ (λ t. each.none (leb-true (length bs) at t))
    (λ t₀. by_test Q (ltb (length bs) head-end) at 2 _ (λ t. each.head (leb-false (length bs) at t₀) (ltb-true (length bs) head-end t))
    (λ t₁. by_test Q (ltb (length bs) (block_end m)) at 2 _ (λ t. each.short (ltb-false (length bs) head-end t₁) (ltb-true (length bs) (block_end m) t))
    (λ t₂. let whole = ltb-false (length bs) (block_end m) t₂ in
    by_test Q (not in_form) at 3 _ (λ t. each.time whole (not-true in_form t))
    (λ t₃. by_test Q (eqb m.length 0) at 4 _ (λ t. each.empty whole (not-false in_form t₃) (eqb-true m.length 0 t))
    (λ t₄. by_test Q (not padded) at 5 _ (λ t. each.pad whole (not-false in_form t₃) (eqb-false m.length 0 t₄) (not-true padded t))
    (λ t₅ r e. let z : ◌≡◌ {A = ℕ} 0 1 = cc in absurd (omega arith)))))))

pub broken_at : (sh : Shape) (bs : List ℕ) (at : ℕ) (r : Refusal) → block_at sh bs at ≡ Err r → FaultAt at r
broken_at sh bs at =
    broken_for sh bs at (λ n. 0 < n)
    (record {
      none = λ a. omega arith;
      head = λ a b. omega arith;
      short = λ a b. omega arith;
      time = λ a b. omega arith;
      empty = λ a b c. omega arith;
      pad = λ a b c d. omega arith;
    })

-- bytes left over are placed at the first of them, for reason 6
pub ending_faulty : (len k at : ℕ) (r : Refusal) → ending len k at ≡ Err r → (r ≡ fault at 6) × (at ≢ len)
unfolding ending
ending_faulty len k at r e = go (eqb at len) refl e
  where
    go : (b : Bool) → eqb at len ≡ b → pick b (Ok k) (Err (fault at 6)) ≡ Err r → (r ≡ fault at 6) × (at ≢ len)
    go true t e = let z : ◌≡◌ {A = ℕ} 0 1 = cc in absurd (omega arith)
    go false t e = (cc, eqb-false at len t)

fault_for : (at n : ℕ) (r : Refusal) → r ≡ fault at n → 0 < n → FaultAt at r
fault_for at n r is some = subst (FaultAt at) (sym is) (refl, some)

-- how a walk ends, behind this many blocks and at this place: it stops there, or finds no block there
pub record End (sh : Shape) (bs : List ℕ) (says : Result ℕ Refusal) : Type 0 where
  pub blocks : ℕ
  pub place : ℕ
  pub there : Walking sh bs blocks place
  pub how : ((stop_at sh (length bs) blocks place ≡ true) × (says ≡ ending (length bs) blocks place)) ⊎ ((r : Refusal) × (says ≡ Err r) × FaultAt place r)

-- from the k-th block on, for the walk over the whole
walk_ends : (sh : Shape) (bs : List ℕ) (f k at : ℕ) → Walking sh bs k at → length bs < f + k → End sh bs (walk_from sh bs f k)
walk_ends sh bs zero k at w hf = absurd (omega arith)
walk_ends sh bs (suc f) k at w hf =
    go (stop_at sh (length bs) k at) refl (block_at sh bs at) refl (λ next v. walk_ends sh bs f (k + 1) next v (omega arith))
  where
    go : (b : Bool) → stop_at sh (length bs) k at ≡ b → (x : Result (Message × ℕ) Refusal) → block_at sh bs at ≡ x
        → ((next : ℕ) → Walking sh bs (k + 1) next → End sh bs (walk_from sh bs f (k + 1))) → End sh bs (walk_from sh bs (suc f) k)
    go true s x b rest = record { blocks = k; place = at; there = w; how = inl (s, walk_stop sh bs (suc f) k at w.0 (omega arith) s) }
    go false s (Err q) b rest =
        record { blocks = k; place = at; there = w; how = inr (q, walk_broken sh bs (suc f) k at w.0 (omega arith) q s b, broken_at sh bs at q b) }
    go false s (Ok (m, next)) b rest =
        let pf : suc f - 1 ≡ f = omega arith in
        let on : walk_from sh bs (suc f) k ≡ walk_from sh bs f (k + 1) = rw pf at (walk_found sh bs (suc f) k at w.0 (omega arith) m next s b) in
        rw on (rest next (walking_next sh bs k at m next w b))

-- the walk over a body that has its channel word
pub walk_end : (sh : Shape) (bs : List ℕ) → 4 ≤ length bs → End sh bs (walk sh bs)
unfolding walk
walk_end sh bs long = walk_ends sh bs (length bs + 1) 0 4 (walking_first sh bs long) (omega arith)

-- every refusal of a body is 15, for a reason, and its place lies in the body or at its end
pub faulty_is : (kind : ℕ) (rule : TimeRule) (bs : List ℕ) (r : Refusal) → check_body kind rule bs ≡ Err r → FaultAt r.place r × (r.place ≤ length bs)
unfolding check_body
faulty_is kind rule bs r e = go (open_body kind rule bs) refl e
  where
    at : (place : ℕ) → place ≤ length bs → FaultAt place r → FaultAt r.place r × (r.place ≤ length bs)
    at place h is = let p = fault_place place r is in (subst (λ (a : ℕ). FaultAt a r) (sym p) is, omega (arith, p))

    go : (o : Opened) → open_body kind rule bs ≡ o → check_opened o bs ≡ Err r → FaultAt r.place r × (r.place ≤ length bs)
    go Carried q h = let z : ◌≡◌ {A = ℕ} 0 1 = cc in absurd (omega arith)
    go (Shaped sh) q h =
        let x = walk_end sh bs (open_long kind rule bs sh q) in
        at x.place x.there.2
        (⊎_elim
        (λ s. fault_for x.place 6 r (ending_faulty (length bs) x.blocks x.place r (sym s.1 ∙ h)).0 (omega arith))
        (λ s. let same : s.0 ≡ r = cc (sym s.1 ∙ h) in subst (FaultAt x.place) same s.2)
        x.how)
    go Wrong q h = at 0 (omega arith) (fault_for 0 1 r (cc) (omega arith))

-- its number, and its place, alone
pub faulty_number : (kind : ℕ) (rule : TimeRule) (bs : List ℕ) (r : Refusal) → check_body kind rule bs ≡ Err r
    → (r.number ≡ 15) × (r.room ≡ 0) × (r.recording_place ≡ 0)
faulty_number kind rule bs r e =
    let is = (faulty_is kind rule bs r e).0.0 in
    (ap (λ (x : Refusal). x.number) is, ap (λ (x : Refusal). x.room) is, ap (λ (x : Refusal). x.recording_place) is)

pub faulty_place : (kind : ℕ) (rule : TimeRule) (bs : List ℕ) (r : Refusal) → check_body kind rule bs ≡ Err r → r.place ≤ length bs
faulty_place kind rule bs r e = (faulty_is kind rule bs r e).1

-- ---- messages

-- a message's bytes, and their pad, end within the body; there are some, and no more than 16 bits count
pub record InBody (bs : List ℕ) (m : Message) : Type 0 where
  pub fits : block_end m ≤ length bs
  pub some : 0 < m.length
  pub short : m.length < 2 ^ 16

ahead_in : (sh : Shape) (bs : List ℕ) (n d j at : ℕ) → ReadingBody sh bs n j at → j + d < n → InBody bs (message_of sh bs (j + d))
ahead_in sh bs n zero j at now more =
    let a = reading_ahead sh bs n j at now (omega arith) (head_at sh.form bs at) refl in
    rw (add-zero, ← a.message) (record { fits = a.fits; some = a.some; short = a.short })
ahead_in sh bs n (suc d) j at now more =
    let a = reading_ahead sh bs n j at now (omega arith) (head_at sh.form bs at) refl in
    let e : j + 1 + d ≡ j + suc d = omega arith in
    rw (← e) (ahead_in sh bs n d (j + 1) _ a.next (omega arith))

pub message_in_body : (kind : ℕ) (rule : TimeRule) (bs : List ℕ) (n k : ℕ) → check_body kind rule bs ≡ Ok n → k < n → InBody bs (message_in kind rule bs k)
unfolding check_body
message_in_body kind rule bs n k e more = go (open_body kind rule bs) refl e
  where
    go : (o : Opened) → open_body kind rule bs ≡ o → check_opened o bs ≡ Ok n → InBody bs (message_in kind rule bs k)
    go Carried q h = let z : n ≡ 0 = cc in absurd (omega arith)
    go (Shaped sh) q h =
        rw (message_shaped kind rule bs sh k q, ← zero-add k) (ahead_in sh bs n k 0 4 (reading_first sh bs n (open_long kind rule bs sh q) h) (omega arith))
    go Wrong q h = let z : ◌≡◌ {A = ℕ} 0 1 = cc in absurd (omega arith)

pub message_fits : (kind : ℕ) (rule : TimeRule) (bs : List ℕ) (n k : ℕ) → check_body kind rule bs ≡ Ok n → k < n
    → block_end (message_in kind rule bs k) ≤ length bs
message_fits kind rule bs n k e more = (message_in_body kind rule bs n k e more).fits
