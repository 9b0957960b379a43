-- A body is refused exactly where it is at fault and for the rule that it breaks there, and it is at fault at one place, for one reason.
use Rattle.std.specs.Prelude.{Some, Result, Ok, Err}
use mathlib.Core.Path.{◌≡◌, refl, sym, ap, ◌∙◌, subst}
use mathlib.Core.List.{List, [], ◌∷◌, ◌++◌, append_assoc}
use mathlib.Core.Bool.{Bool, true, false, ◌&&◌, and-false, false≢true}
use mathlib.Core.Logic.{◌⊎◌, inl, inr, ◌↔◌, ◌≢◌}
use Prim.Native.Nat.{ℕ, zero, suc, ◌+◌, ◌-◌, ◌%◌, ◌^◌, ◌≤◌, ◌<◌}
use native.Mathlib.Omega.{arith}
use native.Mathlib.Decide.{dec_le}
use native.Mathlib.Nat.{zero-add, add-zero}
use lib.ListN.{length, take, drop, get_or, length-append, length-drop, take-append-drop}
use lib.Seq.{length-take-le, drop_at, drop-drop, get_or-drop}
use lib.Dec.{ltb, leb, eqb}
use borrow.Author.Tests.{ltb-false, leb-true, leb-false, eqb-true, eqb-false, le-leb, lt-leb, lt-ltb}
use Rattle.units.specs.Units.{Bytes, part, zeros, num, field}
use Rattle.units.proofs.Choices.{and_true}
use Rattle.terms.specs.Times.{time_ok}
use Rattle.terms.proofs.Times.{zero_ok}
use Rattle.body.specs.Walk.{opens, open_body, stamp_length, length_by, head_at, block_end, block_at, stop_at, walk_from, walk, Opened, Carried, Shaped, Wrong}
use Rattle.terms.specs.Refusals.{fault}
use Rattle.body.specs.Answers.{check_opened, check_body, tab}
use Rattle.body.specs.Blocks.{Entry, block_bytes, Fits, AllFit, blocks_bytes, message_on}
use Rattle.body.specs.Layout.{OpenedType, Asked, exactly, to_the_end, ChannelWord}
use Rattle.promises.specs.Faults.{Each, Due, Begins, stamp_size, head_size, n_of, whole_size, Breaks, head_cut, bytes_cut, time_out, length_zero, pad_not_zero, Lowest, AtFault, no_word, wrong_word, block, over, missing}
use Rattle.terms.specs.declared.TimeRule.{TimeRule}
use Rattle.terms.specs.declared.Refusal.{Refusal}
use Rattle.body.specs.declared.Form.{Form}
use Rattle.body.specs.declared.Form.TheVariants.{Stamped, Plain}
use Rattle.body.specs.declared.Shape.{Shape}
use Rattle.body.specs.declared.Message.{Message}
use Rattle.body.proofs.Walking.{found_stands, stands_found, found_next, Walking, walking_first, walking_next, walk_stop, walk_broken, walk_found, Counting, counting_first, counting_stop, counting_broken, counting_next, ending_over}
use Rattle.body.proofs.Reading.{length_tab}
use Rattle.body.proofs.Whole.{entry_on, stands_there, on_before, Come, come_first, come_next, open_not_carried}
use Rattle.body.proofs.Exactly.{check_shaped}
use Rattle.body.proofs.Bounds.{FaultFor, EachReason, broken_for, ending_faulty}
use Rattle.body.proofs.Steps.{none_there}
use Rattle.body.proofs.ChannelWords.{opens_exactly, count_by, shape_of, word_says, word_made}

-- a block keeps the rules under a time rule, and a time is in form under it
abbrev pub RightBy : TimeRule → Form → Entry → Type 0
RightBy rule form e = Fits form rule e

abbrev pub TimeBy : TimeRule → ℕ → Type 0
TimeBy rule t = time_ok rule t ≡ true

pub fit_each : (form : Form) (rule : TimeRule) (es : List Entry) → AllFit form rule es → Each (RightBy rule form) es
fit_each form rule [] all = tt
fit_each form rule (e ∷ es) all = (all.0, fit_each form rule es all.1)

pub each_fit : (form : Form) (rule : TimeRule) (es : List Entry) → Each (RightBy rule form) es → AllFit form rule es
each_fit form rule [] all = tt
each_fit form rule (e ∷ es) all = (all.0, each_fit form rule es all.1)

-- ---- the rules that a block breaks

module _ (InForm : ℕ → Type 0) (form : Form) (rest : List ℕ) where
  -- none below a limit, where those below it are kept
  none_below : (limit : ℕ) → (2 < limit → whole_size form rest ≤ length rest) → (3 < limit → form ≡ Stamped → InForm (field rest 0 8))
      → (4 < limit → n_of form rest ≢ 0) → (5 < limit → n_of form rest % 2 ≡ 1 → get_or rest (head_size form + n_of form rest) 0 ≡ 0)
      → (lower : ℕ) → lower < limit → ¬ Breaks InForm form rest lower
  none_below limit whole timed some padded lower less (head_cut begun short) = omega (arith, whole less)
  none_below limit whole timed some padded lower less (bytes_cut head short) = omega (arith, whole less)
  none_below limit whole timed some padded lower less (time_out is there out) = out (timed less is)
  none_below limit whole timed some padded lower less (length_zero head z) = some less z
  none_below limit whole timed some padded lower less (pad_not_zero odd there other) = other (padded less odd)

  -- each is broken by bytes that are there
  breaks_there : (reason : ℕ) → Breaks InForm form rest reason → 1 ≤ length rest
  breaks_there reason (head_cut begun short) = begun
  breaks_there reason (bytes_cut head short) = omega arith
  breaks_there reason (time_out is there out) = omega arith
  breaks_there reason (length_zero head z) = omega arith
  breaks_there reason (pad_not_zero odd there other) = omega arith

  -- the lowest is one
  lowest_once : (a b : ℕ) → Lowest InForm form rest a → Lowest InForm form rest b → a ≡ b
  lowest_once a b first second = go (dec_le a b) (dec_le b a)
    where
      go : Dec (a ≤ b) → Dec (b ≤ a) → a ≡ b
      go (yes x) (yes y) = omega arith
      go (yes x) (no y) = absurd (second.1 a (omega arith) first.0)
      go (no x) y = absurd (first.1 b (omega arith) second.0)

  -- what is wrong where a block is due: nothing is left, or a rule is broken
  abbrev DueWrong : ℕ → Type 0
  DueWrong reason = ((length rest ≡ 0) × (reason ≡ 7)) ⊎ Lowest InForm form rest reason

-- ---- one place: what the walk finds there, and whether it goes on

stamp_is : (form : Form) → stamp_length form ≡ stamp_size form
unfolding stamp_length
stamp_is Stamped = refl
stamp_is Plain = refl

-- what a block's head says, by the bytes that are left from its first byte on
n_is : (form : Form) (bs : List ℕ) (at : ℕ) → (head_at form bs at).length ≡ n_of form (drop at bs)
unfolding head_at length_by
n_is form bs at = rw (stamp_is form) (ap (λ (l : List ℕ). num (take 4 l) % 2 ^ 16) (sym (drop-drop (stamp_size form) at bs)))

size_is : (form : Form) (bs : List ℕ) (at : ℕ) → block_end (head_at form bs at) ≡ at + whole_size form (drop at bs)
unfolding head_at
size_is form bs at = rw (n_is form bs at) (omega (arith, stamp_is form))

pub plain_other : Plain ≢ Stamped
plain_other e = let z : ◌≡◌ {A = ℕ} 0 1 = cc in omega arith

module _ (rule : TimeRule) (bs : List ℕ) (at : ℕ) where
  timed_right : (form : Form) → time_ok rule (head_at form bs at).time ≡ true → form ≡ Stamped → TimeBy rule (field (drop at bs) 0 8)
  unfolding head_at stamp_length
  timed_right Stamped t is = t
  timed_right Plain t is = absurd (plain_other is)

  timed_wrong : (form : Form) → time_ok rule (head_at form bs at).time ≡ false → (form ≡ Stamped) × (¬ TimeBy rule (field (drop at bs) 0 8))
  unfolding head_at stamp_length num
  timed_wrong Stamped t = (refl, λ right. false≢true (sym t ∙ right))
  timed_wrong Plain t = absurd (false≢true (sym t ∙ zero_ok rule))

-- a pad byte, if there is one
zeros_one : (l : List ℕ) → zeros (take 1 l) ≡ eqb (get_or l 0 0) 0
unfolding zeros
zeros_one [] = refl
zeros_one (b ∷ l) = and_identity (eqb b 0)
  where
    and_identity : (t : Bool) → (t && true) ≡ t
    and_identity true = refl
    and_identity false = refl

module _ (form : Form) (bs : List ℕ) (at : ℕ) where
  abbrev pad_zeros : Bool
  pad_zeros = zeros (part bs ((head_at form bs at).start + (head_at form bs at).length) ((head_at form bs at).length % 2))

  abbrev pad_byte : ℕ
  pad_byte = get_or (drop at bs) (head_size form + n_of form (drop at bs)) 0

  -- where n is odd it is the byte behind the n bytes
  pad_odd : n_of form (drop at bs) % 2 ≡ 1 → pad_zeros ≡ eqb pad_byte 0
  unfolding head_at
  pad_odd odd =
      let place = at + stamp_size form + 4 + n_of form (drop at bs) in
      let there : at + (head_size form + n_of form (drop at bs)) ≡ place = omega arith in
      rw (n_is form bs at, stamp_is form, odd, zeros_one (drop place bs), get_or-drop place bs 0 0, add-zero, get_or-drop at bs (head_size form + n_of form (drop at bs)) 0, there)

  pad_even : n_of form (drop at bs) % 2 ≡ 0 → pad_zeros ≡ true
  unfolding head_at zeros
  pad_even even = rw (n_is form bs at, even)

  pad_right : pad_zeros ≡ true → n_of form (drop at bs) % 2 ≡ 1 → pad_byte ≡ 0
  pad_right t odd = eqb-true pad_byte 0 (sym (pad_odd odd) ∙ t)

  pad_wrong : pad_zeros ≡ false → (n_of form (drop at bs) % 2 ≡ 1) × (pad_byte ≢ 0)
  pad_wrong t = go (dec_le 1 (n_of form (drop at bs) % 2))
    where
      go : Dec (1 ≤ n_of form (drop at bs) % 2) → (n_of form (drop at bs) % 2 ≡ 1) × (pad_byte ≢ 0)
      go (yes h) = let odd : n_of form (drop at bs) % 2 ≡ 1 = omega arith in (odd, eqb-false pad_byte 0 (sym (pad_odd odd) ∙ t))
      go (no h) = absurd (false≢true (sym t ∙ pad_even (omega arith)))

module _ (sh : Shape) (bs : List ℕ) (at : ℕ) (within : at ≤ length bs) where
  abbrev rest : List ℕ
  rest = drop at bs

  abbrev InTime : ℕ → Type 0
  InTime = TimeBy sh.rule

  left : length bs ≡ at + length rest
  left = omega (arith, within, length-drop at bs)

  long : block_end (head_at sh.form bs at) ≤ length bs → whole_size sh.form rest ≤ length rest
  long h = omega (arith, left, size_is sh.form bs at)

  -- the first test that a block fails is for the lowest rule that it breaks
  each_wrong : EachReason sh bs at (head_at sh.form bs at) (DueWrong InTime sh.form rest)
  each_wrong =
      let form = sh.form in
      let rule = sh.rule in
      let below = none_below InTime form rest in
      let cut = below 2 (λ h. absurd (omega arith)) (λ h. absurd (omega arith)) (λ h. absurd (omega arith)) (λ h. absurd (omega arith)) in
      record {
        none = λ h. inl (omega (arith, left), refl);
        head = λ some short. inr (head_cut (omega (arith, left)) (omega (arith, left, stamp_is form)), cut);
        short = λ head short. inr (bytes_cut (omega (arith, left, stamp_is form)) (omega (arith, left, size_is form bs at)), cut);
        time =
            λ fits out.
            let wrong = timed_wrong rule bs at form out in
            inr (
              time_out wrong.0 (omega (arith, long fits, ap stamp_size wrong.0)) wrong.1,
              below 3 (λ h. long fits) (λ h. absurd (omega arith)) (λ h. absurd (omega arith)) (λ h. absurd (omega arith)),
            );
        empty =
            λ fits in_form z.
            inr (
              length_zero (omega (arith, long fits)) (sym (n_is form bs at) ∙ z),
              below 4 (λ h. long fits) (λ h. timed_right rule bs at form in_form) (λ h. absurd (omega arith)) (λ h. absurd (omega arith)),
            );
        pad =
            λ fits in_form some other.
            let wrong = pad_wrong form bs at other in
            inr (
              pad_not_zero wrong.0 (omega (arith, long fits, wrong.0)) wrong.1,
              below 5 (λ h. long fits) (λ h. timed_right rule bs at form in_form) (λ h z. some (n_is form bs at ∙ z)) (λ h. absurd (omega arith)),
            );
      }

  -- a block that the walk finds breaks none
  found_none : (m : Message) (next : ℕ) → block_at sh bs at ≡ Ok (m, next) → (reason : ℕ) → ¬ Breaks InTime sh.form rest reason
  found_none m next found reason =
      let form = sh.form in
      let s = found_stands sh bs at m next found in
      let is = s.says in
      let fits : block_end (head_at form bs at) ≤ length bs = rw (← is) (omega (arith, s.next_is, s.fits)) in
      none_below InTime form rest (suc reason) (λ h. long fits) (λ h. timed_right sh.rule bs at form (rw (← is) s.time_ok_lem))
      (λ h z. omega (arith, s.some, ap (λ (x : Message). x.length) is, n_is form bs at, z)) (λ h. pad_right form bs at (rw (← is) s.pad))
      reason (omega arith)

-- nothing is left
none_left : (l : List ℕ) → length l ≡ 0 → l ≡ []
none_left [] e = refl
none_left (x ∷ l) e = absurd (omega (arith, e))

-- the walk goes on exactly where a block is due
module _ (form : Form) (rule : TimeRule) (len k at : ℕ) (rest : List ℕ) (l : len ≡ at + length rest) where
  going_due : (asked : Asked) → stop_at (shape_of form asked rule) len k at ≡ false → Due asked k rest
  unfolding stop_at
  going_due (exactly count) s = leb-false count k s
  going_due to_the_end s = go (ltb 0 k) refl (leb len at) refl s
    where
      go : (a : Bool) → ltb 0 k ≡ a → (b : Bool) → leb len at ≡ b → (a && b) ≡ false → (k ≡ 0) ⊎ (1 ≤ length rest)
      go false e b g s = inl (omega (arith, ltb-false 0 k e))
      go true e true g s = absurd (false≢true (sym s))
      go true e false g s = inr (omega (arith, l, leb-false len at g))

  due_going : (asked : Asked) → Due asked k rest → stop_at (shape_of form asked rule) len k at ≡ false
  unfolding stop_at
  due_going (exactly count) due = lt-leb count k due
  due_going to_the_end (inl e) = rw e refl
  due_going to_the_end (inr h) = rw (lt-leb len at (omega (arith, l))) (and-false (ltb 0 k))

  -- where it stops before the end, as many blocks as counted are behind it
  stopped_over : (asked : Asked) → stop_at (shape_of form asked rule) len k at ≡ true → 1 ≤ length rest → (count : ℕ) × (asked ≡ exactly count) × (count ≤ k)
  unfolding stop_at
  stopped_over (exactly count) s more = (count, refl, leb-true count k s)
  stopped_over to_the_end s more = absurd (omega (arith, l, leb-true len at (and_true (ltb 0 k) (leb len at) s).1))

-- where one more is due, no more than counted are there
due_within : (asked : Asked) (k : ℕ) (rest : List ℕ) → Due asked k rest → (count : ℕ) → count_by asked ≡ Some count → k ≤ count
due_within (exactly m) k rest due count c = let same : m ≡ count = cc in omega arith
due_within to_the_end k rest due count c = let z : ◌≡◌ {A = ℕ} 0 1 = cc in absurd (omega arith)

-- ---- from the refusal to the place

-- a body is at fault as its refusal says: at its place, and for its reason
abbrev pub FaultOf : ℕ → TimeRule → List ℕ → Refusal → Type 0
FaultOf kind rule bs r = AtFault kind (RightBy rule) (TimeBy rule) bs r.place r.reason

module _ (kind : ℕ) (rule : TimeRule) (bs : List ℕ) (form : Form) (asked : Asked) (raw : Bytes bs) (long : 4 ≤ length bs)
    (right-word : ChannelWord kind (field bs 0 4) form asked) (r : Refusal) where
  abbrev sh : Shape
  sh = shape_of form asked rule

  -- what stands before the place that the walk has come to
  come_begins : (k at : ℕ) → at ≤ length bs → Come sh bs k at
      → Begins kind (RightBy rule) bs form asked (tab k (entry_on sh bs)) (drop at bs) × (at ≡ 4 + length (blocks_bytes form (tab k (entry_on sh bs))))
  come_begins k at within come =
      let es = tab k (entry_on sh bs) in
      let blocks = blocks_bytes form es in
      let four : length (take 4 bs) ≡ 4 = length-take-le 4 bs long in
      let l : length (take at bs) ≡ at = length-take-le at bs within in (
        record {
          long = long;
          word = right-word;
          is =
              sym (take-append-drop at bs) ∙ ap (λ (l : List ℕ). l ++ drop at bs) come.is ∙ append_assoc (take 4 bs) blocks (drop at bs);
          right = fit_each form rule es come.fit;
        },
        omega (arith, l, four, ap length come.is, length-append (take 4 bs) blocks),
      )

  module _ (k at : ℕ) (w : Walking sh bs k at) (come : Come sh bs k at) where
    abbrev before : List Entry
    before = tab k (entry_on sh bs)

    behind : length bs ≡ at + length (drop at bs)
    behind = left sh bs at w.2

    -- a fault at this place, for this reason, is the refusal's
    there : (reason : ℕ) → r ≡ fault at reason → AtFault kind (RightBy rule) (TimeBy rule) bs (4 + length (blocks_bytes form before)) reason → FaultOf kind rule bs r
    there reason is fault-there =
        let p : r.place ≡ 4 + length (blocks_bytes form before) = ap (λ (x : Refusal). x.place) is ∙ (come_begins k at w.2 come).1 in
        let q : r.reason ≡ reason = ap (λ (x : Refusal). x.reason) is in
        rw (p, q) fault-there

    broken_fault : stop_at sh (length bs) k at ≡ false → block_at sh bs at ≡ Err r → FaultOf kind rule bs r
    broken_fault s b = go f.1
      where
        f : FaultFor (DueWrong (TimeBy rule) form (drop at bs)) at r
        f = broken_for sh bs at (DueWrong (TimeBy rule) form (drop at bs)) (each_wrong sh bs at w.2) r b

        begins : Begins kind (RightBy rule) bs form asked before (drop at bs)
        begins = (come_begins k at w.2 come).0

        due : Due asked (length before) (drop at bs)
        due = rw (length_tab k (entry_on sh bs)) (going_due form rule (length bs) k at (drop at bs) behind asked s)

        go : DueWrong (TimeBy rule) form (drop at bs) r.reason → FaultOf kind rule bs r
        go (inl (none, seven)) =
            let ended : drop at bs ≡ [] = none_left (drop at bs) none in
            there 7 (f.0 ∙ ap (fault at) seven)
            (missing (subst (Begins kind (RightBy rule) bs form asked before) ended begins) (subst (Due asked (length before)) ended due))
        go (inr lowest) = there r.reason f.0 (block begins due lowest)

    over_fault : stop_at sh (length bs) k at ≡ true → r ≡ fault at 6 → at ≢ length bs → FaultOf kind rule bs r
    over_fault s is short =
        let more : 1 ≤ length (drop at bs) = omega (arith, behind) in
        let all = stopped_over form rule (length bs) k at (drop at bs) behind asked s more in
        let n : length before ≡ all.0 = omega (arith, length_tab k (entry_on sh bs), all.2, come.within all.0 (ap count_by all.1)) in
        let begins = subst (λ (a : Asked). Begins kind (RightBy rule) bs form a before (drop at bs)) all.1 (come_begins k at w.2 come).0 in
        there 6 is (over begins n more)

  fault_from : (f k at : ℕ) → length bs < f + k → Walking sh bs k at → Come sh bs k at → walk_from sh bs f k ≡ Err r → FaultOf kind rule bs r
  fault_from zero k at enough w come e = absurd (omega arith)
  fault_from (suc f) k at enough w come e =
      go (stop_at sh (length bs) k at) refl (block_at sh bs at) refl (λ next. fault_from f (k + 1) next (omega arith))
    where
      go : (b : Bool) → stop_at sh (length bs) k at ≡ b → (x : Result (Message × ℕ) Refusal) → block_at sh bs at ≡ x
          → ((next : ℕ) → Walking sh bs (k + 1) next → Come sh bs (k + 1) next → walk_from sh bs f (k + 1) ≡ Err r → FaultOf kind rule bs r)
          → FaultOf kind rule bs r
      go true s x b rest =
          let p = ending_faulty (length bs) k at r (sym (walk_stop sh bs (suc f) k at w.0 (omega arith) s) ∙ e) in
          over_fault k at w come s p.0 p.1
      go false s (Err x) b rest =
          let same : x ≡ r = cc (sym (walk_broken sh bs (suc f) k at w.0 (omega arith) x s b) ∙ e) in
          broken_fault k at w come s (b ∙ ap Err same)
      go false s (Ok (m, next)) b rest =
          let pf : suc f - 1 ≡ f = omega arith in
          rest next (walking_next sh bs k at m next w b) (come_next sh bs k at m next raw w s b come)
          (rw pf at (sym (walk_found sh bs (suc f) k at w.0 (omega arith) m next s b) ∙ e))

-- a type that is carried opens to nothing wrong
wrong_opened : (kind : ℕ) (rule : TimeRule) (bs : List ℕ) → open_body kind rule bs ≡ Wrong → OpenedType kind
unfolding open_body
wrong_opened kind rule bs e = go (opens kind) refl
  where
    go : (o : Bool) → opens kind ≡ o → OpenedType kind
    go true o = (opens_exactly kind).0 o
    go false o = let z : ◌≡◌ {A = ℕ} 0 1 = cc (rw o at e) in absurd (omega arith)

-- a channel word that opens to nothing is cut short or wrong
word_fault : (kind : ℕ) (rule : TimeRule) (bs : List ℕ) → open_body kind rule bs ≡ Wrong → AtFault kind (RightBy rule) (TimeBy rule) bs 0 1
word_fault kind rule bs e = go (dec_le 4 (length bs))
  where
    go : Dec (4 ≤ length bs) → AtFault kind (RightBy rule) (TimeBy rule) bs 0 1
    go (yes h) =
        wrong_word (wrong_opened kind rule bs e) h λ form asked w.
        let z : ◌≡◌ {A = ℕ} 0 1 = cc (word_made kind rule bs form asked h w, e) in omega arith
    go (no h) = no_word (wrong_opened kind rule bs e) (omega arith)

-- a body that is refused is at fault at the place given, for the reason given
pub fault_at : (kind : ℕ) (rule : TimeRule) (bs : List ℕ) (r : Refusal) → Bytes bs → check_body kind rule bs ≡ Err r → FaultOf kind rule bs r
unfolding check_body walk
fault_at kind rule bs r raw e = go (open_body kind rule bs) refl e
  where
    go : (o : Opened) → open_body kind rule bs ≡ o → check_opened o bs ≡ Err r → FaultOf kind rule bs r
    go Carried q h = let z : ◌≡◌ {A = ℕ} 0 1 = cc in absurd (omega arith)
    go (Shaped sh) q h =
        let (long, (asked, w, is)) = word_says kind rule bs sh q in
        let s = shape_of sh.form asked rule in
        fault_from kind rule bs sh.form asked raw long w r (length bs + 1) 0 4 (omega arith) (walking_first s bs long) (come_first s bs)
        (subst (λ (x : Shape). walk x bs ≡ Err r) is h)
    go Wrong q h =
        let is : fault 0 1 ≡ r = cc in
        subst (FaultOf kind rule bs) is (word_fault kind rule bs q)

-- ---- from the place to the refusal

-- a body is refused at this place, for this reason
abbrev pub RefusedAt : ℕ → TimeRule → List ℕ → ℕ → ℕ → Type 0
RefusedAt kind rule bs a reason = check_body kind rule bs ≡ Err (fault a reason)

-- the walk comes to the end of right blocks, where it does not stop among them
come_along : (sh : Shape) (bs rest : List ℕ) (es : List Entry) (front : List ℕ) (k : ℕ) → bs ≡ front ++ (blocks_bytes sh.form es ++ rest)
    → AllFit sh.form sh.rule es → ((j at : ℕ) → j < k + length es → at < length bs → stop_at sh (length bs) j at ≡ false)
    → Counting sh bs k (length front) → Counting sh bs (k + length es) (length front + length (blocks_bytes sh.form es))
unfolding blocks_bytes
come_along sh bs rest [] front k is fit on now = rw (add-zero, add-zero) now
come_along sh bs rest (e ∷ es) front k is fit on now =
    let b = block_bytes sh.form e in
    let bl = blocks_bytes sh.form es in
    let m = message_on sh.form (length front) e in
    let next = length (front ++ b) in
    let is' : bs ≡ front ++ (b ++ (bl ++ rest)) = is ∙ simp append_assoc in
    let f = stands_found sh bs (length front) m next (stands_there sh bs front (bl ++ rest) e is' fit.0) in
    let n = found_next sh bs (length front) m next f in
    let then = counting_next sh bs k (length front) now m next (on k (length front) (omega arith) (omega (arith, n.0, n.1))) f in
    let more = come_along sh bs rest es (front ++ b) (k + 1) (is' ∙ simp append_assoc) fit.1 (λ j at h. on j at (omega arith)) then in
    let k-is : k + 1 + length es ≡ k + suc (length es) = omega arith in
    let at-is : length (front ++ b) + length bl ≡ length front + length (b ++ bl) = omega (arith, length-append front b, length-append b bl) in
    rw (← k-is, ← at-is) more

module _ (kind : ℕ) (rule : TimeRule) (bs : List ℕ) (form : Form) (asked : Asked) (es : List Entry) (rest : List ℕ)
    (b : Begins kind (RightBy rule) bs form asked es rest) (within : (count : ℕ) → count_by asked ≡ Some count → length es ≤ count) where
  abbrev its_shape : Shape
  its_shape = shape_of form asked rule

  abbrev place : ℕ
  place = 4 + length (blocks_bytes form es)

  first_four : length (take 4 bs) ≡ 4
  first_four = length-take-le 4 bs b.long

  opened : open_body kind rule bs ≡ Shaped its_shape
  opened = word_made kind rule bs form asked b.long b.word

  begins_come : Counting its_shape bs (length es) place
  begins_come =
      let first = counting_first its_shape bs b.long in
      rw (zero-add, first_four) at
      (come_along its_shape bs rest es (take 4 bs) 0 b.is (each_fit form rule es b.right) (λ j at h. on_before its_shape bs (length es) within j at (omega arith))
      (rw first_four first))

  begins_left : (length bs ≡ place + length rest) × (drop place bs ≡ rest)
  begins_left =
      let blocks = blocks_bytes form es in
      let l : length (take 4 bs ++ blocks) ≡ place = omega (arith, first_four, length-append (take 4 bs) blocks) in
      let split : bs ≡ take 4 bs ++ blocks ++ rest = b.is ∙ sym (append_assoc (take 4 bs) blocks rest) in
      (omega (arith, l, ap length split, length-append (take 4 bs ++ blocks) rest), ap (drop place) split ∙ drop_at (take 4 bs ++ blocks) rest place l)

  begins_broken : {reason : ℕ} → Due asked (length es) rest → block_at its_shape bs place ≡ Err (fault place reason) → RefusedAt kind rule bs place reason
  begins_broken due broken =
      let on = due_going form rule (length bs) (length es) place rest begins_left.0 asked due in
      check_shaped kind rule bs its_shape opened ∙ counting_broken its_shape bs (length es) place begins_come _ on broken

  begins_block : (reason : ℕ) → Due asked (length es) rest → Lowest (TimeBy rule) form rest reason → RefusedAt kind rule bs place reason
  begins_block reason due lowest = begins_broken due (go (block_at its_shape bs place) refl)
    where
      in_body : place ≤ length bs
      in_body = omega (arith, begins_left.0)

      same : (r : ℕ) → DueWrong (TimeBy rule) form rest r → r ≡ reason
      same r (inl (none, seven)) = absurd (omega (arith, breaks_there (TimeBy rule) form rest reason lowest.0))
      same r (inr other) = lowest_once (TimeBy rule) form rest r reason other lowest

      go : (x : Result (Message × ℕ) Refusal) → block_at its_shape bs place ≡ x → block_at its_shape bs place ≡ Err (fault place reason)
      go (Err r) e =
          let f = rw begins_left.1 at (broken_for its_shape bs place (DueWrong (TimeBy rule) form (drop place bs)) (each_wrong its_shape bs place in_body) r e) in
          e ∙ ap Err (f.0 ∙ ap (fault place) (same r.reason f.1))
      go (Ok (m, next)) e = absurd (rw begins_left.1 at (found_none its_shape bs place in_body m next e reason) lowest.0)

  begins_missing : Due asked (length es) rest → length rest ≡ 0 → RefusedAt kind rule bs place 7
  begins_missing due none = begins_broken due (sym (none_there its_shape bs place (omega (arith, begins_left.0))))

  begins_over : (count : ℕ) → count_by asked ≡ Some count → length es ≡ count → 1 ≤ length rest → RefusedAt kind rule bs place 6
  unfolding stop_at
  begins_over count c n more =
      let stop : stop_at its_shape (length bs) (length es) place ≡ true = rw c (le-leb count (length es) (omega arith)) in
      check_shaped kind rule bs its_shape opened
      ∙ counting_stop its_shape bs (length es) place begins_come stop
      ∙ ending_over (length bs) (length es) place (λ e. omega (arith, begins_left.0))

-- a channel word that is cut short, or wrong, opens to nothing
cut_wrong : (kind : ℕ) (rule : TimeRule) (bs : List ℕ) → OpenedType kind → length bs < 4 → open_body kind rule bs ≡ Wrong
unfolding open_body
cut_wrong kind rule bs o short = rw ((opens_exactly kind).1 o, lt-ltb (length bs) 4 short)

word_wrong : (kind : ℕ) (rule : TimeRule) (bs : List ℕ) → OpenedType kind → ((form : Form) (asked : Asked) → ¬ ChannelWord kind (field bs 0 4) form asked)
    → open_body kind rule bs ≡ Wrong
word_wrong kind rule bs o none = go (open_body kind rule bs) refl
  where
    go : (x : Opened) → open_body kind rule bs ≡ x → x ≡ Wrong
    go Carried q = absurd (open_not_carried kind rule bs ((opens_exactly kind).1 o) q)
    go (Shaped sh) q = let (long, (asked, w, is)) = word_says kind rule bs sh q in absurd (none sh.form asked w)
    go Wrong q = refl

wrong_refused : (kind : ℕ) (rule : TimeRule) (bs : List ℕ) → open_body kind rule bs ≡ Wrong → RefusedAt kind rule bs 0 1
unfolding check_body
wrong_refused kind rule bs wrong = simp wrong

-- a body that is at fault is refused there, for that reason
pub at_fault : (kind : ℕ) (rule : TimeRule) (bs : List ℕ) (a reason : ℕ) → AtFault kind (RightBy rule) (TimeBy rule) bs a reason → RefusedAt kind rule bs a reason
at_fault kind rule bs a reason (no_word o short) = wrong_refused kind rule bs (cut_wrong kind rule bs o short)
at_fault kind rule bs a reason (wrong_word o long none) = wrong_refused kind rule bs (word_wrong kind rule bs o none)
at_fault kind rule bs a reason (block {form} {asked} {es} {rest} b due lowest) =
    begins_block kind rule bs form asked es rest b (due_within asked (length es) rest due) reason due lowest
at_fault kind rule bs a reason (over {form} {count} {es} {rest} b n more) =
    begins_over kind rule bs form (exactly count) es rest b (λ m e. let same : count ≡ m = cc in omega arith) count refl n more
at_fault kind rule bs a reason (missing {form} {asked} {es} b due) =
    begins_missing kind rule bs form asked es [] b (due_within asked (length es) [] due) due refl

-- both ways
pub fault_exactly : (kind : ℕ) (rule : TimeRule) (bs : List ℕ) (a reason : ℕ) → Bytes bs
    → RefusedAt kind rule bs a reason ↔ AtFault kind (RightBy rule) (TimeBy rule) bs a reason
fault_exactly kind rule bs a reason raw = (fault_at kind rule bs (fault a reason) raw, at_fault kind rule bs a reason)

-- a body is at fault at one place, for one reason
pub fault_once : (kind : ℕ) (rule : TimeRule) (bs : List ℕ) (a b r s : ℕ) → AtFault kind (RightBy rule) (TimeBy rule) bs a r
    → AtFault kind (RightBy rule) (TimeBy rule) bs b s → (a ≡ b) × (r ≡ s)
fault_once kind rule bs a b r s at_a at_b =
    let same : fault a r ≡ fault b s = cc (sym (at_fault kind rule bs a r at_a) ∙ at_fault kind rule bs b s at_b) in
    (ap (λ (x : Refusal). x.place) same, ap (λ (x : Refusal). x.reason) same)

-- ---- said of other words for what it is to be a right block, and a time in form

module _ (Right Other : Form → Entry → Type 0) (to : (form : Form) (e : Entry) → Right form e → Other form e) where
  pub each_other : (form : Form) (es : List Entry) → Each (Right form) es → Each (Other form) es
  each_other form [] all = tt
  each_other form (e ∷ es) all = (to form e all.0, each_other form es all.1)

  begins_other : {kind : ℕ} {bs : List ℕ} {form : Form} {asked : Asked} {es : List Entry} {rest : List ℕ}
      → Begins kind Right bs form asked es rest → Begins kind Other bs form asked es rest
  begins_other {form = form} {es = es} b = record { long = b.long; word = b.word; is = b.is; right = each_other form es b.right }

breaks_other : (InForm Other : ℕ → Type 0) → ((t : ℕ) → Other t → InForm t) → (form : Form) (rest : List ℕ) (reason : ℕ)
    → Breaks InForm form rest reason → Breaks Other form rest reason
breaks_other InForm Other from form rest reason (head_cut begun short) = head_cut begun short
breaks_other InForm Other from form rest reason (bytes_cut head short) = bytes_cut head short
breaks_other InForm Other from form rest reason (time_out is there out) = time_out is there (λ t. out (from (field rest 0 8) t))
breaks_other InForm Other from form rest reason (length_zero head z) = length_zero head z
breaks_other InForm Other from form rest reason (pad_not_zero odd there other) = pad_not_zero odd there other

pub fault_other : (Right Other : Form → Entry → Type 0) → ((form : Form) (e : Entry) → Right form e → Other form e)
    → (InForm Timed : ℕ → Type 0) → ((t : ℕ) → InForm t ↔ Timed t)
    → (kind : ℕ) (bs : List ℕ) (a reason : ℕ) → AtFault kind Right InForm bs a reason → AtFault kind Other Timed bs a reason
fault_other Right Other to InForm Timed same kind bs a reason (no_word o short) = no_word o short
fault_other Right Other to InForm Timed same kind bs a reason (wrong_word o long none) = wrong_word o long none
fault_other Right Other to InForm Timed same kind bs a reason (block {form} {asked} {es} {rest} b due lowest) =
    block (begins_other Right Other to b) due (
      breaks_other InForm Timed (λ t. (same t).1) form rest reason lowest.0,
      λ lower less broken. lowest.1 lower less (breaks_other Timed InForm (λ t. (same t).0) form rest lower broken),
    )
fault_other Right Other to InForm Timed same kind bs a reason (over b n more) = over (begins_other Right Other to b) n more
fault_other Right Other to InForm Timed same kind bs a reason (missing b due) = missing (begins_other Right Other to b) due
