-- The builder's steps answer as document 01 says, and leave in their buffer what it says: each of the builder's tests says what its words say.
use Rattle.std.specs.Prelude.{Result, Ok}
use mathlib.Core.Path.{◌≡◌, refl, sym, ap, ◌∙◌}
use mathlib.Core.List.{List, [], ◌∷◌, ◌++◌, append_assoc}
use mathlib.Core.Bool.{Bool, true, false, ◌&&◌, ◌||◌}
use mathlib.Core.Logic.{◌⊎◌, inl, inr, ⊎_elim, ◌≢◌}
use Prim.Native.Nat.{ℕ, zero, suc, ◌+◌, ◌*◌, ◌/◌, ◌%◌, ◌^◌, ◌≤◌, ◌<◌}
use native.Mathlib.Omega.{arith}
use lib.ListN.{length, take, drop, replicate}
use lib.Dec.{ltb, leb, eqb}
use borrow.Author.Tests.{eqb-true, eq-eqb, ne_eqb, ltb-true, lt-ltb, le-ltb, lt-leb}
use Rattle.units.specs.Units.{bytes_of, splice}
use Rattle.units.specs.Choice.{pick}
use Rattle.units.proofs.Numbers.{bytes_of_add, bytes_of_mod}
use Rattle.units.proofs.Writes.{splice_none}
use Rattle.units.proofs.Choices.{or_true, and_true}
use Rattle.terms.specs.Times.{time_ok, rule_of}
use Rattle.body.specs.Walk.{stamp_length}
use Rattle.body.specs.Blocks.{block_bytes}
use Rattle.body.proofs.Blocks.{length_block_bytes}
use Rattle.body.specs.declared.Form.TheVariants.{Stamped, Plain}
use Rattle.builder.specs.Build.{stamped, form_of, counts, makes, bad_draft, open_step, open_word, bad_block, bad_time, stray_time, grown, draft_added, add_step, entry_of, close_step, counter_bytes, buf_after, step_told}
use Rattle.builder.specs.declared.Draft.{Draft}
use Rattle.builder.proofs.Drafts.{draft_facts, draft_good, block_facts}
use Rattle.promises.specs.Calls.{Open, Add, Close}
use Rattle.promises.specs.Words.{pad}
use Rattle.promises.specs.Building.{Opens, SoundDraft, Takes, InForm, grown_to, Fitting, block_of, Building}
use Rattle.promises.proofs.NumbersKept.{counter_exactly, time_exactly}
use Rattle.terms.specs.declared.Refusal.{Refusal}

-- ---- a test by what it says: from the test to document 01's words (says), and back (made)

-- false says A: where A does not hold, the test is true; and the same with true
refuted : {A : Type 0} (t : Bool) → (t ≡ false → A) → ¬ A → t ≡ true
refuted true f n = refl
refuted false f n = absurd (n (f refl))

unmet : {A : Type 0} (t : Bool) → (t ≡ true → A) → ¬ A → t ≡ false
unmet true f n = absurd (n (f refl))
unmet false f n = refl

-- what opening takes
makes_says : (kind rule : ℕ) → makes kind rule ≡ true → Opens kind rule
makes_says kind rule t =
    let message = eqb kind 0x30 && stamped rule in
    let o = and_true (message || eqb kind 0x50) (ltb rule 5) t in
    let most = ltb-true rule 5 o.1 in
    ⊎_elim
    (λ h. let p = and_true (eqb kind 0x30) (stamped rule) h in inl (eqb-true kind 0x30 p.0, ltb-true 0 rule p.1, omega arith))
    (λ h. inr (eqb-true kind 0x50 h, omega arith))
    (or_true message (eqb kind 0x50) o.0)

makes_made : (kind rule : ℕ) → Opens kind rule → makes kind rule ≡ true
makes_made kind rule (inl (k, some, few)) = rw (k, lt-ltb 0 rule some, lt-ltb rule 5 (omega arith))
makes_made kind rule (inr (k, few)) = rw (k, lt-ltb rule 5 (omega arith))

-- the types whose blocks are counted
counts_says : (kind : ℕ) → counts kind ≡ true → kind ≡ 0x30
counts_says kind = eqb-true kind 0x30

counts_made : (kind : ℕ) → kind ≡ 0x30 → counts kind ≡ true
counts_made kind = eq-eqb kind 0x30

-- 1
draft_says : (d : Draft) (len : ℕ) → bad_draft d len ≡ false → SoundDraft d len
draft_says d len e =
    let o = draft_facts d len e in
    record { within = o.0; word = o.1; opens = makes_says d.kind d.rule o.2; few = λ k. o.3 (counts_made d.kind k) }

draft_made : (d : Draft) (len : ℕ) → SoundDraft d len → bad_draft d len ≡ false
draft_made d len s = draft_good d len s.within s.word (makes_made d.kind d.rule s.opens) (λ t. s.few (counts_says d.kind t))

-- 17
block_says : (d : Draft) (n : ℕ) → bad_block d n ≡ false → Takes d n
block_says d n e =
    let o = block_facts d n e in
    record { some = o.0; most = omega (arith, o.1); few = λ k. o.2 (counts_made d.kind k) }

block_made : (d : Draft) (n : ℕ) → Takes d n → bad_block d n ≡ false
block_made d n t = rw (ne_eqb n 0 (λ z. omega (arith, t.some)), le-ltb 65535 n t.most) (go (counts d.kind) refl)
  where
    go : (b : Bool) → counts d.kind ≡ b → (b && leb 65535 d.blocks) ≡ false
    go true e = lt-leb 65535 d.blocks (t.few (counts_says d.kind e))
    go false e = refl

-- 15
form_says : (rule time : ℕ) → time_ok (rule_of rule) time ≡ true → InForm rule time
form_says rule time t =
    record { counter = λ e. (counter_exactly time).0 (rw e at t); absolute = λ code e. (time_exactly code time).0 (rw e at t) }

form_made : (rule time : ℕ) → InForm rule time → time_ok (rule_of rule) time ≡ true
unfolding time_ok rule_of
form_made zero time f = refl
form_made (suc zero) time f = (counter_exactly time).1 (f.counter refl)
form_made (suc (suc code)) time f = let e : suc (suc code) ≡ 2 + code = omega arith in rw e ((time_exactly code time).1 (f.absolute code e))

time_passes : (rule time : ℕ) → InForm rule time → bad_time rule time ≡ false
time_passes rule time f = rw (form_made rule time f) (go (stamped rule))
  where
    go : (b : Bool) → (b && false) ≡ false
    go true = refl
    go false = refl

time_broken : (rule time : ℕ) → 0 < rule → ¬ InForm rule time → bad_time rule time ≡ true
time_broken rule time some n = rw (lt-ltb 0 rule some, unmet (time_ok (rule_of rule) time) (form_says rule time) n)

-- 17 for a time where none is stored
stray_passes : (rule time : ℕ) → (rule ≡ 0 → time ≡ 0) → stray_time rule time ≡ false
stray_passes zero time none = rw (none refl)
stray_passes (suc rule) time none = rw (lt-ltb 0 (suc rule) (omega arith))

-- the used count with a block more
grown_is : (d : Draft) (n : ℕ) → grown d n ≡ grown_to d n
unfolding grown stamp_length
grown_is d n = ap (λ (stamp : ℕ). d.used + (stamp + 4 + n + n % 2)) (go (stamped d.rule))
  where
    go : (t : Bool) → stamp_length (pick t Stamped Plain) ≡ pick t 8 0
    go true = refl
    go false = refl

-- ---- the steps

-- where no refusal applies
opens_done : (d : Draft) (kind rule len : ℕ) → Opens kind rule → 4 ≤ len → open_step d kind rule len ≡ Ok (record { used = 4; blocks = 0; kind = kind; rule = rule })
unfolding open_step
opens_done d kind rule len o room = rw (makes_made kind rule o, le-ltb len 4 room)

adds_done : (d : Draft) (len time n : ℕ) → Fitting d len time n
    → add_step d len time n ≡ Ok (record { used = grown_to d n; blocks = (d.blocks + 1) % 2 ^ 64; kind = d.kind; rule = d.rule })
unfolding add_step draft_added
adds_done d len time n f =
    rw (
      draft_made d len f.sound,
      block_made d n f.takes,
      time_passes d.rule time f.in_form,
      stray_passes d.rule time f.stored,
      grown_is d n,
      le-ltb len (grown_to d n) f.room,
    )

closes_done : (d : Draft) (len : ℕ) → SoundDraft d len → d.used ≢ 4 → close_step d len ≡ Ok d
unfolding close_step
closes_done d len s other = rw (draft_made d len s, ne_eqb d.used 4 other)

-- ---- and their bytes

-- a buffer after a step that is done
put : (x r : Result Draft (Refusal × Draft)) (d : Draft) (old : List ℕ) (at : ℕ) (vs new : List ℕ) → r ≡ x → x ≡ Ok d → new ≡ buf_after r old at vs → new ≡ splice old at vs
unfolding buf_after
put x r d old at vs new is done after = after ∙ ap (λ (y : Result Draft (Refusal × Draft)). buf_after y old at vs) (is ∙ done)

open_bytes : (d : Draft) (buf₀ : List ℕ) (kind rule : ℕ) (r : Result Draft (Refusal × Draft)) (buf₁ : List ℕ) → Open d buf₀ kind rule r buf₁ → Opens kind rule → 4 ≤ length buf₀
    → ((kind ≡ 0x50) × (1 ≤ rule) → buf₁ ≡ 0x00 ∷ 0x00 ∷ 0x00 ∷ 0x80 ∷ drop 4 buf₀)
    × ((kind ≡ 0x30) ⊎ (rule ≡ 0) → buf₁ ≡ 0x00 ∷ 0x00 ∷ 0x00 ∷ 0x00 ∷ drop 4 buf₀)
unfolding bytes_of
open_bytes d buf₀ kind rule r buf₁ (is, after) o room = (
  λ (k, some). there ∙ ap (λ (w : ℕ). splice buf₀ 0 (bytes_of 4 w)) (high k some),
  λ h. there ∙ ap (λ (w : ℕ). splice buf₀ 0 (bytes_of 4 w)) (low h),
)
  where
    there : buf₁ ≡ splice buf₀ 0 (bytes_of 4 (open_word kind rule))
    there = put _ r _ buf₀ 0 _ buf₁ is (opens_done d kind rule (length buf₀) o room) after

    high : kind ≡ 0x50 → 1 ≤ rule → open_word kind rule ≡ 2 ^ 31
    high k some = rw (k, lt-ltb 0 rule some)

    none : (b : Bool) → pick (b && false) (2 ^ 31) 0 ≡ 0
    none true = refl
    none false = refl

    low : (kind ≡ 0x30) ⊎ (rule ≡ 0) → open_word kind rule ≡ 0
    low (inl k) = rw k
    low (inr z) = rw z (none (eqb kind 0x50))

-- the ID word's halves, low byte first
halves : (upper n : ℕ) → n ≤ 65535 → bytes_of 4 (upper * 2 ^ 16 + n) ≡ bytes_of 2 n ++ bytes_of 2 upper
halves upper n short =
    let id = upper * 2 ^ 16 + n in
    let low : id % 256 ^ 2 ≡ n = omega arith in
    let high : id / 256 ^ 2 ≡ upper = omega arith in
    bytes_of_add 2 2 id
    ∙ ap (λ (l : List ℕ). l ++ bytes_of 2 (id / 256 ^ 2)) (sym (bytes_of_mod 2 id) ∙ ap (bytes_of 2) low)
    ∙ ap (λ (v : ℕ). bytes_of 2 n ++ bytes_of 2 v) high

block_is : (d : Draft) (time upper : ℕ) (bytes : List ℕ) → length bytes ≤ 65535 → block_bytes (form_of d) (entry_of time upper bytes) ≡ block_of d time upper bytes
unfolding block_bytes stamp_length bytes_of
block_is d time upper bytes short =
    rw (halves upper (length bytes) short) (go (stamped d.rule))
  where
    go : (t : Bool)
        → bytes_of (stamp_length (pick t Stamped Plain)) time ++ (bytes_of 2 (length bytes) ++ bytes_of 2 upper) ++ bytes ++ replicate (length bytes % 2) 0
        ≡ pick t (bytes_of 8 time) [] ++ (bytes_of 2 (length bytes) ++ (bytes_of 2 upper ++ (bytes ++ pad (length bytes))))
    go true = simp append_assoc
    go false = simp append_assoc

add_bytes : (d : Draft) (buf₀ : List ℕ) (time upper : ℕ) (bytes : List ℕ) (r : Result Draft (Refusal × Draft)) (buf₁ : List ℕ) → Add d buf₀ time upper bytes r buf₁
    → Fitting d (length buf₀) time (length bytes)
    → buf₁ ≡ take d.used buf₀ ++ (block_of d time upper bytes ++ drop (grown_to d (length bytes)) buf₀)
unfolding grown
add_bytes d buf₀ time upper bytes r buf₁ (is, after) f =
    let b = block_bytes (form_of d) (entry_of time upper bytes) in
    let there : buf₁ ≡ splice buf₀ d.used b = put _ r _ buf₀ d.used b buf₁ is (adds_done d (length buf₀) time (length bytes) f) after in
    let long : d.used + length b ≡ grown_to d (length bytes) = ap (λ (n : ℕ). d.used + n) (length_block_bytes (form_of d) (entry_of time upper bytes)) ∙ grown_is d (length bytes) in
    there
    ∙ append_assoc (take d.used buf₀) b (drop (d.used + length b) buf₀)
    ∙ ap (λ (n : ℕ). take d.used buf₀ ++ (b ++ drop n buf₀)) long
    ∙ ap (λ (x : List ℕ). take d.used buf₀ ++ (x ++ drop (grown_to d (length bytes)) buf₀)) (block_is d time upper bytes f.takes.most)

close_bytes : (d : Draft) (buf₀ : List ℕ) (r : Result Draft (Refusal × Draft)) (buf₁ : List ℕ) → Close d buf₀ r buf₁ → SoundDraft d (length buf₀) → d.used ≢ 4
    → (d.kind ≡ 0x30 → buf₁ ≡ d.blocks % 256 ∷ d.blocks / 256 ∷ drop 2 buf₀)
    × (d.kind ≡ 0x50 → buf₁ ≡ buf₀)
unfolding bytes_of
close_bytes d buf₀ r buf₁ (is, after) s other = (
  λ k.
      let high : d.blocks / 256 % 256 ≡ d.blocks / 256 = omega (arith, s.few k) in
      there ∙ ap (splice buf₀ 0) (counted k) ∙ ap (λ (x : ℕ). d.blocks % 256 ∷ x ∷ drop 2 buf₀) high,
  λ k. there ∙ ap (splice buf₀ 0) (uncounted k) ∙ splice_none buf₀ 0,
)
  where
    there : buf₁ ≡ splice buf₀ 0 (counter_bytes d)
    there = put _ r d buf₀ 0 _ buf₁ is (closes_done d (length buf₀) s other) after

    counted : d.kind ≡ 0x30 → counter_bytes d ≡ bytes_of 2 d.blocks
    counted k = rw k

    uncounted : d.kind ≡ 0x50 → counter_bytes d ≡ []
    uncounted k = rw k

pub building : Building
unfolding open_step add_step close_step
building =
    record {
      open_17 = λ d kind rule len n. rw (unmet (makes kind rule) (makes_says kind rule) n);
      open_16 = λ d kind rule len o short. rw (makes_made kind rule o, lt-ltb len 4 short);
      opens = λ d kind rule len o room. ap step_told (opens_done d kind rule len o room);
      add_1 = λ d len time n u. rw (refuted (bad_draft d len) (draft_says d len) u);
      add_17 = λ d len time n s u. rw (draft_made d len s, refuted (bad_block d n) (block_says d n) u);
      add_15 = λ d len time n s t some u. rw (draft_made d len s, block_made d n t, time_broken d.rule time some u);
      add_stray = λ d len time n s t none stray. rw (draft_made d len s, block_made d n t, none, ne_eqb time 0 stray);
      add_16 =
          λ d len time n s t f none short.
          rw (draft_made d len s, block_made d n t, time_passes d.rule time f, stray_passes d.rule time none, grown_is d n, lt-ltb len (grown_to d n) short);
      adds = λ d len time n f. ap step_told (adds_done d len time n f);
      close_1 = λ d len u. rw (refuted (bad_draft d len) (draft_says d len) u);
      close_15 = λ d len s e. rw (draft_made d len s, eq-eqb d.used 4 e);
      closes = λ d len s e. ap step_told (closes_done d len s e);
      open_bytes = open_bytes;
      add_bytes = add_bytes;
      close_bytes = close_bytes;
    }
