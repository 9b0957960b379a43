-- Building step by step: what is closed last is the body of the blocks added.
use Rattle.std.proofs.Common.{◌≡◌, ℕ, ◌+◌, ◌/◌, ◌%◌, ◌^◌, ◌<◌, ◌≤◌, Bool, true, false, not, ◌&&◌, ◌||◌, eqb, ltb, List, [], ◌∷◌, ◌++◌, length, take, drop, sym, refl, ap, ◌∙◌, subst, append_assoc, append-nil, arith, length-append, length-drop, take-append-drop, length-take-le, take_at, le-ltb, lt-ltb, ne_eqb, eqb-true, Some, None, Result, Ok, Err}
use lib.Arith.{digits_mod}
use lib.Seq.{drop-append-le}
use borrow.Author.Tests.{not-false}
use Rattle.units.specs.Units.{field, bytes_of, splice}
use Rattle.units.specs.Choice.{pick}
use Rattle.units.proofs.Numbers.{length_bytes_of, num_bytes_of}
use Rattle.units.proofs.Writes.{length_splice, take_splice}
use Rattle.units.proofs.Choices.{and_true}
use Rattle.terms.specs.Times.{time_ok, rule_of}
use Rattle.body.proofs.Blocks.{length_block_bytes, blocks_snoc, fit_snoc}
use Rattle.terms.proofs.Times.{zero_ok}
use Rattle.body.specs.Walk.{message_shape, uart_shape, open_body, stamp_length, length_by, Shaped}
use Rattle.body.specs.Blocks.{Entry, block_bytes, blocks_bytes, Fits, AllFit, BodyOf}
use Rattle.terms.specs.declared.TimeRule.{TimeRule}
use Rattle.body.specs.declared.Form.{Form}
use Rattle.body.specs.declared.Form.TheVariants.{Stamped}
use Rattle.builder.specs.Build.{stamped, form_by, form_of, counts, makes, open_step, open_word, grown, draft_added, add_step, entry_of, close_step, counter_bytes, buf_after, step_told, entries_after}
use Rattle.builder.specs.Run.{Built, closed_body}
use Rattle.builder.specs.declared.Draft.{Draft}
use Rattle.builder.proofs.Drafts.{draft_facts, draft_good, block_facts, open_done, add_done, close_done, close_told, open_denied, add_denied, close_denied, buf_put}
use Rattle.terms.specs.declared.Refusal.{Refusal}

-- ---- what is added

-- a time that adding takes
time_taken : (st : Bool) (rule : TimeRule) (time : ℕ) → time < 2 ^ 64 → (st && not (time_ok rule time)) ≡ false → (not st && not (eqb time 0)) ≡ false
    → (time < 256 ^ stamp_length (form_by st)) × (time_ok rule time ≡ true)
unfolding stamp_length
time_taken true rule time wide e f = (omega arith, not-false (time_ok rule time) e)
time_taken false rule time wide e f =
    let z : time ≡ 0 = eqb-true time 0 (not-false (eqb time 0) f) in
    (omega arith, rw z (zero_ok rule))

entry_fits : (form : Form) (rule : TimeRule) (time upper : ℕ) (bytes : List ℕ) → 0 < length bytes → length bytes < 65536 → upper < 2 ^ 16
    → time < 256 ^ stamp_length form → time_ok rule time ≡ true → Fits form rule (entry_of time upper bytes)
unfolding length_by
entry_fits form rule time upper bytes more short half time_fits ok =
    record { some = more; size = sym (digits_mod upper short); word = omega arith; time_fits = time_fits; time_ok_lem = ok }

-- where no time is stored every time is 0, which is in form under any rule
refit_none : (form : Form) (rule rule' : TimeRule) (es : List Entry) → stamp_length form ≡ 0 → AllFit form rule es → AllFit form rule' es
refit_none form rule rule' [] none all = tt
refit_none form rule rule' (e ∷ es) none all =
    let f = all.0 in
    let t : e.time < 256 ^ 0 = rw none at f.time_fits in
    let z : e.time ≡ 0 = omega (arith, t) in
    (record { some = f.some; size = f.size; word = f.word; time_fits = f.time_fits; time_ok_lem = rw z (zero_ok rule') }, refit_none form rule rule' es none all.1)

refit : (st : Bool) (rule rule' : TimeRule) (es : List Entry) → (st ≡ true → rule' ≡ rule) → AllFit (form_by st) rule es → AllFit (form_by st) rule' es
unfolding stamp_length
refit true rule rule' es same all = rw (same refl) all
refit false rule rule' es same all = refit_none (form_by false) rule rule' es refl all

-- ---- the channel word

-- writing over the first bytes
front_over : (buf w rest x : List ℕ) (u : ℕ) → take u buf ≡ w ++ rest → u ≤ length buf → length x ≤ length w
    → take u (splice buf 0 x) ≡ x ++ drop (length x) w ++ rest
front_over buf w rest x u e room short =
    let D = drop u buf in
    let P = x ++ drop (length x) w ++ rest in
    let b : buf ≡ w ++ rest ++ D = sym (take-append-drop u buf) ∙ ap (λ (y : List ℕ). y ++ D) e in
    let z : 0 + length x ≡ length x = omega arith in
    let lu : length (w ++ rest) ≡ u = sym (ap length e) ∙ length-take-le u buf room in
    let f : drop (length x) buf ≡ drop (length x) w ++ (rest ++ D) =
    ap (drop (length x)) (b ∙ append_assoc w rest D) ∙ drop-append-le (length x) w (rest ++ D) short in
    let g : x ++ drop (0 + length x) buf ≡ P ++ D = rw (z, f) (simp append_assoc) in
    let lp : length P ≡ u =
    omega (arith, length-append (x ++ drop (length x) w) rest, length-append x (drop (length x) w), length-drop (length x) w, length-append w rest) in
    rw g (take_at P D u lp)

-- the counter over a word below 2 ^ 16
word_closed : (b w : ℕ) → b < 2 ^ 16 → w < 2 ^ 16 → bytes_of 2 b ++ drop (length (bytes_of 2 b)) (bytes_of 4 w) ≡ bytes_of 4 b
unfolding bytes_of
word_closed b w hb hw =
    let z : b / 256 / 256 ≡ 0 = omega arith in
    let y : w / 256 / 256 ≡ 0 = omega arith in
    simp (z, y)

-- ---- bodies from their bytes

-- bytes that start with the word w
module _ (bs rest : List ℕ) (w : ℕ) (e : bs ≡ bytes_of 4 w ++ rest) where
  word_front : bs ≡ take 4 bs ++ rest
  word_front = e ∙ ap (λ (l : List ℕ). l ++ rest) (sym (take_at (bytes_of 4 w) rest 4 (length_bytes_of 4 w)) ∙ ap (take 4) (sym e))

  word_long : ltb (length bs) 4 ≡ false
  word_long = le-ltb (length bs) 4 (omega (arith, ap length e, length-append (bytes_of 4 w) rest, length_bytes_of 4 w))

  word_read : w < 2 ^ 32 → field bs 0 4 ≡ w
  word_read h = rw (e, take_at (bytes_of 4 w) rest 4 (length_bytes_of 4 w)) (num_bytes_of 4 w h)

  message_opened_lem : (rule : TimeRule) (form : Form) → form ≡ Stamped → 0 < w → w < 2 ^ 16
      → open_body 0x30 rule bs ≡ Shaped (record { form = form; count = Some w; rule = rule })
  unfolding open_body message_shape
  message_opened_lem rule form stored more few =
      let kind : w / 2 ^ 16 ≡ 0 = omega arith in
      let counter : w % 2 ^ 16 ≡ w = omega arith in
      simp (word_long, word_read (omega arith), kind, counter, lt-ltb w (2 ^ 18) (omega arith), lt-ltb 0 w more, lt-ltb w (2 ^ 16) few, stored)

  uart_opened : (rule : TimeRule) (st : Bool) → w ≡ pick st (2 ^ 31) 0
      → open_body 0x50 rule bs ≡ Shaped (record { form = form_by st; count = None; rule = rule })
  unfolding open_body uart_shape
  uart_opened rule true is = simp (word_long, word_read (omega arith), is)
  uart_opened rule false is = simp (word_long, word_read (omega arith), is)

-- blocks behind the word w
module _ (rule : TimeRule) (bs : List ℕ) (es : List Entry) (w : ℕ) (form : Form) (e : bs ≡ bytes_of 4 w ++ blocks_bytes form es)
    (more : 0 < length es) (fit : AllFit form rule es) where
  -- where the word counts the blocks
  counted_body : (kind : ℕ) → open_body kind rule bs ≡ Shaped (record { form = form; count = Some w; rule = rule }) → w ≡ length es
      → BodyOf kind rule bs es
  counted_body kind opened counter =
      record {
        shape = record { form = form; count = Some w; rule = rule };
        opened = opened;
        counted = λ n e. let same : w ≡ n = cc in omega (arith, same, counter);
        some = more;
        is = word_front bs (blocks_bytes form es) w e;
        fit = fit;
      }

  -- where the blocks go to the end
  open_ended_body : (kind : ℕ) → open_body kind rule bs ≡ Shaped (record { form = form; count = None; rule = rule }) → BodyOf kind rule bs es
  open_ended_body kind opened =
      record {
        shape = record { form = form; count = None; rule = rule };
        opened = opened;
        counted = λ n e. let z : ◌≡◌ {A = ℕ} 0 1 = cc in absurd (omega arith);
        some = more;
        is = word_front bs (blocks_bytes form es) w e;
        fit = fit;
      }

-- ---- what is built so far

-- an opened body in its buffer: a channel word, and behind it the blocks added
pub record Grown (buf : List ℕ) (d : Draft) (es : List Entry) : Type 0 where
  pub made : makes d.kind d.rule ≡ true
  pub used_is : d.used ≡ 4 + length (blocks_bytes (form_of d) es)
  pub room : d.used ≤ length buf
  pub blocks_is : counts d.kind ≡ true → d.blocks ≡ length es
  pub few : counts d.kind ≡ true → d.blocks ≤ 65535
  pub word : ℕ
  pub word_short : counts d.kind ≡ true → word < 2 ^ 16
  pub word_is : counts d.kind ≡ false → word ≡ open_word d.kind d.rule
  pub bytes : take d.used buf ≡ bytes_of 4 word ++ blocks_bytes (form_of d) es
  pub fit : AllFit (form_of d) (rule_of d.rule) es

-- the word of the opening where blocks are counted
counted_word : (kind rule : ℕ) → counts kind ≡ true → open_word kind rule ≡ 0
counted_word kind rule k = rw (eqb-true kind 0x30 k)

open_grown : (buf : List ℕ) (kind rule : ℕ) → makes kind rule ≡ true → 4 ≤ length buf
    → Grown (splice buf 0 (bytes_of 4 (open_word kind rule))) (record { used = 4; blocks = 0; kind = kind; rule = rule }) []
unfolding blocks_bytes
open_grown buf kind rule made long =
    let w = bytes_of 4 (open_word kind rule) in
    let l : length w ≡ 4 = length_bytes_of 4 (open_word kind rule) in
    let t : take (0 + length w) (splice buf 0 w) ≡ w = take_splice buf 0 w (omega arith) in
    let z : 0 + length w ≡ 4 = omega arith in
    record {
      made = made;
      used_is = refl;
      room = omega (arith, length_splice buf 0 w (omega arith));
      blocks_is = λ _. refl;
      few = λ _. omega arith;
      word = open_word kind rule;
      word_short = λ k. omega (arith, counted_word kind rule k);
      word_is = λ _. refl;
      bytes = ap (λ (n : ℕ). take n (splice buf 0 w)) (sym z) ∙ t ∙ sym (append-nil w);
      fit = tt;
    }

add_grown : (buf : List ℕ) (d : Draft) (es : List Entry) (e : Entry) → Grown buf d es → Fits (form_of d) (rule_of d.rule) e
    → grown d (length e.bytes) ≤ length buf → (counts d.kind ≡ true → d.blocks < 65535)
    → Grown (splice buf d.used (block_bytes (form_of d) e)) (draft_added d (length e.bytes)) (es ++ (e ∷ []))
unfolding draft_added grown
add_grown buf d es e g ok fits few =
    let st = form_of d in
    let B = block_bytes st e in
    let n = length e.bytes in
    let s = stamp_length st + 4 + n + n % 2 in
    let w = bytes_of 4 g.word in
    let l : length B ≡ s = length_block_bytes st e in
    let f : d.used + length B ≤ length buf = omega arith in
    let t = take_splice buf d.used B f in
    let more : blocks_bytes st (es ++ (e ∷ [])) ≡ blocks_bytes st es ++ B = blocks_snoc st es e in
    record {
      made = g.made;
      used_is = omega (arith, g.used_is, ap length more, length-append (blocks_bytes st es) B);
      room = omega (arith, length_splice buf d.used B f);
      blocks_is = λ k. omega (arith, g.blocks_is k, few k, length-append es (e ∷ []));
      few = λ k. omega (arith, few k);
      word = g.word;
      word_short = g.word_short;
      word_is = g.word_is;
      bytes = ap (λ (k : ℕ). take (d.used + k) (splice buf d.used B)) (sym l) ∙ t ∙ ap (λ (y : List ℕ). y ++ B) g.bytes
          ∙ append_assoc w (blocks_bytes st es) B ∙ ap (λ (y : List ℕ). w ++ y) (sym more);
      fit = fit_snoc st (rule_of d.rule) es e g.fit ok;
    }

-- the counter where blocks are counted, else the word of the opening
abbrev closed_word : Draft → ℕ → ℕ
closed_word d w = pick (counts d.kind) d.blocks w

closed_bytes : (buf : List ℕ) (d : Draft) (es : List Entry) (g : Grown buf d es)
    → take d.used (splice buf 0 (counter_bytes d)) ≡ bytes_of 4 (closed_word d g.word) ++ blocks_bytes (form_of d) es
closed_bytes buf d es g = go (counts d.kind) refl
  where
    go : (t : Bool) → counts d.kind ≡ t → take d.used (splice buf 0 (pick t (bytes_of 2 d.blocks) []))
        ≡ bytes_of 4 (pick t d.blocks g.word) ++ blocks_bytes (form_of d) es
    go true k =
        front_over buf (bytes_of 4 g.word) (blocks_bytes (form_of d) es) (bytes_of 2 d.blocks) d.used g.bytes g.room
        (omega (arith, length_bytes_of 2 d.blocks, length_bytes_of 4 g.word))
        ∙ ap (λ (l : List ℕ). l ++ blocks_bytes (form_of d) es) (word_closed d.blocks g.word (omega (arith, g.few k)) (g.word_short k))
    go false t = front_over buf (bytes_of 4 g.word) (blocks_bytes (form_of d) es) [] d.used g.bytes g.room (omega arith)

counter_short : (d : Draft) → length (counter_bytes d) ≤ 2
counter_short d = go (counts d.kind)
  where
    go : (t : Bool) → length (pick t (bytes_of 2 d.blocks) []) ≤ 2
    go true = omega (arith, length_bytes_of 2 d.blocks)
    go false = omega arith

close_grown : (buf : List ℕ) (d : Draft) (es : List Entry) → Grown buf d es → Grown (splice buf 0 (counter_bytes d)) d es
close_grown buf d es g =
    let fits : 0 + length (counter_bytes d) ≤ length buf = omega (arith, counter_short d, g.used_is, g.room) in
    record {
      made = g.made;
      used_is = g.used_is;
      room = rw (length_splice buf 0 (counter_bytes d) fits) g.room;
      blocks_is = g.blocks_is;
      few = g.few;
      word = closed_word d g.word;
      word_short = λ k. rw k (omega (arith, g.few k));
      word_is = λ k. rw k (g.word_is k);
      bytes = closed_bytes buf d es g;
      fit = g.fit;
    }

-- ---- every run of steps

-- a state that has its channel word stands for an opened body, and blocks are added to no other
abbrev pub Kept : List ℕ → Draft → List Entry → Type 0
Kept buf d es = (4 ≤ d.used → Grown buf d es) × (0 < length es → 4 ≤ d.used)

module _ (buf : List ℕ) (d : Draft) (es : List Entry) (kept : Kept buf d es) where
  back : (d' : Draft) → d' ≡ d → Kept buf d' es
  back d' same = subst (λ (x : Draft). Kept buf x es) (sym same) kept

  open_kept : (kind rule : ℕ) → Kept (buf_after (open_step d kind rule (length buf)) buf 0 (bytes_of 4 (open_word kind rule)))
      (step_told (open_step d kind rule (length buf))).draft (entries_after (open_step d kind rule (length buf)) [] es)
  unfolding buf_after
  open_kept kind rule = go (open_step d kind rule (length buf)) refl
    where
      vs : List ℕ
      vs = bytes_of 4 (open_word kind rule)

      go : (s : Result Draft (Refusal × Draft)) → open_step d kind rule (length buf) ≡ s → Kept (buf_after s buf 0 vs) (step_told s).draft (entries_after s [] es)
      go (Err (r, d')) e = back d' (open_denied d kind rule (length buf) r d' e)
      go (Ok d') e =
          let p = open_done d kind rule (length buf) d' e in
          ((λ _. subst (λ (x : Draft). Grown (splice buf 0 vs) x []) (sym p.2) (open_grown buf kind rule p.0 p.1)), λ h. absurd (omega arith))

  add_kept : (time upper : ℕ) (bytes : List ℕ) → time < 2 ^ 64 → upper < 2 ^ 16
      → Kept (buf_after (add_step d (length buf) time (length bytes)) buf d.used (block_bytes (form_of d) (entry_of time upper bytes)))
      (step_told (add_step d (length buf) time (length bytes))).draft
      (entries_after (add_step d (length buf) time (length bytes)) (es ++ (entry_of time upper bytes ∷ [])) es)
  unfolding buf_after
  add_kept time upper bytes wide half = go (add_step d (length buf) time (length bytes)) refl
    where
      entry : Entry
      entry = entry_of time upper bytes

      vs : List ℕ
      vs = block_bytes (form_of d) entry

      go : (s : Result Draft (Refusal × Draft)) → add_step d (length buf) time (length bytes) ≡ s → Kept (buf_after s buf d.used vs) (step_told s).draft (entries_after s (es ++ (entry ∷ [])) es)
      go (Err (r, d')) e = back d' (add_denied d (length buf) time (length bytes) r d' e)
      go (Ok d') e =
          let p = add_done d (length buf) time (length bytes) d' e in
          let f = draft_facts d (length buf) p.0 in
          let n = block_facts d (length bytes) p.1 in
          let t = time_taken (stamped d.rule) (rule_of d.rule) time wide p.2 p.3 in
          let ok = entry_fits (form_of d) (rule_of d.rule) time upper bytes n.0 n.1 half t.0 t.1 in
          let g = add_grown buf d es entry (kept.0 f.1) ok p.4 n.2 in
          ((λ _. subst (λ (x : Draft). Grown (splice buf d.used vs) x (es ++ (entry ∷ []))) (sym p.5) g), λ _. rw p.5 (omega (arith, g.used_is)))

  close_kept : Kept (buf_after (close_step d (length buf)) buf 0 (counter_bytes d)) (step_told (close_step d (length buf))).draft es
  unfolding buf_after
  close_kept = go (close_step d (length buf)) refl
    where
      go : (s : Result Draft (Refusal × Draft)) → close_step d (length buf) ≡ s → Kept (buf_after s buf 0 (counter_bytes d)) (step_told s).draft es
      go (Err (r, d')) e = back d' (close_denied d (length buf) r d' e)
      go (Ok d') e =
          let p = close_done d (length buf) d' e in
          let f = draft_facts d (length buf) p.0 in
          ((λ _. subst (λ (x : Draft). Grown (splice buf 0 (counter_bytes d)) x es) (sym p.2) (close_grown buf d es (kept.0 f.1))), λ h. rw p.2 (kept.1 h))

pub built_kept : {buf : List ℕ} {d : Draft} {es : List Entry} → Built buf d es → Kept buf d es
built_kept (Built.fresh buf) = ((λ used. absurd (omega arith)), λ h. absurd (omega arith))
built_kept (Built.opened {buf} {d} {es} kind rule b) = open_kept buf d es (built_kept b) kind rule
built_kept (Built.added {buf} {d} {es} time upper bytes wide half b) = add_kept buf d es (built_kept b) time upper bytes wide half
built_kept (Built.closed {buf} {d} {es} b) = close_kept buf d es (built_kept b)

-- ---- the body

some_blocks : (form : Form) (es : List Entry) → (4 + length (blocks_bytes form es) ≡ 4 → ⊥) → 0 < length es
unfolding blocks_bytes
some_blocks form [] h = absurd (h refl)
some_blocks form (e ∷ es) h = omega arith

or_none : (b : Bool) → (b || false) ≡ true → b ≡ true
or_none true e = refl
or_none false e = e

made_message : (kind rule : ℕ) → makes kind rule ≡ true → kind ≡ 0x30 → stamped rule ≡ true
made_message kind rule made k = or_none (ltb 0 rule) (and_true (ltb 0 rule || false) (ltb rule 5) (rw k at made)).0

made_uart : (kind rule : ℕ) → makes kind rule ≡ true → counts kind ≡ false → kind ≡ 0x50
made_uart kind rule made k = eqb-true kind 0x50 (and_true (eqb kind 0x50) (ltb rule 5) (rw k at made)).0

uart_word : (kind rule : ℕ) → kind ≡ 0x50 → open_word kind rule ≡ pick (stamped rule) (2 ^ 31) 0
uart_word kind rule k = rw k

grown_body : (buf : List ℕ) (d : Draft) (es : List Entry) (rule : TimeRule) → Grown buf d es → (d.used ≡ 4 → ⊥)
    → (stamped d.rule ≡ true → rule ≡ rule_of d.rule) → BodyOf d.kind rule (take d.used (splice buf 0 (counter_bytes d))) es
grown_body buf d es rule g more same = go (counts d.kind) refl
  where
    st : Bool
    st = stamped d.rule

    bs : List ℕ
    bs = take d.used (splice buf 0 (counter_bytes d))

    word : ℕ
    word = closed_word d g.word

    bytes : bs ≡ bytes_of 4 word ++ blocks_bytes (form_of d) es
    bytes = closed_bytes buf d es g

    enough : 0 < length es
    enough = some_blocks (form_of d) es (λ h. more (g.used_is ∙ h))

    all : AllFit (form_of d) rule es
    all = refit st (rule_of d.rule) rule es same g.fit

    -- the word's shape where blocks are counted, by the type
    counted_opened : counts d.kind ≡ true → 0 < word → word < 2 ^ 16
        → open_body d.kind rule bs ≡ Shaped (record { form = form_of d; count = Some word; rule = rule })
    counted_opened t some few =
        let k : d.kind ≡ 0x30 = eqb-true d.kind 0x30 t in
        subst (λ (n : ℕ). open_body n rule bs ≡ Shaped (record { form = form_of d; count = Some word; rule = rule })) (sym k)
        (message_opened_lem bs (blocks_bytes (form_of d) es) word bytes rule (form_of d) (rw (made_message d.kind d.rule g.made k)) some few)

    go : (t : Bool) → counts d.kind ≡ t → BodyOf d.kind rule bs es
    go true t =
        let counter : word ≡ length es = (rw t) ∙ g.blocks_is t in
        let few : word < 2 ^ 16 = omega (arith, counter, g.blocks_is t, g.few t) in
        counted_body rule bs es word (form_of d) bytes enough all d.kind (counted_opened t (omega (arith, counter, enough)) few) counter
    go false t =
        let k : d.kind ≡ 0x50 = made_uart d.kind d.rule g.made t in
        let kept : word ≡ g.word = rw t in
        open_ended_body rule bs es word (form_of d) bytes enough all d.kind
        (subst (λ (n : ℕ). open_body n rule bs ≡ Shaped (record { form = form_of d; count = None; rule = rule })) (sym k) (uart_opened bs (blocks_bytes (form_of d) es) word bytes rule st (kept ∙ g.word_is t ∙ uart_word d.kind d.rule k)))

-- what is built step by step and closed last is the body of the blocks added, under its time rule, or any where no time is stored
pub built_body : {buf : List ℕ} {d : Draft} {es : List Entry} (rule : TimeRule) → Built buf d es → (step_told (close_step d (length buf))).refusal.number ≡ 0
    → (stamped d.rule ≡ true → rule ≡ rule_of d.rule) → BodyOf d.kind rule (closed_body buf d) es
built_body {buf} {d} {es} rule b zero same =
    let e = close_told d (length buf) zero in
    let p = close_done d (length buf) d e in
    let f = draft_facts d (length buf) p.0 in
    subst (λ (l : List ℕ). BodyOf d.kind rule (take d.used l) es) (buf_put (close_step d (length buf)) d buf 0 (counter_bytes d) e)
    (grown_body buf d es rule ((built_kept b).0 f.1) p.1 same)

-- ---- closing

some_bytes : (form : Form) (e : Entry) (es : List Entry) → 0 < length (blocks_bytes form (e ∷ es))
unfolding blocks_bytes
some_bytes form e es = omega (arith, length-append (block_bytes form e) (blocks_bytes form es), length_block_bytes form e)

-- once a block is added, closing is done
pub some_closes : {buf : List ℕ} {d : Draft} {e : Entry} {es : List Entry} → Built buf d (e ∷ es) → close_step d (length buf) ≡ Ok d
unfolding close_step
some_closes {buf} {d} {e} {es} b =
    let k = built_kept b in
    let g = k.0 (k.1 (omega arith)) in
    let more : d.used ≡ 4 → ⊥ = λ z. omega (arith, z, g.used_is, some_bytes (form_of d) e es) in
    rw (draft_good d (length buf) g.room (omega (arith, g.used_is)) g.made g.few, ne_eqb d.used 4 more)
