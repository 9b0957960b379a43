-- The walk and the blocks: what is laid out in blocks is walked, and what is walked is laid out in blocks.
use Rattle.std.specs.Prelude.{Option, Some, None, Result, Ok, Err}
use mathlib.Core.Path.{◌≡◌, refl, sym, ap, ◌∙◌, subst}
use mathlib.Core.List.{List, [], ◌∷◌, ◌++◌, append_assoc, append-nil}
use mathlib.Core.Bool.{Bool, true, false, not, ◌&&◌, and-false}
use Prim.Native.Nat.{ℕ, zero, suc, ◌+◌, ◌%◌, ◌/◌, ◌^◌, ◌≤◌, ◌<◌}
use native.Mathlib.Omega.{arith}
use native.Mathlib.Numerals.{add-one}
use native.Mathlib.Nat.{add-zero}
use lib.ListN.{length, take, get_or, replicate, length-append, length-replicate}
use lib.Seq.{append_snoc, take-add, take-length}
use lib.Dec.{ltb, leb, eqb}
use borrow.Author.Tests.{ltb-true, leb-true, leb-false, le-leb, lt-leb, lt-ltb, ne_eqb}
use Rattle.units.specs.Units.{Bytes, part, field, num, bytes_of}
use Rattle.units.specs.Choice.{pick}
use Rattle.units.proofs.Numbers.{length_bytes_of, num_bytes_of, zeros_replicate, zeros_are}
use Rattle.units.proofs.Parts.{length_part, part_at, field_lt, bytes_of_field}
use Rattle.units.proofs.Choices.{picked, passed, and_true}
use Rattle.body.specs.Walk.{uart_form, opens, counter_ok, message_shape, uart_shape, shape_by, open_body, stamp_length, length_by, head_at, block_at, stops, stop_at, walk, Opened, Carried, Shaped, Wrong}
use Rattle.body.specs.Answers.{message_of, tab}
use Rattle.body.specs.Blocks.{Entry, no_entry, block_bytes, Fits, AllFit, blocks_bytes, message_on, entry_at}
use Rattle.terms.specs.declared.TimeRule.{TimeRule}
use Rattle.body.specs.declared.Form.TheVariants.{Stamped, Plain}
use Rattle.body.specs.declared.Shape.{Shape}
use Rattle.body.specs.declared.Message.{Message}
use Rattle.body.proofs.Blocks.{length_block_bytes, blocks_snoc, fit_snoc}
use Rattle.body.proofs.Walking.{Stands, found_stands, stands_found, found_next, Walking, Counting, counting_stop, counting_next, ending_exact}
use Rattle.body.proofs.Reading.{ReadingBody, reading_end, reading_block, reading_step, walking_message, length_tab}
use Rattle.terms.specs.declared.Refusal.{Refusal}

-- the k-th block of a body of this shape
abbrev pub entry_on : Shape → List ℕ → ℕ → Entry
entry_on sh bs k = entry_at bs (message_of sh bs k)

-- ---- from blocks to a body that is accepted

module _ (sh : Shape) (bs front rest : List ℕ) (e : Entry) (is : bs ≡ front ++ (block_bytes sh.form e ++ rest)) where
  abbrev stamp_bytes : List ℕ
  stamp_bytes = bytes_of (stamp_length sh.form) e.time

  abbrev word_bytes : List ℕ
  word_bytes = bytes_of 4 e.id

  abbrev pad_bytes : List ℕ
  pad_bytes = replicate (length e.bytes % 2) 0

  split : bs ≡ front ++ (stamp_bytes ++ (word_bytes ++ (e.bytes ++ (pad_bytes ++ rest))))
  unfolding block_bytes
  split = is ∙ simp append_assoc

  bytes_there : part bs (length front + stamp_length sh.form + 4) (length e.bytes) ≡ e.bytes
  bytes_there =
      part_at bs (front ++ stamp_bytes ++ word_bytes) e.bytes (pad_bytes ++ rest) (length front + stamp_length sh.form + 4) (length e.bytes)
      (split ∙ simp append_assoc) (simp (length-append, length_bytes_of)) refl

  pub stands_there : Fits sh.form sh.rule e
      → Stands sh bs (length front) (message_on sh.form (length front) e) (length (front ++ block_bytes sh.form e))
  unfolding head_at
  stands_there ok =
      let n = length e.bytes in
      let st = stamp_length sh.form in
      let l : length (front ++ block_bytes sh.form e) ≡ length front + st + 4 + n + n % 2 =
      omega (arith, length-append front (block_bytes sh.form e), length_block_bytes sh.form e) in
      let lb : length bs ≡ length front + st + 4 + n + n % 2 + length rest =
      omega (arith, simp length-append at (ap length is), length_block_bytes sh.form e) in
      let pS : part bs (length front) st ≡ stamp_bytes =
      part_at bs front stamp_bytes (word_bytes ++ (e.bytes ++ (pad_bytes ++ rest))) (length front) st split refl (length_bytes_of st e.time) in
      let pI : part bs (length front + st) 4 ≡ word_bytes =
      part_at bs (front ++ stamp_bytes) word_bytes (e.bytes ++ (pad_bytes ++ rest)) (length front + st) 4
      (split ∙ simp append_assoc) (simp (length-append, length_bytes_of)) (length_bytes_of 4 e.id) in
      let pZ : part bs (length front + st + 4 + n) (n % 2) ≡ pad_bytes =
      part_at bs (front ++ stamp_bytes ++ word_bytes ++ e.bytes) pad_bytes rest (length front + st + 4 + n) (n % 2) (split ∙ simp append_assoc)
      (simp (length-append, length_bytes_of)) (length-replicate (n % 2) 0) in
      let t : field bs (length front) st ≡ e.time = ap num pS ∙ num_bytes_of st e.time ok.time_fits in
      let i : field bs (length front + st) 4 ≡ e.id = ap num pI ∙ num_bytes_of 4 e.id (omega (arith, ok.word)) in
      let s : n ≡ length_by sh.form (field bs (length front + st) 4) = rw i ok.size in
      record {
        head = omega arith;
        says = λ j. record { time = sym t j; id = sym i j; start = length front + st + 4; length = s j };
        next_is = l;
        fits = omega arith;
        time_ok_lem = ok.time_ok_lem;
        some = ok.some;
        pad = rw pZ (zeros_replicate (n % 2));
      }

shift : {A : Type 0} (f g : ℕ → A) (k n : ℕ) → f (k + 0) ≡ g 0 → ((i : ℕ) → i < n → f (k + 1 + i) ≡ g (suc i)) → (i : ℕ) → i < suc n → f (k + i) ≡ g i
shift f g k n first more zero h = first
shift f g k n first more (suc i) h = let e : k + 1 + i ≡ k + suc i = omega arith in subst (λ (j : ℕ). f j ≡ g (suc i)) e (more i (omega arith))

-- n blocks up to the end of the body, where the walk stops and not before, are counted and reported where they stand
module _ (sh : Shape) (bs : List ℕ) (n : ℕ) (stop : stop_at sh (length bs) n (length bs) ≡ true)
    (on : (k at : ℕ) → k < n → at < length bs → stop_at sh (length bs) k at ≡ false) where
  pub walk_blocks : (es : List Entry) (front : List ℕ) (k : ℕ) → k + length es ≡ n → bs ≡ front ++ blocks_bytes sh.form es
      → AllFit sh.form sh.rule es → Counting sh bs k (length front)
      → (walk sh bs ≡ Ok n)
      × (tab n (entry_on sh bs) ≡ tab k (entry_on sh bs) ++ es)
      × ((i : ℕ) → i < length es → message_of sh bs (k + i) ≡ message_on sh.form (length front + length (blocks_bytes sh.form (take i es))) (get_or es i no_entry))
  unfolding blocks_bytes tab
  walk_blocks [] front k ends is fit now =
      let e : k ≡ n = omega arith in
      let l : length front ≡ length bs = omega (arith, ap length is, length-append front []) in
      let there = subst (λ (at : ℕ). Counting sh bs k at) l now in
      let s : stop_at sh (length bs) k (length bs) ≡ true = rw e stop in (
        counting_stop sh bs k (length bs) there s ∙ ending_exact (length bs) k (length bs) refl ∙ ap Ok e,
        rw (append-nil, e),
        λ i h. absurd (omega arith),
      )
  walk_blocks (e ∷ es) front k ends is fit now =
      let block = block_bytes sh.form e in
      let m = message_on sh.form (length front) e in
      let next = length (front ++ block) in
      let f = stands_found sh bs (length front) m next (stands_there sh bs front (blocks_bytes sh.form es) e is fit.0) in
      let b = found_next sh bs (length front) m next f in
      let then = counting_next sh bs k (length front) now m next (on k (length front) (omega arith) (omega (arith, b.0, b.1))) f in
      let rest = walk_blocks es (front ++ block) (k + 1) (omega arith) (is ∙ simp append_assoc) fit.1 then in
      let there : m ≡ message_of sh bs k = walking_message sh bs k (length front) m next now.0 f in
      let here : entry_on sh bs k ≡ e = rw (← there, bytes_there sh bs front (blocks_bytes sh.form es) e is) in
      let place : ℕ → Message =
      λ i. message_on sh.form (length front + length (blocks_bytes sh.form (take i (e ∷ es)))) (get_or (e ∷ es) i no_entry) in (
        rest.0,
        rest.1 ∙ rw (add-one, tab, here) (append_snoc (tab k (entry_on sh bs)) e es),
        shift (message_of sh bs) place k (length es) (rw (add-zero, ← there) (ap (λ (at : ℕ). message_on sh.form at e) (sym (add-zero (length front)))))
            (λ i h.
            let l : length (front ++ block) + length (blocks_bytes sh.form (take i es)) ≡ length front + length (block ++ blocks_bytes sh.form (take i es)) =
            omega (arith, length-append front block, length-append block (blocks_bytes sh.form (take i es))) in
            rest.2 i h ∙ ap (λ (at : ℕ). message_on sh.form at (get_or es i no_entry)) l),
      )

-- the walk stops behind the last of n blocks, and not before
module _ (sh : Shape) (bs : List ℕ) (n : ℕ) where
  pub stop_last : ((c : ℕ) → sh.count ≡ Some c → n ≡ c) → 0 < n → stop_at sh (length bs) n (length bs) ≡ true
  unfolding stop_at
  stop_last counted pos = go sh.count counted
    where
      go : (o : Option ℕ) → ((c : ℕ) → o ≡ Some c → n ≡ c) → stops o (length bs) n (length bs) ≡ true
      go (Some c) counted = le-leb c n (omega (arith, counted c refl))
      go None counted = rw (lt-ltb 0 n pos, le-leb (length bs) (length bs) (omega arith))

  pub on_before : ((c : ℕ) → sh.count ≡ Some c → n ≤ c) → (k at : ℕ) → k < n → at < length bs → stop_at sh (length bs) k at ≡ false
  unfolding stop_at
  on_before counted k at h l = go sh.count counted
    where
      go : (o : Option ℕ) → ((c : ℕ) → o ≡ Some c → n ≤ c) → stops o (length bs) k at ≡ false
      go (Some c) counted = lt-leb c k (omega (arith, counted c refl))
      go None counted = rw (lt-leb (length bs) at l) (and-false (ltb 0 k))

-- ---- from a body that is accepted to blocks

module _ (sh : Shape) (bs : List ℕ) (at : ℕ) (m : Message) (next : ℕ) (raw : Bytes bs) (found : block_at sh bs at ≡ Ok (m, next)) where
  -- a block that is found is the bytes of what it reports
  pub found_is : take next bs ≡ take at bs ++ block_bytes sh.form (entry_at bs m)
  unfolding head_at block_bytes
  found_is =
      let s = found_stands sh bs at m next found in
      let st = stamp_length sh.form in
      let n = m.length in
      let t : m.time ≡ field bs at st = ap (λ (x : Message). x.time) s.says in
      let i : m.id ≡ field bs (at + st) 4 = ap (λ (x : Message). x.id) s.says in
      let b : m.start ≡ at + st + 4 = ap (λ (x : Message). x.start) s.says in
      let e : next ≡ at + st + 4 + n + n % 2 = omega (arith, s.next_is) in
      let fits : next ≤ length bs = s.fits in
      let pS : bytes_of st m.time ≡ part bs at st = rw t (bytes_of_field bs at st raw (omega arith)) in
      let pI : bytes_of 4 m.id ≡ part bs (at + st) 4 = rw i (bytes_of_field bs (at + st) 4 raw (omega arith)) in
      let lB : length (part bs m.start n) ≡ n = length_part bs m.start n (omega arith) in
      let lZ : length (part bs (m.start + n) (n % 2)) ≡ n % 2 = length_part bs (m.start + n) (n % 2) (omega arith) in
      let pZ : part bs (m.start + n) (n % 2) ≡ replicate (n % 2) 0 = rw lZ at (zeros_are (part bs (m.start + n) (n % 2)) s.pad) in
      let whole : take (at + st + 4 + n + n % 2) bs
      ≡ take at bs ++ part bs at st ++ part bs (at + st) 4 ++ part bs (at + st + 4) n ++ part bs (at + st + 4 + n) (n % 2) =
      take-add (at + st + 4 + n) (n % 2) bs
      ∙ ap (λ (l : List ℕ). l ++ part bs (at + st + 4 + n) (n % 2))
      (take-add (at + st + 4) n bs
      ∙ ap (λ (l : List ℕ). l ++ part bs (at + st + 4) n)
      (take-add (at + st) 4 bs ∙ ap (λ (l : List ℕ). l ++ part bs (at + st) 4) (take-add at st bs))) in
      rw (e, whole, lB, pS, pI, ← pZ, b) (simp append_assoc)

  pub found_fits : Fits sh.form sh.rule (entry_at bs m)
  unfolding head_at
  found_fits =
      let s = found_stands sh bs at m next found in
      let st = stamp_length sh.form in
      let t : m.time ≡ field bs at st = ap (λ (x : Message). x.time) s.says in
      let i : m.id ≡ field bs (at + st) 4 = ap (λ (x : Message). x.id) s.says in
      let n : m.length ≡ length_by sh.form (field bs (at + st) 4) = ap (λ (x : Message). x.length) s.says in
      let lB : length (part bs m.start m.length) ≡ m.length = length_part bs m.start m.length (omega (arith, s.next_is, s.fits)) in
      record {
        some = omega (arith, s.some);
        size = lB ∙ n ∙ rw i refl;
        word = rw i (omega (arith, field_lt bs (at + st) 4 raw s.head));
        time_fits = rw t (field_lt bs at st raw (omega (arith, s.head)));
        time_ok_lem = s.time_ok_lem;
      }

-- the walk has come to `at` by k blocks, and no further than it may
pub record Come (sh : Shape) (bs : List ℕ) (k at : ℕ) : Type 0 where
  pub is : take at bs ≡ take 4 bs ++ blocks_bytes sh.form (tab k (entry_on sh bs))
  pub fit : AllFit sh.form sh.rule (tab k (entry_on sh bs))
  pub within : (c : ℕ) → sh.count ≡ Some c → k ≤ c

pub come_first : (sh : Shape) (bs : List ℕ) → Come sh bs 0 4
unfolding blocks_bytes tab
come_first sh bs = record { is = sym (append-nil (take 4 bs)); fit = tt; within = λ c e. omega arith }

pub come_next : (sh : Shape) (bs : List ℕ) (k at : ℕ) (m : Message) (next : ℕ) → Bytes bs → Walking sh bs k at → stop_at sh (length bs) k at ≡ false
    → block_at sh bs at ≡ Ok (m, next) → Come sh bs k at → Come sh bs (k + 1) next
unfolding tab stop_at
come_next sh bs k at m next raw there on found come =
    let e : entry_on sh bs k ≡ entry_at bs m = ap (entry_at bs) (sym (walking_message sh bs k at m next there found)) in
    record {
      is =
          rw (add-one, tab, blocks_snoc sh.form (tab k (entry_on sh bs)) (entry_on sh bs k), e)
          (found_is sh bs at m next raw found ∙ ap (λ (l : List ℕ). l ++ block_bytes sh.form (entry_at bs m)) come.is
          ∙ append_assoc (take 4 bs) (blocks_bytes sh.form (tab k (entry_on sh bs))) (block_bytes sh.form (entry_at bs m)));
      fit =
          rw (add-one, tab, e) (fit_snoc sh.form sh.rule (tab k (entry_on sh bs)) (entry_at bs m) come.fit (found_fits sh bs at m next raw found));
      within = λ c e. omega (arith, leb-false c k (rw e at on));
    }

-- where the walk stops at least one block is read, and no fewer than are counted
pub stop_some : (sh : Shape) (len k at : ℕ) → stop_at sh len k at ≡ true → ((c : ℕ) → sh.count ≡ Some c → 0 < c)
    → ((c : ℕ) → sh.count ≡ Some c → c ≤ k) × (0 < k)
unfolding stop_at
stop_some sh len k at s least = go sh.count s least
  where
    go : (o : Option ℕ) → stops o len k at ≡ true → ((c : ℕ) → o ≡ Some c → 0 < c) → ((c : ℕ) → o ≡ Some c → c ≤ k) × (0 < k)
    go (Some n) s least =
        let l : n ≤ k = leb-true n k s in
        ((λ c e. let same : n ≡ c = cc in omega arith), omega (arith, least n refl))
    go None s least =
        ((λ c e. let z : ◌≡◌ {A = ℕ} 0 1 = cc in absurd (omega arith)), ltb-true 0 k (and_true (ltb 0 k) (leb len at) s).0)

-- a body of this shape that holds exactly these blocks
pub record HoldsBlocks (sh : Shape) (bs : List ℕ) (es : List Entry) : Type 0 where
  pub counted : (c : ℕ) → sh.count ≡ Some c → length es ≡ c
  pub some : 0 < length es
  pub is : bs ≡ take 4 bs ++ blocks_bytes sh.form es
  pub fit : AllFit sh.form sh.rule es

module _ (sh : Shape) (bs : List ℕ) (n : ℕ) (raw : Bytes bs) (least : (c : ℕ) → sh.count ≡ Some c → 0 < c) where
  holds_last : (k at : ℕ) → ReadingBody sh bs n k at → Come sh bs k at → stop_at sh (length bs) k at ≡ true → HoldsBlocks sh bs (tab n (entry_on sh bs))
  holds_last k at now come s =
      let p = reading_end sh bs n k at now s in
      let e : k ≡ n = p.0 in
      let says = stop_some sh (length bs) k at s least in
      let l : length (tab n (entry_on sh bs)) ≡ n = length_tab n (entry_on sh bs) in
      record {
        counted = λ c q. omega (arith, l, e, says.0 c q, come.within c q);
        some = omega (arith, says.1);
        is = sym (ap (λ (j : ℕ). take j bs) p.1 ∙ take-length bs) ∙ rw (← e) come.is;
        fit = rw (← e) come.fit;
      }

  pub holds_from : (fuel k at : ℕ) → length bs < fuel + at → ReadingBody sh bs n k at → Come sh bs k at → HoldsBlocks sh bs (tab n (entry_on sh bs))
  holds_from zero k at short now come = absurd (omega arith)
  holds_from (suc fuel) k at short now come =
      go (stop_at sh (length bs) k at) refl (block_at sh bs at) refl
      (λ next h r c. holds_from fuel (k + 1) next (omega arith) r c)
    where
      go : (b : Bool) → stop_at sh (length bs) k at ≡ b → (x : Result (Message × ℕ) Refusal) → block_at sh bs at ≡ x
          → ((next : ℕ) → at < next → ReadingBody sh bs n (k + 1) next → Come sh bs (k + 1) next → HoldsBlocks sh bs (tab n (entry_on sh bs)))
          → HoldsBlocks sh bs (tab n (entry_on sh bs))
      go true s x f rest = holds_last k at now come s
      go false s (Err r) f rest = absurd (reading_block sh bs n k at now r s f)
      go false s (Ok (m, next)) f rest =
          rest next (found_next sh bs at m next f).0 (reading_step sh bs n k at now m next s f) (come_next sh bs k at m next raw now.0 s f come)

-- ---- the channel word

-- what is known of the shape that a body opens to: `message` says whether its type is 0x30, `word` is its channel word
pub record Known (message : Bool) (rule : TimeRule) (word : ℕ) (sh : Shape) : Type 0 where
  pub form_is : pick message Stamped (uart_form word) ≡ sh.form
  pub rule_is : sh.rule ≡ rule
  pub least : (c : ℕ) → sh.count ≡ Some c → 0 < c

known_message : (rule : TimeRule) (word : ℕ) (sh : Shape) → message_shape rule word ≡ Shaped sh → Known true rule word sh
unfolding message_shape
known_message rule word sh e =
    let as_is : Shape = record { form = Stamped; count = Some (pick (eqb (word / 2 ^ 16) 0) (word % 2 ^ 16) 1); rule = rule } in
    let p =
    picked (ltb word (2 ^ 18) && counter_ok (word / 2 ^ 16) (word % 2 ^ 16)) (Shaped as_is) Wrong (Shaped sh)
    (λ q. let z : ◌≡◌ {A = ℕ} 0 1 = cc in omega arith) e in
    let is : as_is ≡ sh = cc p.1 in
    let q = and_true (ltb word (2 ^ 18)) (counter_ok (word / 2 ^ 16) (word % 2 ^ 16)) p.0 in
    record { form_is = rw (← is) refl; rule_is = rw (← is) refl; least = λ c e. let n : pick (eqb (word / 2 ^ 16) 0) (word % 2 ^ 16) 1 ≡ c = cc (ap (λ (s : Shape). s.count) is, e) in rw (← n) (least (word / 2 ^ 16) (word % 2 ^ 16) q.1) }
  where
    least : (t counter : ℕ) → counter_ok t counter ≡ true → 0 < pick (eqb t 0) counter 1
    least zero zero e = let z : ◌≡◌ {A = ℕ} 0 1 = cc in absurd (omega arith)
    least zero (suc counter) e = omega arith
    least (suc t) counter e = rw (ne_eqb (suc t) 0 (λ z. omega arith)) (omega arith)

known_uart : (rule : TimeRule) (word : ℕ) (sh : Shape) → uart_shape rule word ≡ Shaped sh → Known false rule word sh
unfolding uart_shape
known_uart rule word sh e =
    let as_is : Shape = record { form = pick (leb (2 ^ 31) word) Stamped Plain; count = None; rule = rule } in
    let p = picked (eqb (word % 2 ^ 31) 0) (Shaped as_is) Wrong (Shaped sh) (λ q. let z : ◌≡◌ {A = ℕ} 0 1 = cc in omega arith) e in
    let is : as_is ≡ sh = cc p.1 in
    record { form_is = rw (← is) refl; rule_is = rw (← is) refl; least = λ c e. let z : ◌≡◌ {A = ℕ} 0 1 = cc (ap (λ (s : Shape). s.count) is, e) in absurd (omega arith) }

pub known : (kind : ℕ) (rule : TimeRule) (bs : List ℕ) (sh : Shape) → open_body kind rule bs ≡ Shaped sh → Known (eqb kind 0x30) rule (field bs 0 4) sh
unfolding open_body
known kind rule bs sh e =
    let w = field bs 0 4 in
    let x₁ : Opened = shape_by kind rule w in
    let x₀ : Opened = pick (ltb (length bs) 4) Wrong x₁ in
    let p = passed (not (opens kind)) Carried x₀ (Shaped sh) (λ q. let z : ◌≡◌ {A = ℕ} 0 1 = cc in omega arith) e in
    let q = passed (ltb (length bs) 4) Wrong x₁ (Shaped sh) (λ q. let z : ◌≡◌ {A = ℕ} 0 1 = cc in omega arith) p.1 in
    go (eqb kind 0x30) w q.1
  where
    go : (t : Bool) (w : ℕ) → pick t (message_shape rule w) (uart_shape rule w) ≡ Shaped sh → Known t rule w sh
    go true w e = known_message rule w sh e
    go false w e = known_uart rule w sh e

-- a type that is opened is not carried
pub open_not_carried : (kind : ℕ) (rule : TimeRule) (bs : List ℕ) → opens kind ≡ true → open_body kind rule bs ≡ Carried → ⊥
unfolding open_body message_shape uart_shape
open_not_carried kind rule bs o e =
    let w = field bs 0 4 in
    let x : Opened = shape_by kind rule w in
    let t : not (opens kind) ≡ false = rw o refl in
    let q : pick (ltb (length bs) 4) Wrong x ≡ Carried = rw t at e in
    let p = passed (ltb (length bs) 4) Wrong x Carried (λ q. let z : ◌≡◌ {A = ℕ} 0 1 = cc in omega arith) q in
    go (eqb kind 0x30) w p.1
  where
    never : (t : Bool) (sh : Shape) → pick t (Shaped sh) Wrong ≡ Carried → ⊥
    never true sh e = let z : ◌≡◌ {A = ℕ} 0 1 = cc in omega arith
    never false sh e = let z : ◌≡◌ {A = ℕ} 0 1 = cc in omega arith

    go : (t : Bool) (w : ℕ) → pick t (message_shape rule w) (uart_shape rule w) ≡ Carried → ⊥
    go true w e =
        never (ltb w (2 ^ 18) && counter_ok (w / 2 ^ 16) (w % 2 ^ 16)) (record { form = Stamped; count = Some (pick (eqb (w / 2 ^ 16) 0) (w % 2 ^ 16) 1); rule = rule }) e
    go false w e = never (eqb (w % 2 ^ 31) 0) (record { form = pick (leb (2 ^ 31) w) Stamped Plain; count = None; rule = rule }) e
