-- The reader's tests of an opened body say what document 01 says of it, and a body is at fault where document 01 says.
use Rattle.std.specs.Prelude.{Some, Result, Ok, Err}
use mathlib.Core.Path.{◌≡◌, refl, sym, ap, ◌∙◌, subst}
use mathlib.Core.List.{List}
use mathlib.Core.Bool.{Bool, true, false, false≢true}
use mathlib.Core.Logic.{◌↔◌, inl, inr, ⊎_elim}
use Prim.Native.Nat.{ℕ, zero, suc, ◌/◌, ◌%◌, ◌^◌, ◌≤◌, ◌<◌}
use native.Mathlib.Omega.{arith}
use native.Mathlib.Decide.{dec_le}
use lib.ListN.{length}
use Rattle.units.specs.Units.{Bytes, field}
use Rattle.terms.proofs.Times.{zero_ok}
use Rattle.terms.specs.declared.TimeRule.{TimeRule}
use Rattle.terms.specs.declared.Refusal.{Refusal}
use Rattle.body.specs.Walk.{opens, open_body, stamp_length, length_by}
use Rattle.body.specs.Answers.{check_body}
use Rattle.body.specs.Blocks.{Entry, Fits, entries_in, BodyOf}
use Rattle.body.specs.Layout.{OpenedType, Asked, exactly, to_the_end, ChannelWord, many, single, segment, timed, untimed}
use Rattle.body.specs.declared.Form.{Form}
use Rattle.body.specs.declared.Form.TheVariants.{Stamped, Plain}
use Rattle.body.proofs.ChannelWords as Words
use Rattle.body.proofs.ChannelWords.{count_by, shape_of, word_says, word_made}
use Rattle.body.proofs.Exactly.{body_of_blocks, body_is_blocks}
use Rattle.promises.specs.Faults.{AtFault}
use Rattle.promises.proofs.Faults.{RightBy, TimeBy, plain_other, fit_each, each_fit, fault_at, at_fault, fault_once, each_other, fault_other}
use Rattle.frame.specs.Rules.{message_rule}
use Rattle.promises.specs.Refusals.{OneOf}
use Rattle.promises.specs.Bodies.{opened_types, MessageWord, BlockKept, BodyKept, MessagesKept, BodyAtFault}
use Rattle.promises.proofs.NumbersKept.{message_time_exactly}

-- ---- blocks

block_says : (flags : ℕ) (form : Form) (e : Entry) → Fits form (message_rule flags) e → BlockKept flags form e
unfolding stamp_length length_by
block_says flags Stamped e f =
    let t : e.time < 256 ^ 8 = f.time_fits in
    record {
      some = f.some;
      size = f.size;
      word = f.word;
      time = omega (arith, t);
      none = λ z. absurd (z refl);
      in_form = λ o. (message_time_exactly flags e.time).0 f.time_ok_lem;
    }
block_says flags Plain e f =
    let t : e.time < 256 ^ 0 = f.time_fits in
    record {
      some = f.some;
      size = f.size;
      word = f.word;
      time = omega (arith, t);
      none = λ z. omega (arith, t);
      in_form = λ o. absurd (plain_other o);
    }

block_made : (flags : ℕ) (form : Form) (e : Entry) → BlockKept flags form e → Fits form (message_rule flags) e
unfolding stamp_length length_by
block_made flags Stamped e k =
    let t : e.time < 256 ^ 8 = omega (arith, k.time) in
    record { some = k.some; size = k.size; word = k.word; time_fits = t; time_ok_lem = (message_time_exactly flags e.time).1 (k.in_form refl) }
block_made flags Plain e k =
    let z : e.time ≡ 0 = k.none plain_other in
    let t : e.time < 256 ^ 0 = omega (arith, z) in
    record { some = k.some; size = k.size; word = k.word; time_fits = t; time_ok_lem = rw z (zero_ok (message_rule flags)) }

-- ---- the types that we open

opened_is : (kind : ℕ) → OneOf kind opened_types ↔ OpenedType kind
opened_is kind = (⊎_elim inl (⊎_elim inr (λ none. absurd none)), ⊎_elim inl (λ e. inr (inl e)))

pub opens_exactly : (kind : ℕ) → (opens kind ≡ true) ↔ OneOf kind opened_types
opens_exactly kind = (λ o. (opened_is kind).1 ((Words.opens_exactly kind).0 o), λ h. (Words.opens_exactly kind).1 ((opened_is kind).0 h))

pub carries : (kind : ℕ) → ¬ OneOf kind opened_types → opens kind ≡ false
carries kind other = Words.carries kind (λ o. other ((opened_is kind).1 o))

-- ---- the channel word

-- n blocks are as many as it asks for
abbrev AsMany : Asked → ℕ → Type 0
AsMany (exactly count) n = n ≡ count
AsMany to_the_end n = 1 ≤ n

-- a right one, with as many blocks as it asks for
record WordKept (kind word n : ℕ) (form : Form) : Type 0 where
  some : 1 ≤ n
  message : kind ≡ 0x30 → (form ≡ Stamped) × MessageWord word n
  uart : kind ≡ 0x50 → (word % 2 ^ 31 ≡ 0) × (2 ^ 31 ≤ word → form ≡ Stamped) × (word < 2 ^ 31 → form ≡ Plain)

word_kept : (kind word n : ℕ) {form : Form} {asked : Asked} → ChannelWord kind word form asked → AsMany asked n → WordKept kind word n form
word_kept kind word n (many k small bits some) h =
    record {
      some = omega (arith, h);
      message =
          λ e. (refl, record { reserved = small; many = λ z. sym h; single = λ z. absurd (omega (arith, bits, z)); segment = λ z. absurd (omega (arith, bits, z)) });
      uart = λ e. absurd (omega (arith, k, e));
    }
word_kept kind word n (single k small bits one) h =
    record {
      some = omega (arith, h);
      message =
          λ e. (refl, record { reserved = small; many = λ z. absurd (omega (arith, bits, z)); single = λ z. (one, h); segment = λ z. absurd (omega (arith, bits, z)) });
      uart = λ e. absurd (omega (arith, k, e));
    }
word_kept kind word n (segment k small bits more) h =
    record {
      some = omega (arith, h);
      message =
          λ e. (refl, record { reserved = small; many = λ z. absurd (omega (arith, bits, z)); single = λ z. absurd (omega (arith, bits, z)); segment = λ z. (more, h) });
      uart = λ e. absurd (omega (arith, k, e));
    }
word_kept kind word n (timed k bits high) h =
    record { some = h; message = λ e. absurd (omega (arith, k, e)); uart = λ e. (bits, (λ z. refl), (λ z. absurd (omega arith))) }
word_kept kind word n (untimed k bits low) h =
    record { some = h; message = λ e. absurd (omega (arith, k, e)); uart = λ e. (bits, (λ z. absurd (omega arith)), (λ z. refl)) }

-- and back
abbrev WordMade : ℕ → ℕ → ℕ → Form → Type 0
WordMade kind word n form = (asked : Asked) × ChannelWord kind word form asked × AsMany asked n

message_made : (kind word n bits : ℕ) → word / 2 ^ 16 ≡ bits → kind ≡ 0x30 → 1 ≤ n → MessageWord word n → WordMade kind word n Stamped
message_made kind word n zero b k some w =
    let e = w.many b in
    (exactly (word % 2 ^ 16), many k w.reserved b (omega (arith, e)), sym e)
message_made kind word n (suc zero) b k some w = let o = w.single b in (exactly 1, single k w.reserved b o.0, o.1)
message_made kind word n (suc (suc f)) b k some w =
    let two : 2 ≤ word / 2 ^ 16 = omega (arith, b) in
    let o = w.segment two in
    (exactly 1, segment k w.reserved two o.0, o.1)

word_made_of : (kind word n : ℕ) (form : Form) → OpenedType kind → WordKept kind word n form → WordMade kind word n form
word_made_of kind word n form (inl k) w =
    let m = w.message k in
    subst (WordMade kind word n) (sym m.0) (message_made kind word n (word / 2 ^ 16) refl k w.some m.1)
word_made_of kind word n form (inr k) w = go (dec_le (2 ^ 31) word)
  where
    go : Dec (2 ^ 31 ≤ word) → WordMade kind word n form
    go (yes h) = subst (WordMade kind word n) (sym ((w.uart k).1 h)) (to_the_end, timed k (w.uart k).0 h, w.some)
    go (no h) = let low : word < 2 ^ 31 = omega arith in subst (WordMade kind word n) (sym ((w.uart k).2 low)) (to_the_end, untimed k (w.uart k).0 low, w.some)

-- as many as the shape counts
many_says : (asked : Asked) (n : ℕ) → ((count : ℕ) → count_by asked ≡ Some count → n ≡ count) → 0 < n → AsMany asked n
many_says (exactly count) n counted some = counted count refl
many_says to_the_end n counted some = some

many_made : (asked : Asked) (n : ℕ) → AsMany asked n → (count : ℕ) → count_by asked ≡ Some count → n ≡ count
many_made (exactly m) n h count c = let same : m ≡ count = cc in omega (arith, same, h)
many_made to_the_end n h count c = let z : ◌≡◌ {A = ℕ} 0 1 = cc in absurd (omega arith)

-- ---- the body

pub body_says : (kind flags : ℕ) (bs : List ℕ) (es : List Entry) → BodyOf kind (message_rule flags) bs es → BodyKept kind flags bs es
body_says kind flags bs es b =
    let rule = message_rule flags in
    let (long, (asked, word, shape)) = word_says kind rule bs b.shape b.opened in
    let w = word_kept kind (field bs 0 4) (length es) word (many_says asked (length es) (rw shape at b.counted) b.some) in
    record {
      form = b.shape.form;
      long = long;
      some = w.some;
      message = w.message;
      uart = w.uart;
      is = b.is;
      blocks = each_other (RightBy rule) (BlockKept flags) (block_says flags) b.shape.form es (fit_each b.shape.form rule es b.fit);
    }

body_made : (kind flags : ℕ) (bs : List ℕ) (es : List Entry) → OneOf kind opened_types → BodyKept kind flags bs es → BodyOf kind (message_rule flags) bs es
body_made kind flags bs es o k =
    let rule = message_rule flags in
    let (asked, word, number) =
    word_made_of kind (field bs 0 4) (length es) k.form ((opened_is kind).0 o) (record { some = k.some; message = k.message; uart = k.uart }) in
    record {
      shape = shape_of k.form asked rule;
      opened = word_made kind rule bs k.form asked k.long word;
      counted = many_made asked (length es) number;
      some = k.some;
      is = k.is;
      fit = each_fit k.form rule es (each_other (BlockKept flags) (RightBy rule) (block_made flags) k.form es k.blocks);
    }

-- the reader's layout of a body is document 01's
pub body_kept : (kind flags : ℕ) (bs : List ℕ) (es : List Entry) → OneOf kind opened_types → BodyOf kind (message_rule flags) bs es ↔ BodyKept kind flags bs es
body_kept kind flags bs es o = (body_says kind flags bs es, body_made kind flags bs es o)

-- of one form in both
pub kept_form : (kind flags : ℕ) (bs : List ℕ) (es : List Entry) (o : OneOf kind opened_types) (b : BodyOf kind (message_rule flags) bs es)
    → ((body_kept kind flags bs es o).0 b).form ≡ b.shape.form
unfolding body_kept body_says
kept_form kind flags bs es o b = refl

-- ---- 15, of a body's check

-- whether a body passes
abbrev pub body_passes : Result ℕ Refusal → Bool
body_passes (Ok n) = true
body_passes (Err f) = false

passes_says : (c : Result ℕ Refusal) → body_passes c ≡ true → (n : ℕ) × (c ≡ Ok n)
passes_says (Ok n) t = (n, refl)
passes_says (Err f) t = absurd (false≢true t)

-- a body of a type that isn't opened passes, with no message
pub carried_counted : (kind : ℕ) (rule : TimeRule) (bs : List ℕ) → opens kind ≡ false → check_body kind rule bs ≡ Ok 0
unfolding check_body open_body
carried_counted kind rule bs o = rw o

module _ (kind flags : ℕ) (bs : List ℕ) where
  kept_counted : MessagesKept kind flags bs → (n : ℕ) × (check_body kind (message_rule flags) bs ≡ Ok n)
  kept_counted kept = go (opens kind) refl
    where
      go : (o : Bool) → opens kind ≡ o → (n : ℕ) × (check_body kind (message_rule flags) bs ≡ Ok n)
      go true o =
          let opened = (opens_exactly kind).0 o in
          let (es, k) = kept opened in
          (length es, (body_of_blocks kind (message_rule flags) bs es (body_made kind flags bs es opened k)).0)
      go false o = (0, carried_counted kind (message_rule flags) bs o)

  pub messages_pass : MessagesKept kind flags bs → body_passes (check_body kind (message_rule flags) bs) ≡ true
  messages_pass kept = rw (kept_counted kept).1

  pub messages_say : Bytes bs → body_passes (check_body kind (message_rule flags) bs) ≡ true → MessagesKept kind flags bs
  messages_say raw t o =
      let rule = message_rule flags in
      let (n, is) = passes_says (check_body kind rule bs) t in
      let es = entries_in kind rule bs n in
      (es, body_says kind flags bs es (body_is_blocks kind rule bs n raw ((opens_exactly kind).1 o) is).1)

  -- the blocks of one list, and of no other
  pub blocks_once : (es ds : List Entry) → OneOf kind opened_types → BodyKept kind flags bs es → BodyKept kind flags bs ds → es ≡ ds
  blocks_once es ds o k l =
      let rule = message_rule flags in
      let a = body_of_blocks kind rule bs es (body_made kind flags bs es o k) in
      let b = body_of_blocks kind rule bs ds (body_made kind flags bs ds o l) in
      let n : length es ≡ length ds = cc (sym a.0 ∙ b.0) in
      sym a.1 ∙ ap (entries_in kind rule bs) n ∙ b.1

  -- the fault in document 01's words, and in those of the reader's laws
  fault_says : (at reason : ℕ) → AtFault kind (RightBy (message_rule flags)) (TimeBy (message_rule flags)) bs at reason → BodyAtFault kind flags bs at reason
  fault_says = fault_other (RightBy (message_rule flags)) (BlockKept flags) (block_says flags) _ _ (message_time_exactly flags) kind bs

  fault_made : (at reason : ℕ) → BodyAtFault kind flags bs at reason → AtFault kind (RightBy (message_rule flags)) (TimeBy (message_rule flags)) bs at reason
  fault_made = fault_other (BlockKept flags) (RightBy (message_rule flags)) (block_made flags) _ _ (λ t. ((message_time_exactly flags t).1, (message_time_exactly flags t).0)) kind bs

  -- a body that is refused is at fault as the refusal says
  pub fault_kept : (r : Refusal) → Bytes bs → check_body kind (message_rule flags) bs ≡ Err r → BodyAtFault kind flags bs r.place r.reason
  fault_kept r raw e = fault_says r.place r.reason (fault_at kind (message_rule flags) bs r raw e)

  -- exactly where it breaks the layout
  pub fault_kept_exactly : Bytes bs → (¬ MessagesKept kind flags bs) ↔ ((at reason : ℕ) × BodyAtFault kind flags bs at reason)
  fault_kept_exactly raw = (go (check_body kind (message_rule flags) bs) refl, back)
    where
      go : (x : Result ℕ Refusal) → check_body kind (message_rule flags) bs ≡ x → ¬ MessagesKept kind flags bs → (at reason : ℕ) × BodyAtFault kind flags bs at reason
      go (Ok n) e broken = absurd (broken (messages_say raw (rw e refl)))
      go (Err r) e broken = (r.place, r.reason, fault_kept r raw e)

      back : (at reason : ℕ) × BodyAtFault kind flags bs at reason → ¬ MessagesKept kind flags bs
      back (at, reason, there) kept =
          let refused = at_fault kind (message_rule flags) bs at reason (fault_made at reason there) in
          let z : ◌≡◌ {A = ℕ} 0 1 = cc (sym (kept_counted kept).1 ∙ refused) in
          omega arith

  -- and at one place, for one reason
  pub fault_kept_once : Bytes bs → (a b r s : ℕ) → BodyAtFault kind flags bs a r → BodyAtFault kind flags bs b s → (a ≡ b) × (r ≡ s)
  fault_kept_once raw a b r s at_a at_b = fault_once kind (message_rule flags) bs a b r s (fault_made a r at_a) (fault_made b s at_b)
