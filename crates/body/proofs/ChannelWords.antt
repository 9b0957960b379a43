-- The reader's test of a channel word says what document 01 says of it.
use Rattle.std.specs.Prelude.{Option, Some, None}
use mathlib.Core.Path.{◌≡◌, refl, ◌∙◌, subst}
use mathlib.Core.List.{List}
use mathlib.Core.Bool.{Bool, true, false, not, ◌&&◌, false≢true}
use mathlib.Core.Logic.{inl, inr, ⊎_elim, ◌↔◌}
use Prim.Native.Nat.{ℕ, zero, suc, ◌/◌, ◌%◌, ◌^◌, ◌≤◌, ◌<◌}
use native.Mathlib.Omega.{arith}
use lib.ListN.{length}
use lib.Dec.{ltb, leb, eqb}
use borrow.Author.Tests.{eqb-true, eq-eqb, ne_eqb, leb-true, leb-false, le-leb, lt-leb, ltb-true, ltb-false, lt-ltb, le-ltb, not-false}
use Rattle.units.specs.Units.{field}
use Rattle.units.specs.Choice.{pick}
use Rattle.units.proofs.Choices.{picked, passed, or_true, and_true}
use Rattle.terms.specs.declared.TimeRule.{TimeRule}
use Rattle.body.specs.Walk.{opens, counter_ok, message_shape, uart_shape, shape_by, open_body, Opened, Carried, Shaped, Wrong}
use Rattle.body.specs.Layout.{OpenedType, Asked, exactly, to_the_end, ChannelWord, many, single, segment, timed, untimed}
use Rattle.body.specs.Kinds.{type_of}
use Rattle.body.specs.declared.Kind.{Kind}
use Rattle.body.specs.declared.Kind.TheVariants.{Message, Uart}
use Rattle.body.specs.declared.Form.{Form}
use Rattle.body.specs.declared.Form.TheVariants.{Stamped, Plain}
use Rattle.body.specs.declared.Shape.{Shape}

-- the types that are opened
pub opens_exactly : (kind : ℕ) → (opens kind ≡ true) ↔ OpenedType kind
opens_exactly kind = (
  λ t. ⊎_elim (λ h. inl (eqb-true kind 0x30 h)) (λ h. inr (eqb-true kind 0x50 h)) (or_true (eqb kind 0x30) (eqb kind 0x50) t),
  made,
)
  where
    made : OpenedType kind → opens kind ≡ true
    made (inl e) = rw e
    made (inr e) = rw e

pub type_opens : (kind : Kind) → opens (type_of kind) ≡ true
type_opens Message = refl
type_opens Uart = refl

-- and those that are not
pub carries : (kind : ℕ) → ¬ OpenedType kind → opens kind ≡ false
carries kind other = go (opens kind) refl
  where
    go : (b : Bool) → opens kind ≡ b → b ≡ false
    go true o = absurd (other ((opens_exactly kind).0 o))
    go false o = refl

-- ---- what a channel word says, as the walk's shape

abbrev pub count_by : Asked → Option ℕ
count_by (exactly count) = Some count
count_by to_the_end = None

abbrev pub shape_of : Form → Asked → TimeRule → Shape
shape_of form asked rule = record { form = form; count = count_by asked; rule = rule }

-- a channel word is right, and says this shape
abbrev Says : ℕ → TimeRule → ℕ → Shape → Type 0
Says kind rule word sh = (asked : Asked) × ChannelWord kind word sh.form asked × (sh ≡ shape_of sh.form asked rule)

-- ---- 0x30

module _ (kind : ℕ) (rule : TimeRule) (word : ℕ) (message : kind ≡ 0x30) where
  some_counted : (counter : ℕ) → counter_ok 0 counter ≡ true → 1 ≤ counter
  some_counted zero e = absurd (false≢true e)
  some_counted (suc counter) e = omega arith

  counted_says : (bits : ℕ) → word / 2 ^ 16 ≡ bits → word < 2 ^ 18 → counter_ok bits (word % 2 ^ 16) ≡ true
      → Says kind rule word (record { form = Stamped; count = Some (pick (eqb bits 0) (word % 2 ^ 16) 1); rule = rule })
  counted_says zero b small ok = (exactly (word % 2 ^ 16), many message small b (some_counted (word % 2 ^ 16) ok), refl)
  counted_says (suc zero) b small ok =
      let one : word % 2 ^ 16 ≡ 1 = ⊎_elim (eqb-true (word % 2 ^ 16) 1) (λ h. absurd (false≢true h)) (or_true (eqb (word % 2 ^ 16) 1) false ok) in
      (exactly 1, single message small b one, refl)
  counted_says (suc (suc f)) b small ok =
      let bits = suc (suc f) in
      let t₀ : eqb bits 0 ≡ false = ne_eqb bits 0 (λ e. omega arith) in
      let t₁ : eqb bits 1 ≡ false = ne_eqb bits 1 (λ e. omega arith) in
      let t₂ : ltb 1 bits ≡ true = lt-ltb 1 bits (omega arith) in
      let two = ltb-true 1 (word % 2 ^ 16) (rw (t₀, t₁, t₂) at ok) in
      (exactly 1, segment message small (omega (arith, b)) two, rw t₀ refl)

  message_says : (sh : Shape) → message_shape rule word ≡ Shaped sh → Says kind rule word sh
  unfolding message_shape
  message_says sh e =
      let as_is : Shape = record { form = Stamped; count = Some (pick (eqb (word / 2 ^ 16) 0) (word % 2 ^ 16) 1); rule = rule } in
      let p =
      picked (ltb word (2 ^ 18) && counter_ok (word / 2 ^ 16) (word % 2 ^ 16)) (Shaped as_is) Wrong (Shaped sh)
      (λ q. let z : ◌≡◌ {A = ℕ} 0 1 = cc in omega arith) e in
      let is : as_is ≡ sh = cc p.1 in
      let q = and_true (ltb word (2 ^ 18)) (counter_ok (word / 2 ^ 16) (word % 2 ^ 16)) p.0 in
      subst (Says kind rule word) is (counted_says (word / 2 ^ 16) refl (ltb-true word (2 ^ 18) q.0) q.1)

-- a counter that its type, `bits`, takes
module _ (rule : TimeRule) (word bits : ℕ) (is : word / 2 ^ 16 ≡ bits) (small : word < 2 ^ 18) where
  shaped_by : counter_ok bits (word % 2 ^ 16) ≡ true
      → message_shape rule word ≡ Shaped (record { form = Stamped; count = Some (pick (eqb bits 0) (word % 2 ^ 16) 1); rule = rule })
  unfolding message_shape
  shaped_by ok = rw (lt-ltb word (2 ^ 18) small, is, ok)

message_many : (rule : TimeRule) (word : ℕ) → word < 2 ^ 18 → word / 2 ^ 16 ≡ 0 → 1 ≤ word % 2 ^ 16
    → message_shape rule word ≡ Shaped (shape_of Stamped (exactly (word % 2 ^ 16)) rule)
message_many rule word small b some = shaped_by rule word 0 b small (rw (lt-ltb 0 (word % 2 ^ 16) some))

message_single : (rule : TimeRule) (word : ℕ) → word < 2 ^ 18 → word / 2 ^ 16 ≡ 1 → word % 2 ^ 16 ≡ 1
    → message_shape rule word ≡ Shaped (shape_of Stamped (exactly 1) rule)
message_single rule word small b one = shaped_by rule word 1 b small (rw (eq-eqb (word % 2 ^ 16) 1 one))

message_segment : (rule : TimeRule) (word bits : ℕ) → word / 2 ^ 16 ≡ bits → word < 2 ^ 18 → 2 ≤ bits → 2 ≤ word % 2 ^ 16
    → message_shape rule word ≡ Shaped (shape_of Stamped (exactly 1) rule)
message_segment rule word bits b small two more =
    let t₀ : eqb bits 0 ≡ false = ne_eqb bits 0 (λ e. omega arith) in
    let t₁ : eqb bits 1 ≡ false = ne_eqb bits 1 (λ e. omega arith) in
    let t₂ : ltb 1 bits ≡ true = lt-ltb 1 bits (omega arith) in
    shaped_by rule word bits b small (rw (t₀, t₁, t₂) (lt-ltb 1 (word % 2 ^ 16) (omega arith))) ∙ rw t₀ refl

-- ---- 0x50

uart_says : (kind : ℕ) (rule : TimeRule) (word : ℕ) (sh : Shape) → kind ≡ 0x50 → uart_shape rule word ≡ Shaped sh → Says kind rule word sh
unfolding uart_shape
uart_says kind rule word sh uart e =
    let as_is : Shape = record { form = pick (leb (2 ^ 31) word) Stamped Plain; count = None; rule = rule } in
    let p = picked (eqb (word % 2 ^ 31) 0) (Shaped as_is) Wrong (Shaped sh) (λ q. let z : ◌≡◌ {A = ℕ} 0 1 = cc in omega arith) e in
    let is : as_is ≡ sh = cc p.1 in
    subst (Says kind rule word) is (go (leb (2 ^ 31) word) refl (eqb-true (word % 2 ^ 31) 0 p.0))
  where
    go : (t : Bool) → leb (2 ^ 31) word ≡ t → word % 2 ^ 31 ≡ 0
        → Says kind rule word (record { form = pick t Stamped Plain; count = None; rule = rule })
    go true t low = (to_the_end, timed uart low (leb-true (2 ^ 31) word t), refl)
    go false t low = (to_the_end, untimed uart low (leb-false (2 ^ 31) word t), refl)

uart_timed : (rule : TimeRule) (word : ℕ) → word % 2 ^ 31 ≡ 0 → 2 ^ 31 ≤ word → uart_shape rule word ≡ Shaped (shape_of Stamped to_the_end rule)
unfolding uart_shape
uart_timed rule word bits high = rw (eq-eqb (word % 2 ^ 31) 0 bits, le-leb (2 ^ 31) word high)

uart_untimed : (rule : TimeRule) (word : ℕ) → word % 2 ^ 31 ≡ 0 → word < 2 ^ 31 → uart_shape rule word ≡ Shaped (shape_of Plain to_the_end rule)
unfolding uart_shape
uart_untimed rule word bits low = rw (eq-eqb (word % 2 ^ 31) 0 bits, lt-leb (2 ^ 31) word low)

-- ---- the channel word of a body

module _ (kind : ℕ) (rule : TimeRule) (bs : List ℕ) where
  -- what a body opens to is what a right channel word of 4 bytes says
  pub word_says : (sh : Shape) → open_body kind rule bs ≡ Shaped sh → (4 ≤ length bs) × Says kind rule (field bs 0 4) sh
  unfolding open_body
  word_says sh e =
      let x₁ : Opened = shape_by kind rule (field bs 0 4) in
      let x₀ : Opened = pick (ltb (length bs) 4) Wrong x₁ in
      let p = passed (not (opens kind)) Carried x₀ (Shaped sh) (λ q. let z : ◌≡◌ {A = ℕ} 0 1 = cc in omega arith) e in
      let q = passed (ltb (length bs) 4) Wrong x₁ (Shaped sh) (λ q. let z : ◌≡◌ {A = ℕ} 0 1 = cc in omega arith) p.1 in
      (ltb-false (length bs) 4 q.0, by ((opens_exactly kind).0 (not-false (opens kind) p.0)) q.1)
    where
      by : OpenedType kind → shape_by kind rule (field bs 0 4) ≡ Shaped sh → Says kind rule (field bs 0 4) sh
      by (inl k) h = message_says kind rule (field bs 0 4) k sh (rw k at h)
      by (inr k) h = uart_says kind rule (field bs 0 4) sh k (rw k at h)

  -- a right channel word is one of an opened type, and says the shape that its type's reader makes of it
  opened_type : {word : ℕ} {form : Form} {asked : Asked} → ChannelWord kind word form asked → OpenedType kind
  opened_type (many k small b some) = inl k
  opened_type (single k small b one) = inl k
  opened_type (segment k small b more) = inl k
  opened_type (timed k bits high) = inr k
  opened_type (untimed k bits low) = inr k

  says_shape : (word : ℕ) (form : Form) (asked : Asked) → ChannelWord kind word form asked → shape_by kind rule word ≡ Shaped (shape_of form asked rule)
  says_shape word form asked (many k small b some) = rw k (message_many rule word small b some)
  says_shape word form asked (single k small b one) = rw k (message_single rule word small b one)
  says_shape word form asked (segment k small b more) = rw k (message_segment rule word _ refl small b more)
  says_shape word form asked (timed k bits high) = rw k (uart_timed rule word bits high)
  says_shape word form asked (untimed k bits low) = rw k (uart_untimed rule word bits low)

  -- and a right one of 4 bytes is what it opens to
  pub word_made : (form : Form) (asked : Asked) → 4 ≤ length bs → ChannelWord kind (field bs 0 4) form asked
      → open_body kind rule bs ≡ Shaped (shape_of form asked rule)
  unfolding open_body
  word_made form asked long word =
      let o : open_body kind rule bs ≡ shape_by kind rule (field bs 0 4) = rw ((opens_exactly kind).1 (opened_type word), le-ltb (length bs) 4 long) in
      o ∙ says_shape (field bs 0 4) form asked word
