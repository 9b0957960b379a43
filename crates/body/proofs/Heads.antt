-- The heads of blocks that are whole, one behind the other, are a body's messages.
use Rattle.std.specs.Prelude.{Ok}
use mathlib.Core.Path.{◌≡◌, refl, sym, ap, ◌∙◌}
use mathlib.Core.List.{List, [], ◌∷◌, ◌++◌, append-nil}
use mathlib.Core.Bool.{true}
use Prim.Native.Nat.{ℕ, zero, suc, ◌+◌, ◌-◌, ◌^◌, ◌≤◌, ◌<◌}
use native.Mathlib.Omega.{arith}
use native.Mathlib.Numerals.{add-one}
use lib.ListN.{length, length-append}
use lib.Seq.{append_snoc}
use lib.Dec.{ltb, leb}
use borrow.Author.Tests.{leb-true, ltb-true, le-leb, lt-ltb}
use Rattle.units.proofs.Choices.{and_true}
use Rattle.terms.specs.declared.TimeRule.{TimeRule}
use Rattle.body.specs.declared.Form.{Form}
use Rattle.body.specs.declared.Shape.{Shape}
use Rattle.body.specs.declared.Message.{Message}
use Rattle.body.specs.Walk.{stamp_length, head_at, block_end, opens, open_body, Opened, Carried, Shaped, Wrong}
use Rattle.body.specs.Answers.{check_opened, check_body, message_of, message_in, tab}
use Rattle.body.specs.inner.Walks.{form_in}
use Rattle.body.specs.inner.Heads.{heads, all_whole}
use Rattle.body.proofs.Reading.{ReadingBody, reading_first, reading_fits, reading_ahead, message_shaped, length_tab, tab_ext, tab_next}
use Rattle.body.proofs.Bounds.{message_in_body}
use Rattle.body.proofs.Walking.{open_long}
use Rattle.body.proofs.Whole.{known, open_not_carried}

pub length_heads : (form : Form) (bs : List ℕ) (at n : ℕ) → length (heads form bs at n) ≡ n
unfolding heads
length_heads form bs at zero = refl
length_heads form bs at (suc n) = ap suc (length_heads form bs (block_end (head_at form bs at)) n)

pub heads_none : (form : Form) (bs : List ℕ) (at n : ℕ) → n ≡ 0 → heads form bs at n ≡ []
unfolding heads
heads_none form bs at n e = rw e refl

-- the next of some that are whole
pub record Next (form : Form) (bs : List ℕ) (at n : ℕ) (m : Message) : Type 0 where
  pub first : heads form bs at n ≡ m ∷ heads form bs (block_end m) (n - 1)
  pub head : at + stamp_length form + 4 ≤ length bs
  pub some : 0 < m.length
  pub fits : block_end m ≤ length bs
  pub others : all_whole form bs (block_end m) (n - 1) ≡ true

pub next_whole : (form : Form) (bs : List ℕ) (at n : ℕ) → all_whole form bs at n ≡ true → (n ≡ 0 → ⊥) → Next form bs at n (head_at form bs at)
unfolding heads all_whole
next_whole form bs at zero whole some = absurd (some refl)
next_whole form bs at (suc n) whole some =
    let m = head_at form bs at in
    let p₀ = and_true (leb (at + stamp_length form + 4) (length bs)) _ whole in
    let p₁ = and_true (ltb 0 m.length) _ p₀.1 in
    let p₂ = and_true (leb (block_end m) (length bs)) (all_whole form bs (block_end m) n) p₁.1 in
    let e : suc n - 1 ≡ n = omega arith in
    record {
      first = rw e refl;
      head = leb-true _ _ p₀.0;
      some = ltb-true _ _ p₁.0;
      fits = leb-true _ _ p₂.0;
      others = rw e p₂.1;
    }

-- the heads from the k-th block on are the messages from the k-th on
reading_heads : (sh : Shape) (bs : List ℕ) (n k at left : ℕ) → ReadingBody sh bs n k at → k + left ≡ n
    → (all_whole sh.form bs at left ≡ true) × (tab k (message_of sh bs) ++ heads sh.form bs at left ≡ tab n (message_of sh bs))
unfolding heads all_whole tab
reading_heads sh bs n k at zero now all = let e : k ≡ n = omega arith in (refl, append-nil (tab k (message_of sh bs)) ∙ ap (λ (j : ℕ). tab j (message_of sh bs)) e)
reading_heads sh bs n k at (suc left) now all =
    let m = head_at sh.form bs at in
    let a = reading_ahead sh bs n k at now (omega arith) m refl in
    let fits = reading_fits sh bs n k at now (omega arith) in
    let rest = reading_heads sh bs n (k + 1) (block_end m) left a.next (omega arith) in
    let one : tab (k + 1) (message_of sh bs) ≡ tab k (message_of sh bs) ++ (m ∷ []) = rw (add-one, ← a.message) refl in (
      rw (le-leb (at + stamp_length sh.form + 4) (length bs) fits, lt-ltb 0 m.length a.some, le-leb (block_end m) (length bs) a.fits) rest.0,
      sym (append_snoc (tab k (message_of sh bs)) m (heads sh.form bs (block_end m) left)) ∙ ap (λ (l : List Message). l ++ heads sh.form bs (block_end m) left) (sym one) ∙ rest.1,
    )

-- what is known of a body of an opened type that has n messages, for code that reads it again by its heads
pub record Counted (kind : ℕ) (rule : TimeRule) (bs : List ℕ) (n : ℕ) : Type 0 where
  pub long : 4 ≤ length bs
  pub whole : all_whole (form_in kind bs) bs 4 n ≡ true
  pub are : heads (form_in kind bs) bs 4 n ≡ tab n (message_in kind rule bs)

pub counted : (kind : ℕ) (rule : TimeRule) (bs : List ℕ) (n : ℕ) → opens kind ≡ true → check_body kind rule bs ≡ Ok n → Counted kind rule bs n
unfolding check_body tab
counted kind rule bs n o e = go (open_body kind rule bs) refl e
  where
    go : (x : Opened) → open_body kind rule bs ≡ x → check_opened x bs ≡ Ok n → Counted kind rule bs n
    go Carried q h = absurd (open_not_carried kind rule bs o q)
    go Wrong q h = let z : ◌≡◌ {A = ℕ} 0 1 = cc in absurd (omega arith)
    go (Shaped sh) q h =
        let long = open_long kind rule bs sh q in
        let form : form_in kind bs ≡ sh.form = (known kind rule bs sh q).form_is in
        let r = reading_heads sh bs n 0 4 n (reading_first sh bs n long h) (omega arith) in
        record {
          long = long;
          whole = rw form r.0;
          are = rw form (r.1 ∙ tab_ext n _ _ (λ k l. sym (message_shaped kind rule bs sh k q)));
        }

-- a turn of the lister, where x is the first of what is left behind k of n messages
pub record Turn (all : ℕ → Message) (base n k : ℕ) (x : Message) (xs : List Message) : Type 0 where
  pub more : k < n
  pub is : x ≡ all k
  pub ahead : tab (k + 1) all ++ xs ≡ tab n all
  pub start : base + x.start < 2 ^ 32
  pub short : x.length < 2 ^ 16

pub turn : (kind : ℕ) (rule : TimeRule) (bs : List ℕ) (base n k : ℕ) (left : List Message) (x : Message) (xs : List Message) → check_body kind rule bs ≡ Ok n
    → base + length bs ≤ 2 ^ 32 → tab k (message_in kind rule bs) ++ left ≡ tab n (message_in kind rule bs) → left ≡ x ∷ xs
    → Turn (message_in kind rule bs) base n k x xs
turn kind rule bs base n k left x xs has wide ahead split =
    let t = tab_next n k (message_in kind rule bs) x xs (ap (λ (l : List Message). tab k (message_in kind rule bs) ++ l) (sym split) ∙ ahead) in
    let b = message_in_body kind rule bs n k has t.0 in
    record { more = t.0; is = t.1; ahead = t.2; start = rw t.1 (omega (arith, b.fits, b.some)); short = rw t.1 b.short }

-- and the last one is behind it
pub turned : (n k : ℕ) (all : ℕ → Message) (left : List Message) → tab k all ++ left ≡ tab n all → left ≡ [] → k ≡ n
turned n k all left ahead none =
    let l = ap length (ap (λ (l : List Message). tab k all ++ l) (sym none) ∙ ahead) in
    omega (arith, l, length-append (tab k all) [], length_tab k all, length_tab n all)
