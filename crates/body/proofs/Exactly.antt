-- An accepted body is exactly its channel word followed by the blocks of the messages reported.
use Rattle.std.specs.Prelude.{Ok}
use mathlib.Core.Path.{◌≡◌, refl, ap, ◌∙◌, subst}
use mathlib.Core.List.{List}
use mathlib.Core.Bool.{true}
use mathlib.Core.Logic.{◌↔◌}
use Prim.Native.Nat.{ℕ, ◌+◌, ◌≤◌, ◌<◌}
use native.Mathlib.Omega.{arith}
use native.Mathlib.Nat.{zero-add}
use lib.ListN.{length, take, get_or}
use lib.Seq.{length-take-le}
use Rattle.units.specs.Units.{Bytes}
use Rattle.body.specs.Walk.{opens, open_body, walk, Opened, Carried, Shaped, Wrong}
use Rattle.body.specs.Answers.{check_opened, check_body, message_of, message_in, tab}
use Rattle.body.specs.Blocks.{Entry, no_entry, AllFit, blocks_bytes, message_on, entry_at, entries_in, BodyOf}
use Rattle.terms.specs.declared.TimeRule.{TimeRule}
use Rattle.body.specs.declared.Shape.{Shape}
use Rattle.body.proofs.Walking.{counting_first, open_long}
use Rattle.body.proofs.Reading.{reading_first, message_shaped, length_tab, tab_ext}
use Rattle.body.proofs.Whole.{entry_on, walk_blocks, stop_last, on_before, come_first, holds_from, known, open_not_carried}

entries_shaped : (kind : ℕ) (rule : TimeRule) (bs : List ℕ) (sh : Shape) (n : ℕ) → open_body kind rule bs ≡ Shaped sh
    → entries_in kind rule bs n ≡ tab n (entry_on sh bs)
unfolding entries_in
entries_shaped kind rule bs sh n o = tab_ext n _ (entry_on sh bs) (λ k h. ap (entry_at bs) (message_shaped kind rule bs sh k o))

pub check_shaped : (kind : ℕ) (rule : TimeRule) (bs : List ℕ) (sh : Shape) → open_body kind rule bs ≡ Shaped sh → check_body kind rule bs ≡ walk sh bs
unfolding check_body
check_shaped kind rule bs sh o = simp o

-- the walk over a body that is its channel word and these blocks
blocks_walked : (kind : ℕ) (rule : TimeRule) (bs : List ℕ) (es : List Entry) (b : BodyOf kind rule bs es)
    → (walk b.shape bs ≡ Ok (length es))
    × (tab (length es) (entry_on b.shape bs) ≡ es)
    × ((i : ℕ) → i < length es
    → message_of b.shape bs (0 + i) ≡ message_on b.shape.form (4 + length (blocks_bytes b.shape.form (take i es))) (get_or es i no_entry))
unfolding tab
blocks_walked kind rule bs es b =
    let sh = b.shape in
    let long : 4 ≤ length bs = open_long kind rule bs sh b.opened in
    let four : length (take 4 bs) ≡ 4 = length-take-le 4 bs long in
    let fit : AllFit sh.form sh.rule es = rw (known kind rule bs sh b.opened).rule_is b.fit in
    let w =
    walk_blocks sh bs (length es) (stop_last sh bs (length es) b.counted b.some) (on_before sh bs (length es) (λ c e. omega (arith, b.counted c e)))
    es (take 4 bs) 0 (omega arith) b.is fit (rw four (counting_first sh bs long)) in
    (w.0, w.1, λ i h. rw four at (w.2 i h))

-- a body that is its channel word and these blocks is accepted, and they are what is reported
pub body_of_blocks : (kind : ℕ) (rule : TimeRule) (bs : List ℕ) (es : List Entry) → BodyOf kind rule bs es
    → (check_body kind rule bs ≡ Ok (length es)) × (entries_in kind rule bs (length es) ≡ es)
body_of_blocks kind rule bs es b =
    let w = blocks_walked kind rule bs es b in
    (check_shaped kind rule bs b.shape b.opened ∙ w.0, entries_shaped kind rule bs b.shape (length es) b.opened ∙ w.1)

-- and each where it stands, with its length: behind the channel word and the blocks before it
pub body_messages : (kind : ℕ) (rule : TimeRule) (bs : List ℕ) (es : List Entry) (b : BodyOf kind rule bs es) (k : ℕ) → k < length es
    → message_in kind rule bs k ≡ message_on b.shape.form (4 + length (blocks_bytes b.shape.form (take k es))) (get_or es k no_entry)
body_messages kind rule bs es b k h = message_shaped kind rule bs b.shape k b.opened ∙ rw zero-add at ((blocks_walked kind rule bs es b).2 k h)

-- an accepted body is exactly its channel word followed by the blocks of the messages reported: nothing invented, nothing left out
pub body_is_blocks : (kind : ℕ) (rule : TimeRule) (bs : List ℕ) (n : ℕ) → Bytes bs → opens kind ≡ true → check_body kind rule bs ≡ Ok n
    → (length (entries_in kind rule bs n) ≡ n) × BodyOf kind rule bs (entries_in kind rule bs n)
unfolding check_body
body_is_blocks kind rule bs n raw o e = go (open_body kind rule bs) refl e
  where
    go : (x : Opened) → open_body kind rule bs ≡ x → check_opened x bs ≡ Ok n
        → (length (entries_in kind rule bs n) ≡ n) × BodyOf kind rule bs (entries_in kind rule bs n)
    go Carried q e = absurd (open_not_carried kind rule bs o q)
    go Wrong q e = let z : ◌≡◌ {A = ℕ} 0 1 = cc in absurd (omega arith)
    go (Shaped sh) q e =
        let k = known kind rule bs sh q in
        let h =
        holds_from sh bs n raw k.least (length bs) 0 4 (omega arith) (reading_first sh bs n (open_long kind rule bs sh q) e) (come_first sh bs) in
        let s = entries_shaped kind rule bs sh n q in (
          ap length s ∙ length_tab n (entry_on sh bs),
          rw s
              (record {
                shape = sh;
                opened = q;
                counted = h.counted;
                some = h.some;
                is = h.is;
                fit = subst (λ (r : TimeRule). AllFit sh.form r (tab n (entry_on sh bs))) k.rule_is h.fit;
              }),
        )

-- both ways
pub body_exactly : (kind : ℕ) (rule : TimeRule) (bs : List ℕ) (es : List Entry) → Bytes bs → opens kind ≡ true
    → ((check_body kind rule bs ≡ Ok (length es)) × (entries_in kind rule bs (length es) ≡ es)) ↔ BodyOf kind rule bs es
body_exactly kind rule bs es raw o = (
  λ h. subst (λ (l : List Entry). BodyOf kind rule bs l) h.1 (body_is_blocks kind rule bs (length es) raw o h.0).1,
  body_of_blocks kind rule bs es,
)
