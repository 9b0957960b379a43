-- Laws of the builder's steps: what an answer says of the tests behind it, and what a step leaves in its buffer.
use Rattle.std.proofs.Common.{◌≡◌, ℕ, ◌+◌, ◌*◌, ◌%◌, ◌^◌, ◌<◌, ◌≤◌, Bool, true, false, not, ◌&&◌, ◌||◌, eqb, ltb, leb, List, ◌++◌, length, replicate, sym, refl, ap, arith, length-append, ltb-false, le-ltb, leb-false, Result, Ok, Err}
use lib.ListN.{length-replicate}
use borrow.Author.Tests.{eqb-false, not-false}
use Rattle.units.specs.Units.{bytes_of, splice}
use Rattle.units.specs.Choice.{pick}
use Rattle.units.proofs.Numbers.{length_bytes_of}
use Rattle.units.proofs.Writes.{chain}
use Rattle.units.proofs.Choices.{passed, or_false}
use Rattle.body.specs.Walk.{stamp_length, block_size}
use Rattle.body.specs.Blocks.{block_bytes}
use Rattle.terms.specs.declared.Refusal.{Refusal}
use Rattle.body.specs.declared.Form.{Form}
use Rattle.builder.specs.Build.{denied, counts, makes, bad_draft, open_step, bad_block, bad_time, stray_time, grown, draft_added, add_step, entry_of, close_step, step_told, buf_after}
use Rattle.builder.specs.declared.Draft.{Draft}

-- ---- tests that passed

few_blocks : (kind : ℕ) (t : Bool) → (counts kind && t) ≡ false → counts kind ≡ true → t ≡ false
few_blocks kind t e k = rw k at e

-- a state that a step takes
pub draft_facts : (d : Draft) (room : ℕ) → bad_draft d room ≡ false
    → (d.used ≤ room) × (4 ≤ d.used) × (makes d.kind d.rule ≡ true) × (counts d.kind ≡ true → d.blocks ≤ 65535)
draft_facts d room e =
    let outside = ltb room d.used in
    let under = ltb d.used 4 in
    let unmade = not (makes d.kind d.rule) in
    let many = counts d.kind && ltb 65535 d.blocks in
    let p = or_false (outside || under || unmade) many e in
    let q = or_false (outside || under) unmade p.0 in
    let r = or_false outside under q.0 in (
      ltb-false room d.used r.0,
      ltb-false d.used 4 r.1,
      not-false (makes d.kind d.rule) q.1,
      (λ k. ltb-false 65535 d.blocks (few_blocks d.kind (ltb 65535 d.blocks) p.1 k)),
    )

pub draft_good : (d : Draft) (room : ℕ) → d.used ≤ room → 4 ≤ d.used → makes d.kind d.rule ≡ true → (counts d.kind ≡ true → d.blocks ≤ 65535)
    → bad_draft d room ≡ false
draft_good d room inside enough made few =
    simp (le-ltb room d.used inside, le-ltb d.used 4 enough, made) (go (counts d.kind) refl)
  where
    go : (t : Bool) → counts d.kind ≡ t → (t && ltb 65535 d.blocks) ≡ false
    go true t = le-ltb 65535 d.blocks (few t)
    go false t = refl

-- a block that a step takes
pub block_facts : (d : Draft) (n : ℕ) → bad_block d n ≡ false → (0 < n) × (n < 2 ^ 16) × (counts d.kind ≡ true → d.blocks < 65535)
block_facts d n e =
    let many = counts d.kind && leb 65535 d.blocks in
    let p = or_false (eqb n 0 || ltb 65535 n) many e in
    let q = or_false (eqb n 0) (ltb 65535 n) p.0 in
    let none : n ≡ 0 → ⊥ = eqb-false n 0 q.0 in
    let short : n ≤ 65535 = ltb-false 65535 n q.1 in
    (omega arith, omega arith, λ k. leb-false 65535 d.blocks (few_blocks d.kind (leb 65535 d.blocks) p.1 k))

-- ---- steps that are done

pub denies : (r r' : Refusal) (d : Draft) → r ≡ r' → denied r d ≡ denied r' d
denies r r' d e = ap (λ (x : Refusal). denied x d) e

pub not_done : (r : Refusal) (d d' : Draft) → denied r d ≡ Ok d' → ⊥
not_done r d d' e = let z : ◌≡◌ {A = ℕ} 0 1 = cc in omega arith

pub open_done : (d : Draft) (kind rule room : ℕ) (d' : Draft) → open_step d kind rule room ≡ Ok d'
    → (makes kind rule ≡ true) × (4 ≤ room) × (d' ≡ record { used = 4; blocks = 0; kind = kind; rule = rule })
unfolding open_step
open_done d kind rule room d' e =
    let fresh : Draft = record { used = 4; blocks = 0; kind = kind; rule = rule } in
    let p = passed (not (makes kind rule)) _ _ _ (not_done _ d d') e in
    let q = passed (ltb room 4) _ _ _ (not_done _ d d') p.1 in
    let same : d' ≡ fresh = cc q.1 in
    (not-false (makes kind rule) p.0, ltb-false room 4 q.0, same)

-- a block that is added passed every test
pub add_done : (d : Draft) (room time n : ℕ) (d' : Draft) → add_step d room time n ≡ Ok d'
    → (bad_draft d room ≡ false) × (bad_block d n ≡ false) × (bad_time d.rule time ≡ false) × (stray_time d.rule time ≡ false)
    × (grown d n ≤ room) × (d' ≡ draft_added d n)
unfolding add_step
add_done d room time n d' e =
    let p = passed (bad_draft d room) _ _ _ (not_done _ d d') e in
    let q = passed (bad_block d n) _ _ _ (not_done _ d d') p.1 in
    let r = passed (bad_time d.rule time) _ _ _ (not_done _ d d') q.1 in
    let s = passed (stray_time d.rule time) _ _ _ (not_done _ d d') r.1 in
    let t = passed (ltb room (grown d n)) _ _ _ (not_done _ d d') s.1 in
    let same : d' ≡ draft_added d n = cc t.1 in
    (p.0, q.0, r.0, s.0, ltb-false room (grown d n) t.0, same)

pub close_done : (d : Draft) (room : ℕ) (d' : Draft) → close_step d room ≡ Ok d' → (bad_draft d room ≡ false) × (d.used ≡ 4 → ⊥) × (d' ≡ d)
unfolding close_step
close_done d room d' e =
    let p = passed (bad_draft d room) _ _ _ (not_done _ d d') e in
    let q = passed (eqb d.used 4) _ _ _ (not_done _ d d') p.1 in
    let same : d' ≡ d = cc q.1 in
    (p.0, eqb-false d.used 4 q.0, same)

-- closing that is not refused is done
pub close_told : (d : Draft) (len : ℕ) → (step_told (close_step d len)).refusal.number ≡ 0 → close_step d len ≡ Ok d
unfolding close_step
close_told d len = told (bad_draft d len) _ _ (λ e. absurd (omega arith)) (told (eqb d.used 4) _ _ (λ e. absurd (omega arith)) (λ e. refl))
  where
    told : (t : Bool) (r : Refusal) (rest : Result Draft (Refusal × Draft)) → (r.number ≡ 0 → ⊥) → ((step_told rest).refusal.number ≡ 0 → rest ≡ Ok d)
        → (step_told (pick t (denied r d) rest)).refusal.number ≡ 0 → pick t (denied r d) rest ≡ Ok d
    told true r rest other f e = absurd (other e)
    told false r rest other f e = f e

-- ---- steps that are denied: the state given is handed back

abbrev Back : Draft → Result Draft (Refusal × Draft) → Type 0
Back d s = (r : Refusal) (d' : Draft) → s ≡ denied r d' → d' ≡ d

pub denied_same : (x y : Refusal × Draft) → ◌≡◌ {A = Result Draft (Refusal × Draft)} (Err x) (Err y) → x ≡ y
denied_same x y e = cc e

back_denied : (r : Refusal) (d : Draft) → Back d (denied r d)
back_denied r d r' d' e = ap (λ (p : Refusal × Draft). p.1) (sym (denied_same _ _ e))

back_done : (d new : Draft) → Back d (Ok new)
back_done d new r d' e = absurd (not_done r d' new (sym e))

back_pick : (t : Bool) (d : Draft) (x y : Result Draft (Refusal × Draft)) → Back d x → Back d y → Back d (pick t x y)
back_pick true d x y f g = f
back_pick false d x y f g = g

pub open_denied : (d : Draft) (kind rule room : ℕ) (r : Refusal) (d' : Draft) → open_step d kind rule room ≡ denied r d' → d' ≡ d
unfolding open_step
open_denied d kind rule room =
    back_pick (not (makes kind rule)) d _ _ (back_denied _ d)
    (back_pick (ltb room 4) d _ _ (back_denied _ d)
    (back_done d _))

pub add_denied : (d : Draft) (room time n : ℕ) (r : Refusal) (d' : Draft) → add_step d room time n ≡ denied r d' → d' ≡ d
unfolding add_step
add_denied d room time n =
    back_pick (bad_draft d room) d _ _ (back_denied _ d)
    (back_pick (bad_block d n) d _ _ (back_denied _ d)
    (back_pick (bad_time d.rule time) d _ _ (back_denied _ d)
    (back_pick (stray_time d.rule time) d _ _ (back_denied _ d)
    (back_pick (ltb room (grown d n)) d _ _ (back_denied _ d)
    (back_done d _)))))

pub close_denied : (d : Draft) (room : ℕ) (r : Refusal) (d' : Draft) → close_step d room ≡ denied r d' → d' ≡ d
unfolding close_step
close_denied d room =
    back_pick (bad_draft d room) d _ _ (back_denied _ d)
    (back_pick (eqb d.used 4) d _ _ (back_denied _ d)
    (back_done d _))

-- ---- what a step leaves in its buffer

pub buf_kept : (s : Result Draft (Refusal × Draft)) (r : Refusal × Draft) (old : List ℕ) (at : ℕ) (vs : List ℕ) → s ≡ Err r → old ≡ buf_after s old at vs
unfolding buf_after
buf_kept s r old at vs e = simp e

pub buf_put : (s : Result Draft (Refusal × Draft)) (d : Draft) (old : List ℕ) (at : ℕ) (vs : List ℕ) → s ≡ Ok d → splice old at vs ≡ buf_after s old at vs
unfolding buf_after
buf_put s d old at vs e = simp e

-- ---- the bytes of a block

-- four writes one behind the other are one block
pub block_put : (form : Form) (time upper : ℕ) (bytes : List ℕ) (head at : ℕ) (b₀ b₁ b₂ b₃ b₄ : List ℕ) → head ≡ at + stamp_length form
    → at + block_size form (length bytes) ≤ length b₀
    → b₁ ≡ splice b₀ at (bytes_of (stamp_length form) time)
    → b₂ ≡ splice b₁ head (bytes_of 4 (upper * 2 ^ 16 + length bytes))
    → b₃ ≡ splice b₂ (head + 4) bytes
    → b₄ ≡ splice b₃ (head + 4 + length bytes) (replicate (length bytes % 2) 0)
    → b₄ ≡ splice b₀ at (block_bytes form (entry_of time upper bytes))
unfolding block_bytes
block_put form time upper bytes head at b₀ b₁ b₂ b₃ b₄ is fits e₁ e₂ e₃ e₄ =
    let stamp = bytes_of (stamp_length form) time in
    let word = bytes_of 4 (upper * 2 ^ 16 + length bytes) in
    let pad : List ℕ = replicate (length bytes % 2) 0 in
    let n₁ : length stamp ≡ stamp_length form = length_bytes_of (stamp_length form) time in
    let n₂ : length word ≡ 4 = length_bytes_of 4 (upper * 2 ^ 16 + length bytes) in
    let n₄ : length pad ≡ length bytes % 2 = length-replicate {A = ℕ} (length bytes % 2) 0 in
    let m₂ : length (stamp ++ word) ≡ length stamp + length word = length-append stamp word in
    let m₃ : length (stamp ++ word ++ bytes) ≡ length (stamp ++ word) + length bytes = length-append (stamp ++ word) bytes in
    let f₂ : b₂ ≡ splice b₀ at (stamp ++ word) = chain b₀ b₁ b₂ at head stamp word e₁ e₂ (omega arith) (omega arith) in
    let f₃ : b₃ ≡ splice b₀ at (stamp ++ word ++ bytes) = chain b₀ b₂ b₃ at (head + 4) (stamp ++ word) bytes f₂ e₃ (omega arith) (omega arith) in
    chain b₀ b₃ b₄ at (head + 4 + length bytes) (stamp ++ word ++ bytes) pad f₃ e₄ (omega arith) (omega arith)
