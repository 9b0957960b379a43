-- What the writer and the builder's steps say of words, from what they say of narrower numbers.
use Rattle.std.specs.Prelude.{Result, Ok, Err, Some, None}
use mathlib.Core.Path.{◌≡◌, refl, sym, ap, ◌∙◌}
use mathlib.Core.List.{List, [], ◌∷◌}
use mathlib.Core.Bool.{Bool, true, false, not, ◌&&◌, ◌||◌}
use mathlib.Core.Logic.{◌⊎◌, inl, inr}
use Prim.Native.Nat.{ℕ, ◌+◌, ◌-◌, ◌%◌, ◌^◌, ◌<◌, ◌≤◌}
use native.Mathlib.Omega.{arith}
use lib.ListN.{length, drop, get_or, drop_of_length-le}
use lib.Seq.{drop-cons}
use lib.Dec.{ltb, eqb}
use borrow.Author.Tests.{ltb-true, ltb-false, lt-ltb, le-ltb, ne_eqb}
use Rattle.units.specs.Units.{part}
use Rattle.units.specs.Choice.{pick}
use Rattle.units.proofs.Parts.{part_whole}
use Rattle.units.proofs.Choices.{or_true, or_false, and_true}
use Rattle.terms.specs.Refusals.{refused, needing}
use Rattle.terms.specs.declared.Refusal.{Refusal}
use Rattle.body.specs.Blocks.{block_bytes}
use Rattle.builder.specs.Build.{denied, counts, makes, stamped, bad_draft, form_of, fresh_draft, open_step, add_step, entry_of, close_step, buf_after, step_told}
use Rattle.builder.proofs.Drafts.{not_done, denied_same, buf_kept}
use Rattle.builder.specs.declared.Draft.{Draft}
use Rattle.frame.specs.Contents.{contents}
use Rattle.frame.specs.declared.Fields.{Fields}
use Rattle.packet_bytes.specs.Bytes.{packet_bytes}
use Rattle.packet.specs.Write.{write_packet, out_after}
use Rattle.ch11_words.specs.Words.{refusal_size, state_words, draft_words}
use Rattle.ch11.specs.Given.{fields_fit, write_given, draft_of, add_given}

-- the words behind a struct's refusal are the state in them
pub state_kept : (ws : List ℕ) → length ws ≡ refusal_size + 4 → drop refusal_size ws ≡ state_words (draft_of ws)
state_kept ws l =
    drop-cons ws refusal_size 0 (omega arith)
    ∙ rw (drop-cons ws (refusal_size + 1) 0 (omega arith), drop-cons ws (refusal_size + 2) 0 (omega arith), drop-cons ws (refusal_size + 3) 0 (omega arith))
    (ap (λ (rest : List ℕ). get_or ws refusal_size 0 ∷ get_or ws (refusal_size + 1) 0 ∷ get_or ws (refusal_size + 2) 0 ∷ get_or ws (refusal_size + 3) 0 ∷ rest)
    (drop_of_length-le ws {i = refusal_size + 4} (omega arith)))

-- ---- the writer: a field that can hold its value

-- what is taken from words is there unless they are too wide
pub taken : {A : Type 0} (t : Bool) (x y : A) → pick t None (Some x) ≡ Some y → (t ≡ false) × (y ≡ x)
taken true x y e = let z : ◌≡◌ {A = ℕ} 0 1 = cc in absurd (omega arith)
taken false x y e = (refl, cc)

pub not_taken : {A : Type 0} (t : Bool) (x : A) → pick t None (Some x) ≡ None → t ≡ true
not_taken true x e = refl
not_taken false x e = let z : ◌≡◌ {A = ℕ} 0 1 = cc in absurd (omega arith)

pub fits : (f : Fields) → fields_fit f ≡ true
    → (f.channel < 2 ^ 16) × (f.version < 256) × (f.sequence < 256) × (f.flags < 256) × (f.kind < 256)
fits f e =
    let p = and_true (ltb f.channel (2 ^ 16) && ltb f.version 256 && ltb f.sequence 256 && ltb f.flags 256) (ltb f.kind 256) e in
    let q = and_true (ltb f.channel (2 ^ 16) && ltb f.version 256 && ltb f.sequence 256) (ltb f.flags 256) p.0 in
    let r = and_true (ltb f.channel (2 ^ 16) && ltb f.version 256) (ltb f.sequence 256) q.0 in
    let s = and_true (ltb f.channel (2 ^ 16)) (ltb f.version 256) r.0 in
    (ltb-true f.channel (2 ^ 16) s.0, ltb-true f.version 256 s.1, ltb-true f.sequence 256 r.1, ltb-true f.flags 256 q.1, ltb-true f.kind 256 p.1)

pub unfit : (f : Fields) (body : List ℕ) (room : ℕ) (b : Bool) (r : Refusal) → b ≡ fields_fit f → not b ≡ true → r ≡ refused 17 0 → Err r ≡ write_given (contents f body) room
unfolding write_given
unfit f body room b r is e q = let wide : not (fields_fit f) ≡ true = ap not (sym is) ∙ e in rw (q, wide)

pub fit_as : (g f : Fields) (body : List ℕ) (room : ℕ) (b : Bool) (x : Result ℕ Refusal) (old new : List ℕ) → b ≡ fields_fit f → not b ≡ false → g ≡ f → x ≡ write_packet (contents g body) room
    → new ≡ out_after x old (packet_bytes (contents g body)) → (x ≡ write_given (contents f body) room) × (new ≡ out_after x old (packet_bytes (contents f body)))
unfolding write_given
fit_as g f body room b x old new is e q says out =
    let narrow : not (fields_fit f) ≡ false = ap not (sym is) ∙ e in
    let said : x ≡ write_packet (contents f body) room = says ∙ ap (λ (y : Fields). write_packet (contents y body) room) q in
    (rw (narrow) said, out ∙ ap (λ (y : Fields). out_after x old (packet_bytes (contents y body))) q)

-- ---- the builder: a type or a time rule over 255

ends : (a b : Bool) → b ≡ false → (a && b) ≡ false
ends true b e = e
ends false b e = refl

-- is none that opening takes
pub over_makes : (kind rule : ℕ) → (ltb 255 kind || ltb 255 rule) ≡ true → makes kind rule ≡ false
over_makes kind rule e = go (or_true (ltb 255 kind) (ltb 255 rule) e)
  where
    go : (ltb 255 kind ≡ true) ⊎ (ltb 255 rule ≡ true) → makes kind rule ≡ false
    go (inl k) =
        let far : 255 < kind = ltb-true 255 kind k in
        let a : eqb kind 0x30 ≡ false = ne_eqb kind 0x30 (λ q. omega arith) in
        let b : eqb kind 0x50 ≡ false = ne_eqb kind 0x50 (λ q. omega arith) in
        rw (a, b)
    go (inr k) =
        let far : 255 < rule = ltb-true 255 rule k in
        let a : ltb rule 5 ≡ false = le-ltb rule 5 (omega arith) in
        ends ((eqb kind 0x30 && stamped rule) || eqb kind 0x50) (ltb rule 5) a

pub over_open : (d : Draft) (kind rule len : ℕ) → (ltb 255 kind || ltb 255 rule) ≡ true → open_step d kind rule len ≡ denied (refused 17 0) d
unfolding open_step
over_open d kind rule len e = rw (over_makes kind rule e)

one_of : (a b c : Bool) → b ≡ true → (a || b || c) ≡ true
one_of true b c e = refl
one_of false b c e = rw (e)

pub over_draft : (d : Draft) (len : ℕ) → (ltb 255 d.kind || ltb 255 d.rule) ≡ true → bad_draft d len ≡ true
over_draft d len e = one_of (ltb len d.used || ltb d.used 4) (not (makes d.kind d.rule)) (counts d.kind && ltb 65535 d.blocks) (ap not (over_makes d.kind d.rule e))

pub over_add : (d : Draft) (len time upper n : ℕ) → (ltb 255 d.kind || ltb 255 d.rule) ≡ true → add_given d len time upper n ≡ denied (refused 1 0) d
unfolding add_given
over_add d len time upper n e = rw (over_draft d len e)

pub over_close : (d : Draft) (len : ℕ) → (ltb 255 d.kind || ltb 255 d.rule) ≡ true → close_step d len ≡ denied (refused 1 0) d
unfolding close_step
over_close d len e = rw (over_draft d len e)

-- else both fit in a byte
pub in_byte : (kind rule : ℕ) → (ltb 255 kind || ltb 255 rule) ≡ false → (kind ≤ 255) × (rule ≤ 255)
in_byte kind rule e = let p = or_false (ltb 255 kind) (ltb 255 rule) e in (ltb-false 255 kind p.0, ltb-false 255 rule p.1)

-- ---- opening does not look at the state

pub open_any : (d : Draft) (kind rule len : ℕ) (d' : Draft) → open_step fresh_draft kind rule len ≡ Ok d' → open_step d kind rule len ≡ Ok d'
unfolding open_step
open_any d kind rule len d' e = go (makes kind rule) (ltb len 4) e
  where
    opened : Result Draft (Refusal × Draft)
    opened = Ok (record { used = 4; blocks = 0; kind = kind; rule = rule })

    go : (m t : Bool) → pick (not m) (denied (refused 17 0) fresh_draft) (pick t (denied (needing 4 (refused 16 0)) fresh_draft) opened) ≡ Ok d'
        → pick (not m) (denied (refused 17 0) d) (pick t (denied (needing 4 (refused 16 0)) d) opened) ≡ Ok d'
    go true true q = absurd (not_done _ fresh_draft d' q)
    go true false q = q
    go false t q = absurd (not_done _ fresh_draft d' q)

pub open_back : (d : Draft) (kind rule len : ℕ) (f : Refusal) (d' : Draft) → open_step fresh_draft kind rule len ≡ denied f d' → open_step d kind rule len ≡ denied f d
unfolding open_step
open_back d kind rule len f d' e = go (makes kind rule) (ltb len 4) e
  where
    opened : Draft
    opened = record { used = 4; blocks = 0; kind = kind; rule = rule }

    go : (m t : Bool) → pick (not m) (denied (refused 17 0) fresh_draft) (pick t (denied (needing 4 (refused 16 0)) fresh_draft) (Ok opened)) ≡ denied f d'
        → pick (not m) (denied (refused 17 0) d) (pick t (denied (needing 4 (refused 16 0)) d) (Ok opened)) ≡ denied f d
    go true true q = let same : needing 4 (refused 16 0) ≡ f = ap (λ (p : Refusal × Draft). p.0) (denied_same _ _ q) in ap (λ (r : Refusal). denied r d) same
    go true false q = absurd (not_done f d' opened (sym q))
    go false t q = let same : refused 17 0 ≡ f = ap (λ (p : Refusal × Draft). p.0) (denied_same _ _ q) in ap (λ (r : Refusal). denied r d) same

-- ---- adding: the upper half

twice : {A : Type 0} (t : Bool) (x y : A) → pick t x y ≡ pick t x (pick t x y)
twice true x y = refl
twice false x y = refl

pub upper_fits : (d : Draft) (len time upper n : ℕ) → upper ≤ 65535 → add_step d len time n ≡ add_given d len time upper n
unfolding add_given add_step
upper_fits d len time upper n e = rw (le-ltb 65535 upper e) (twice (bad_draft d len) (denied (refused 1 0) d) _)

-- a block of no bytes is refused as an upper half that does not fit is
pub upper_over : (d : Draft) (len time upper n : ℕ) → 65535 < upper → add_step d len time 0 ≡ add_given d len time upper n
unfolding add_given add_step
upper_over d len time upper n e = rw (lt-ltb 65535 upper e)

-- and nothing is written
pub upper_kept : (d : Draft) (len time upper n : ℕ) (old : List ℕ) (at : ℕ) (vs : List ℕ) → 65535 < upper → buf_after (add_given d len time upper n) old at vs ≡ old
unfolding add_given buf_after
upper_kept d len time upper n old at vs e = rw (lt-ltb 65535 upper e) (go (bad_draft d len))
  where
    go : (t : Bool) → buf_after (pick t (denied (refused 1 0) d) (denied (refused 17 0) d)) old at vs ≡ old
    go true = refl
    go false = refl

-- ---- what a function here gives, from what those that it calls give

-- words and buffer of a step that is refused with the state given
pub refused_as : (s : Result Draft (Refusal × Draft)) (f g : Refusal) (d : Draft) (words old : List ℕ) (at : ℕ) (vs : List ℕ) → words ≡ draft_words (step_told (denied f d)) → f ≡ g
    → s ≡ denied g d → (words ≡ draft_words (step_told s)) × (old ≡ buf_after s old at vs)
refused_as s f g d words old at vs w e q =
    (w ∙ ap (λ (x : Refusal). draft_words (step_told (denied x d))) e ∙ ap (λ (t : Result Draft (Refusal × Draft)). draft_words (step_told t)) (sym q), buf_kept s (g, d) old at vs q)

-- words and buffer of a step on the state e, which is d
pub step_as : (step : Draft → Result Draft (Refusal × Draft)) (at : Draft → ℕ) (vs : Draft → List ℕ) (e d : Draft) (s : Result Draft (Refusal × Draft)) (words old new : List ℕ) → e ≡ d → s ≡ step e
    → words ≡ draft_words (step_told s) → new ≡ buf_after s old (at e) (vs e) → (words ≡ draft_words (step_told (step d))) × (new ≡ buf_after (step d) old (at d) (vs d))
step_as step at vs e d s words old new q is w b =
    let stepped : s ≡ step d = is ∙ ap step q in
    (w ∙ ap (λ (t : Result Draft (Refusal × Draft)). draft_words (step_told t)) stepped, b ∙ ap (λ (x : Draft). buf_after s old (at x) (vs x)) q ∙ ap (λ (t : Result Draft (Refusal × Draft)). buf_after t old (at d) (vs d)) stepped)

-- opening, from what it says to a blank state
module _ (blank d : Draft) (kind rule len : ℕ) (s : Result Draft (Refusal × Draft)) (is-blank : blank ≡ fresh_draft) (is : s ≡ open_step blank kind rule len) where
  from_blank : s ≡ open_step fresh_draft kind rule len
  from_blank = is ∙ ap (λ (x : Draft). open_step x kind rule len) is-blank

  pub opened_as : (d' : Draft) (words old new : List ℕ) (at : ℕ) (vs : List ℕ) → s ≡ Ok d' → words ≡ draft_words (step_told s) → new ≡ buf_after s old at vs
      → (words ≡ draft_words (step_told (open_step d kind rule len))) × (new ≡ buf_after (open_step d kind rule len) old at vs)
  opened_as d' words old new at vs done w b =
      let same : s ≡ open_step d kind rule len = done ∙ sym (open_any d kind rule len d' (sym from_blank ∙ done)) in
      (w ∙ ap (λ (t : Result Draft (Refusal × Draft)). draft_words (step_told t)) same, b ∙ ap (λ (t : Result Draft (Refusal × Draft)). buf_after t old at vs) same)

  pub unopened_as : (f : Refusal) (d' : Draft) (words old new : List ℕ) (at : ℕ) (vs : List ℕ) → s ≡ denied f d' → words ≡ draft_words (step_told (denied f d))
      → new ≡ buf_after s old at vs → (words ≡ draft_words (step_told (open_step d kind rule len))) × (new ≡ buf_after (open_step d kind rule len) old at vs)
  unopened_as f d' words old new at vs denies w b =
      let back = open_back d kind rule len f d' (sym from_blank ∙ denies) in
      (w ∙ ap (λ (t : Result Draft (Refusal × Draft)). draft_words (step_told t)) (sym back), b ∙ sym (buf_kept s (f, d') old at vs denies) ∙ buf_kept (open_step d kind rule len) (f, d) old at vs back)

-- adding with an upper half that does not fit, from what adding no bytes says
pub upper_as : (e d : Draft) (s : Result Draft (Refusal × Draft)) (len time upper n : ℕ) (words old new : List ℕ) (at at' : ℕ) (vs vs' : List ℕ) → 65535 < upper → e ≡ d → s ≡ add_step e len time 0
    → words ≡ draft_words (step_told s) → new ≡ buf_after s old at vs
    → (words ≡ draft_words (step_told (add_given d len time upper n))) × (new ≡ buf_after (add_given d len time upper n) old at' vs')
upper_as e d s len time upper n words old new at at' vs vs' far q is w b =
    let same : s ≡ add_given d len time upper n = is ∙ ap (λ (x : Draft). add_step x len time 0) q ∙ upper_over d len time upper n far in
    let kept : new ≡ old = b ∙ ap (λ (t : Result Draft (Refusal × Draft)). buf_after t old at vs) same ∙ upper_kept d len time upper n old at vs far in
    (w ∙ ap (λ (t : Result Draft (Refusal × Draft)). draft_words (step_told t)) same, kept ∙ sym (upper_kept d len time upper n old at' vs' far))

-- adding the first k bytes, which are none where the upper half does not fit
module _ (e d : Draft) (s : Result Draft (Refusal × Draft)) (len time upper k : ℕ) (bytes words old new : List ℕ) (q : e ≡ d) (is : s ≡ add_step e len time (length (part bytes 0 (k - 0))))
    (w : words ≡ draft_words (step_told s)) (b : new ≡ buf_after s old e.used (block_bytes (form_of e) (entry_of time (upper % 0x10000) (part bytes 0 (k - 0))))) where
  abbrev As : Type 0
  As =
      (words ≡ draft_words (step_told (add_given d len time upper (length bytes))))
      × (new ≡ buf_after (add_given d len time upper (length bytes)) old d.used (block_bytes (form_of d) (entry_of time upper bytes)))

  over : 65535 < upper → k ≡ 0 → As
  over far none =
      let ended : part bytes 0 (k - 0) ≡ [] = rw none refl in
      upper_as e d s len time upper (length bytes) words old new e.used d.used _ _ far q (is ∙ ap (λ (l : List ℕ). add_step e len time (length l)) ended) w b

  within : upper ≤ 65535 → k ≡ length bytes → As
  within near all =
      let whole : part bytes 0 (k - 0) ≡ bytes = rw all (part_whole bytes) in
      let same : upper % 0x10000 ≡ upper = omega arith in
      step_as (λ x. add_given x len time upper (length bytes)) (λ x. x.used) (λ x. block_bytes (form_of x) (entry_of time upper bytes)) e d s words old new q
      (is ∙ ap (λ (l : List ℕ). add_step e len time (length l)) whole ∙ upper_fits e len time upper (length bytes) near) w
      (b ∙ rw (same, whole) refl)

  pub add_as : k ≡ pick (ltb 65535 upper) 0 (length bytes) → As
  add_as h = go (ltb 65535 upper) refl h
    where
      go : (t : Bool) → ltb 65535 upper ≡ t → k ≡ pick t 0 (length bytes) → As
      go true far none = over (ltb-true 65535 upper far) none
      go false near all = within (ltb-false 65535 upper near) all
