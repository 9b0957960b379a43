-- What is said of a packet whose frame is right, from what the functions below say.
use Rattle.std.specs.Prelude.{Result, Ok, Err, Option, Some, None}
use mathlib.Core.Path.{◌≡◌, refl, sym, ap, ◌∙◌}
use mathlib.Core.List.{List}
use mathlib.Core.Bool.{Bool, true, false}
use Prim.Native.Nat.{ℕ, ◌+◌, ◌-◌, ◌≤◌, min}
use native.Mathlib.Omega.{arith}
use native.Mathlib.Decide.{dec_le}
use lib.ListN.{length}
use lib.Dec.{leb, ltb}
use borrow.Author.Tests.{le-leb, lt-leb, lt-ltb, le-ltb, ltb-true}
use Rattle.units.specs.Units.{part}
use Rattle.units.specs.Choice.{pick}
use Rattle.units.proofs.Parts.{length_part}
use Rattle.body.specs.Walk.{opens, open_body}
use Rattle.terms.specs.Refusals.{refused, needing, moved}
use Rattle.body.specs.Answers.{check_body, message_in, message_at, pick_counted, list_of, list_counted, starts_of, lengths_of, filled_after}
use Rattle.body.proofs.Bounds.{faulty_place, message_fits}
use Rattle.terms.specs.declared.TimeRule.{TimeRule}
use Rattle.terms.specs.declared.Refusal.{Refusal}
use Rattle.body.specs.declared.Message.{Message}
use Rattle.body.specs.declared.Unlisted.{Unlisted}
use Rattle.frame.specs.Header.{packet_length, data_length, flags_in, kind_in, header_sum_in, data_sum_in, sum_length, secondary_length, body_at, body_in, fields_in}
use Rattle.frame.specs.Rules.{message_rule}
use Rattle.frame.specs.inner.Lengths.{Sound, Measured}
use Rattle.frame.specs.declared.Layout.{Layout}
use Rattle.frame.specs.declared.Fields.{Fields}
use Rattle.packet.specs.Read.{part_at, packet_in, body_checked, pass_body}
use Rattle.packet.specs.Messages.{count_of, message_count, kth_message, list_answer, list_after, starts, lengths, message_answer}
use Rattle.body.specs.declared.Unlisted.TheVariants.{Faulty, NoRoom}

-- a refused call leaves a list as it was
pub list_kept : (r : Refusal) (entries : ℕ → ℕ) (old : List ℕ) → old ≡ list_after (Err r) entries old
unfolding list_after
list_kept r entries old = refl

-- ---- a packet whose frame is right: w its window's bytes, l where its parts begin, c what the body's check said

module _ (w : List ℕ) (l : Layout) (m : Measured w l) (rule : TimeRule) (ruled : rule ≡ message_rule (flags_in w)) where
  body_is : part w l.body (l.filler - l.body) ≡ body_in w
  body_is =
      let n : l.filler - l.body ≡ data_length w = omega (arith, m.filler, m.body) in
      rw (n, m.body)

  pub checked_is : check_body (kind_in w) rule (part w l.body (l.filler - l.body)) ≡ body_checked w
  unfolding fields_in body_checked
  checked_is = rw (body_is, ruled)

  pub message_is : (k : ℕ) → message_in (kind_in w) rule (part w l.body (l.filler - l.body)) k ≡ message_in (kind_in w) (message_rule (flags_in w)) (body_in w) k
  message_is k = rw (body_is, ruled)

  body_length : Sound w → length (part w l.body (l.filler - l.body)) ≡ data_length w
  body_length s = ap length body_is ∙ length_part w (body_at (flags_in w)) (data_length w) (omega (arith, s.parts, s.there))

  -- a fault's place is within the window
  pub fault_reach : Sound w → (f : Refusal) → check_body (kind_in w) rule (part w l.body (l.filler - l.body)) ≡ Err f → l.body + f.place ≤ length w
  fault_reach s f e =
      let p = faulty_place (kind_in w) rule (part w l.body (l.filler - l.body)) f e in
      omega (arith, p, body_length s, m.body, s.parts, s.there)

-- ---- 15, or the packet passes

module _ (w : List ℕ) (at : ℕ) where
  -- a type that isn't opened
  pub pass_carried : (p : ℕ) → p ≡ packet_length w → opens (kind_in w) ≡ false → Ok p ≡ pass_body (body_checked w) w at
  unfolding fields_in pass_body body_checked check_body open_body
  pass_carried p q e = rw (e, q)

  pub pass_counted : (n p : ℕ) → body_checked w ≡ Ok n → p ≡ packet_length w → Ok p ≡ pass_body (body_checked w) w at
  unfolding pass_body
  pass_counted n p e q = rw (e, q)

  pub pass_faulty : (f r : Refusal) (body : ℕ) → body_checked w ≡ Err f → body ≡ body_at (flags_in w) → r ≡ moved (at + body) f
      → Err r ≡ pass_body (body_checked w) w at
  unfolding pass_body
  pass_faulty f r body e b q = rw (e, q, b)

-- the packet's record
pub packet_is : (w : List ℕ) (at base : ℕ) (l : Layout) (f : Fields) (p d h x : ℕ) → Sound w → Measured w l → f ≡ fields_in w → p ≡ packet_length w → d ≡ data_length w
    → h ≡ header_sum_in w → x ≡ data_sum_in w
    → record {
      fields = f;
      length = p;
      data_length = d;
      header_sum = h;
      data_sum = x;
      recording_place = base;
      header = part_at at 24;
      secondary = part_at (at + 24) (l.body - 24);
      body = part_at (at + l.body) (l.filler - l.body);
      filler = part_at (at + l.filler) (l.sum - l.filler);
      sum = part_at (at + l.sum) (p - l.sum);
    }
    ≡ packet_in w at base
unfolding packet_in
packet_is w at base l f p d h x s m ef ep ed eh ex =
    let e₁ : l.body - 24 ≡ secondary_length (flags_in w) = omega (arith, m.body) in
    let e₂ : l.filler - l.body ≡ data_length w = omega (arith, m.filler, m.body) in
    let e₃ : p - l.sum ≡ sum_length (flags_in w) = omega (arith, m.sum, s.parts) in
    λ i. record {
      fields = ef i;
      length = ep i;
      data_length = ed i;
      header_sum = eh i;
      data_sum = ex i;
      recording_place = base;
      header = part_at at 24;
      secondary = part_at (at + 24) (e₁ i);
      body = part_at (at + m.body i) (e₂ i);
      filler = part_at (at + m.filler i) (m.sum i - m.filler i);
      sum = part_at (at + m.sum i) (e₃ i);
    }

-- ---- the lists

-- the body's answer as the packet's
abbrev pub from_listed : ℕ → ℕ → Result ℕ Unlisted → Result ℕ Refusal
from_listed at body (Ok n) = Ok n
from_listed at body (Err (Faulty f)) = Err (moved (at + body) f)
from_listed at body (Err (NoRoom n)) = Err (needing n (refused 16 at))

room_same : (at body m n : ℕ) → from_listed at body (pick (leb n m) (Ok n) (Err (NoRoom n))) ≡ pick (ltb m n) (Err (needing n (refused 16 at))) (Ok n)
room_same at body m n = go (dec_le n m)
  where
    go : Dec (n ≤ m) → from_listed at body (pick (leb n m) (Ok n) (Err (NoRoom n))) ≡ pick (ltb m n) (Err (needing n (refused 16 at))) (Ok n)
    go (yes h) = rw (le-leb n m h, le-ltb m n h)
    go (no h) = rw (lt-leb n m (omega arith), lt-ltb m n (omega arith))

pub listed_is : (w : List ℕ) (at len₁ len₂ : ℕ) (c : Result ℕ Refusal)
    → from_listed at (body_at (flags_in w)) (list_counted len₁ len₂ c) ≡ list_answer (pass_body c w at) at (count_of c) (min len₁ len₂)
unfolding list_counted list_answer pass_body
listed_is w at len₁ len₂ (Ok n) = room_same at (body_at (flags_in w)) (min len₁ len₂) n
listed_is w at len₁ len₂ (Err f) = refl

pub after_listed : (at body : ℕ) (x : Result ℕ Unlisted) (f g : ℕ → ℕ) (old : List ℕ) → f ≡ g → filled_after x f old ≡ list_after (from_listed at body x) g old
unfolding filled_after list_after
after_listed at body (Ok n) f g old e = rw e
after_listed at body (Err (Faulty r)) f g old e = refl
after_listed at body (Err (NoRoom n)) f g old e = refl

module _ (w : List ℕ) (at : ℕ) (l : Layout) (m : Measured w l) (rule : TimeRule) (ruled : rule ≡ message_rule (flags_in w)) where
  abbrev bytes : List ℕ
  bytes = part w l.body (l.filler - l.body)

  list_answer_lem : (len₁ len₂ : ℕ) → from_listed at l.body (list_of (kind_in w) rule bytes len₁ len₂) ≡ list_answer (pass_body (body_checked w) w at) at (message_count w) (min len₁ len₂)
  unfolding list_of message_count
  list_answer_lem len₁ len₂ = rw (checked_is w l m rule ruled, m.body) (listed_is w at len₁ len₂ (body_checked w))

  starts_are : starts_of l.body (message_in (kind_in w) rule bytes) ≡ starts w
  unfolding kth_message
  starts_are = λ i k. m.body i + (message_is w l m rule ruled k i).start

  lengths_are : lengths_of (message_in (kind_in w) rule bytes) ≡ lengths w
  unfolding kth_message
  lengths_are = λ i k. (message_is w l m rule ruled k i).length

  -- x is what the body's lister said, in the case y; a is what the code makes of it
  pub list_says : (len₁ len₂ : ℕ) (x y : Result ℕ Unlisted) (a : Result ℕ Refusal) (olds news oldl newl : List ℕ) → x ≡ y → a ≡ from_listed at l.body y
      → x ≡ list_of (kind_in w) rule bytes len₁ len₂
      → news ≡ filled_after x (starts_of l.body (message_in (kind_in w) rule bytes)) olds
      → newl ≡ filled_after x (lengths_of (message_in (kind_in w) rule bytes)) oldl
      → (a ≡ list_answer (pass_body (body_checked w) w at) at (message_count w) (min len₁ len₂))
      × (news ≡ list_after a (starts w) olds)
      × (newl ≡ list_after a (lengths w) oldl)
  list_says len₁ len₂ x y a olds news oldl newl given made says lists listl =
      let e : a ≡ from_listed at l.body x = made ∙ ap (from_listed at l.body) (sym given) in (
        e ∙ ap (from_listed at l.body) says ∙ list_answer_lem len₁ len₂,
        lists ∙ after_listed at l.body x _ (starts w) olds starts_are ∙ ap (λ (z : Result ℕ Refusal). list_after z (starts w) olds) (sym e),
        listl ∙ after_listed at l.body x _ (lengths w) oldl lengths_are ∙ ap (λ (z : Result ℕ Refusal). list_after z (lengths w) oldl) (sym e),
      )

pub unlisted_faulty : (kind : ℕ) (rule : TimeRule) (bs : List ℕ) (len₁ len₂ : ℕ) (f : Refusal) → list_of kind rule bs len₁ len₂ ≡ Err (Faulty f) → check_body kind rule bs ≡ Err f
unfolding list_of list_counted
unlisted_faulty kind rule bs len₁ len₂ f e = go (check_body kind rule bs) refl e
  where
    full : (t : Bool) (n : ℕ) → pick t (Ok n) (Err (NoRoom n)) ≡ Err (Faulty f) → check_body kind rule bs ≡ Err f
    full true n q = let z : ◌≡◌ {A = ℕ} 0 1 = cc in absurd (omega arith)
    full false n q = let z : ◌≡◌ {A = ℕ} 0 1 = cc in absurd (omega arith)

    go : (c : Result ℕ Refusal) → check_body kind rule bs ≡ c → list_counted len₁ len₂ c ≡ Err (Faulty f) → check_body kind rule bs ≡ Err f
    go (Ok n) h q = full (leb n (min len₁ len₂)) n q
    go (Err g) h q = h ∙ cc

-- ---- one message

-- a message of the body as the packet's
abbrev pub in_packet : ℕ → Message → Message
in_packet body m = record { time = m.time; id = m.id; start = body + m.start; length = m.length }

abbrev pub from_picked : ℕ → ℕ → Result (Option Message) Refusal → Result Message Refusal
from_picked at body (Ok (Some m)) = Ok (in_packet body m)
from_picked at body (Err f) = Err (moved (at + body) f)
from_picked at body (Ok None) = Err (refused 17 at)

number_same : (at body k n : ℕ) (m : Message) → from_picked at body (pick (ltb k n) (Ok (Some m)) (Ok None)) ≡ pick (leb n k) (Err (refused 17 at)) (Ok (in_packet body m))
number_same at body k n m = go (dec_le n k)
  where
    go : Dec (n ≤ k) → from_picked at body (pick (ltb k n) (Ok (Some m)) (Ok None)) ≡ pick (leb n k) (Err (refused 17 at)) (Ok (in_packet body m))
    go (yes h) = rw (le-leb n k h, le-ltb k n h)
    go (no h) = rw (lt-leb n k (omega arith), lt-ltb k n (omega arith))

pub picked_is : (w : List ℕ) (at k : ℕ) (m : Message) (c : Result ℕ Refusal)
    → from_picked at (body_at (flags_in w)) (pick_counted k m c) ≡ message_answer (pass_body c w at) at (count_of c) k (in_packet (body_at (flags_in w)) m)
unfolding pick_counted message_answer pass_body
picked_is w at k m (Ok n) = number_same at (body_at (flags_in w)) k n m
picked_is w at k m (Err f) = refl

module _ (w : List ℕ) (at : ℕ) (l : Layout) (m : Measured w l) (rule : TimeRule) (ruled : rule ≡ message_rule (flags_in w)) (k : ℕ) where
  abbrev whole : List ℕ
  whole = part w l.body (l.filler - l.body)

  message_answer_lem : from_picked at l.body (message_at (kind_in w) rule whole k) ≡ message_answer (pass_body (body_checked w) w at) at (message_count w) k (kth_message w k)
  unfolding message_at message_count kth_message
  message_answer_lem =
      rw (checked_is w l m rule ruled, message_is w l m rule ruled k, m.body)
      (picked_is w at k (message_in (kind_in w) (message_rule (flags_in w)) (body_in w) k) (body_checked w))

  -- x is what the body's call said, in the case y; a is what the code makes of it
  pub message_says : (x y : Result (Option Message) Refusal) (a : Result Message Refusal) → x ≡ y → a ≡ from_picked at l.body y → x ≡ message_at (kind_in w) rule whole k
      → a ≡ message_answer (pass_body (body_checked w) w at) at (message_count w) k (kth_message w k)
  message_says x y a given made says = made ∙ ap (from_picked at l.body) (sym given ∙ says) ∙ message_answer_lem

pub unread_faulty : (kind : ℕ) (rule : TimeRule) (bs : List ℕ) (k : ℕ) (f : Refusal) → message_at kind rule bs k ≡ Err f → check_body kind rule bs ≡ Err f
unfolding message_at pick_counted
unread_faulty kind rule bs k f e = go (check_body kind rule bs) refl e
  where
    some : (t : Bool) → pick t (Ok (Some (message_in kind rule bs k))) (Ok None) ≡ Err f → check_body kind rule bs ≡ Err f
    some true q = let z : ◌≡◌ {A = ℕ} 0 1 = cc in absurd (omega arith)
    some false q = let z : ◌≡◌ {A = ℕ} 0 1 = cc in absurd (omega arith)

    go : (c : Result ℕ Refusal) → check_body kind rule bs ≡ c → pick_counted k (message_in kind rule bs k) c ≡ Err f → check_body kind rule bs ≡ Err f
    go (Ok n) h q = some (ltb k n) q
    go (Err g) h q = h ∙ cc

-- a message's bytes begin within the body
one_start : (kind : ℕ) (rule : TimeRule) (bs : List ℕ) (k : ℕ) (m : Message) → message_at kind rule bs k ≡ Ok (Some m) → m.start ≤ length bs
unfolding message_at pick_counted
one_start kind rule bs k m e = go (check_body kind rule bs) refl e
  where
    inside_of : (n : ℕ) → check_body kind rule bs ≡ Ok n → (t : Bool) → ltb k n ≡ t
        → ◌≡◌ {A = Result (Option Message) Refusal} (pick t (Ok (Some (message_in kind rule bs k))) (Ok None)) (Ok (Some m)) → m.start ≤ length bs
    inside_of n h true t q =
        let same : (message_in kind rule bs k).start ≡ m.start = cc in
        omega (arith, message_fits kind rule bs n k h (ltb-true k n t), same)
    inside_of n h false t q = let z : ◌≡◌ {A = ℕ} 0 1 = cc in absurd (omega arith)

    go : (c : Result ℕ Refusal) → check_body kind rule bs ≡ c → pick_counted k (message_in kind rule bs k) c ≡ Ok (Some m) → m.start ≤ length bs
    go (Ok n) h q = inside_of n h (ltb k n) refl q
    go (Err g) h q = let z : ◌≡◌ {A = ℕ} 0 1 = cc in absurd (omega arith)

-- and within the window
pub start_reach : (w : List ℕ) (l : Layout) (m : Measured w l) (rule : TimeRule) → rule ≡ message_rule (flags_in w) → Sound w → (k : ℕ) (x : Message)
    → message_at (kind_in w) rule (part w l.body (l.filler - l.body)) k ≡ Ok (Some x) → l.body + x.start ≤ length w
start_reach w l m rule ruled s k x e =
    let p = one_start (kind_in w) rule (part w l.body (l.filler - l.body)) k x e in
    omega (arith, p, body_length w l m rule ruled s, m.body, s.parts, s.there)
