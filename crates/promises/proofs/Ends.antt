-- How each call ends: with what was asked for, or with one refusal from the table, whose place is fixed.
use Rattle.std.specs.Prelude.{Result, Ok, Err}
use mathlib.Core.Path.{◌≡◌, refl, sym, ap, ◌∙◌}
use mathlib.Core.List.{List, [], ◌∷◌}
use mathlib.Core.Bool.{Bool, true, false, not, false≢true}
use mathlib.Core.Logic.{◌⊎◌, inl, inr, ⊎_elim, ◌≢◌}
use Prim.Native.Nat.{ℕ, ◌+◌, ◌-◌, min}
use native.Mathlib.Omega.{arith}
use lib.Dec.{eqb, ltb, leb}
use Rattle.units.specs.Choice.{pick}
use Rattle.units.specs.Units.{Bytes}
use Rattle.units.proofs.Parts.{bytes_part}
use Rattle.terms.specs.Refusals.{refused, needing, no_refusal, moved, recorded}
use Rattle.terms.specs.declared.Refusal.{Refusal}
use Rattle.body.specs.declared.Message.{Message}
use Rattle.frame.specs.Header.{flags_in, kind_in, data_length, body_at, body_in, fields_in}
use Rattle.packet.specs.Read.{inside, window, body_checked, pass_body, pass_bytes, pass_window, read_answer, read_packet, PacketTold, packet_told}
use Rattle.packet.specs.Messages.{list_packet, list_told, message_packet, message_told, message_count, kth_message, list_answer, recorded_list, message_answer, recorded_message}
use Rattle.frame.specs.Table.{first, head_lines, value_lines, whole_lines, secondary_lines, trailer_lines, frame_lines}
use Rattle.packet.specs.declared.Packet.{Packet}
use Rattle.promises.specs.Refusals.{OneOf, reader_refusals, lister_refusals, message_refusals}
use Rattle.promises.specs.Endings.{zero_packet, zero_message, Ends, AsFar, read_told, listed_told, given_told, Placed}
use Rattle.promises.specs.Bodies.{BodyAtFault}
use Rattle.promises.specs.Keeps.{type, flags, body, body_bytes}
use Rattle.promises.specs.Reasons.{ElseNone}
use Rattle.packet.proofs.Passes.{barred_passed, pass_in, read_barred}
use Rattle.packet.proofs.Told.{checked_15, read_told_lem, refusal_numbered}
use Rattle.promises.proofs.BodiesKept.{fault_kept}
use Rattle.promises.proofs.Members.{one_among, one_ahead, one_behind}
use Rattle.promises.proofs.Refusing.{numbers, first_one, read_numbered}

-- ---- the reader

-- what is told as a packet is accepted
pub accepted_is : (buf : List ℕ) (s e base : ℕ) (p : Packet) → packet_told (read_packet buf s e base) ≡ read_told no_refusal p → read_packet buf s e base ≡ Ok p
accepted_is buf s e base p is = read_told_lem buf s e base (ap (λ (t : PacketTold). t.refusal.number) is) ∙ ap (λ (t : PacketTold). Ok t.packet) is

-- a refusal of the tests on a window's bytes, without its place in the recording
record PlacedBytes (w : List ℕ) (at : ℕ) (r : Refusal) : Type 0 where
  room : r.room ≡ 0
  outer : r.number ≢ 15 → (r.place ≡ at) × (r.reason ≡ 0)
  inner : r.number ≡ 15 → (place : ℕ) × (r.place ≡ at + body w + place) × BodyAtFault (type w) (flags w) (body_bytes w) place r.reason

-- one that is given at the start, and is not 15
start_placed : (w : List ℕ) (at n : ℕ) → n ≢ 15 → PlacedBytes w at (refused n at)
start_placed w at n other = record { room = refl; outer = λ l. (refl, refl); inner = λ h. absurd (other h) }

body_placed : (w : List ℕ) (at : ℕ) → Bytes w → (x : Result ℕ Refusal) → body_checked w ≡ x → (r : Refusal) → pass_body x w at ≡ Err r → PlacedBytes w at r
unfolding fields_in pass_body body_checked
body_placed w at raw (Ok n) q r h = absurd (barred_passed r _ (sym h))
body_placed w at raw (Err f) q r h =
    let bytes : Bytes (body_in w) = bytes_part w (body_at (flags_in w)) (data_length w) raw in
    let is : moved (at + body_at (flags_in w)) f ≡ r = cc in
    let right = checked_15 w f q in
    rw (← is)
    (record { room = right.1; outer = λ h. absurd (h right.0); inner = λ h. (f.place, refl, fault_kept (kind_in w) (flags_in w) (body_in w) f bytes q) })

-- 15 is none of those that the frame's table gives
frame_other : (w : List ℕ) → first (frame_lines w) ≢ 15
unfolding frame_lines head_lines value_lines whole_lines secondary_lines trailer_lines
frame_other w is = false≢true (one_among 15 (0 ∷ numbers (frame_lines w)) (rw is at (first_one (frame_lines w))))

-- a choice of a refusal at the start, or what is behind it
start_or : (t : Bool) (n at : ℕ) (rest : Result ℕ Refusal) (r : Refusal) → pick t (Err (refused n at)) rest ≡ Err r → (r ≡ refused n at) ⊎ (rest ≡ Err r)
start_or true n at rest r q = inl cc
start_or false n at rest r q = inr q

bytes_placed : (w : List ℕ) (at : ℕ) → Bytes w → (r : Refusal) → pass_bytes w at ≡ Err r → PlacedBytes w at r
unfolding pass_bytes
bytes_placed w at raw r q =
    ⊎_elim
    (λ h. rw h (start_placed w at (first (frame_lines w)) (frame_other w)))
    (body_placed w at raw (body_checked w) refl r)
    (start_or (not (eqb (first (frame_lines w)) 0)) (first (frame_lines w)) at _ r q)

-- what is not 15 has no reason; whatever the bytes are
bytes_else : (w : List ℕ) (at : ℕ) (r : Refusal) → pass_bytes w at ≡ Err r → ElseNone r
unfolding pass_bytes pass_body
bytes_else w at r q other =
    ⊎_elim (λ h. ap (λ (y : Refusal). y.reason) h) (go (body_checked w) refl) (start_or (not (eqb (first (frame_lines w)) 0)) (first (frame_lines w)) at _ r q)
  where
    go : (x : Result ℕ Refusal) → body_checked w ≡ x → pass_body x w at ≡ Err r → r.reason ≡ 0
    go (Ok n) c h = absurd (barred_passed r _ (sym h))
    go (Err f) c h =
        let is : moved (at + body_at (flags_in w)) f ≡ r = cc h in
        absurd (other (sym (ap (λ (y : Refusal). y.number) is) ∙ (checked_15 w f c).0))

module _ (buf : List ℕ) (s e base : ℕ) where
  refused_numbered : (r : Refusal) → read_packet buf s e base ≡ Err r → OneOf r.number reader_refusals
  refused_numbered r q = rw q at (read_numbered buf s e base (rw q (refusal_numbered buf s e base r q)))

  -- a packet that is barred
  barred_numbered : (r : Refusal) → pass_window buf s e base ≡ Err r → OneOf r.number reader_refusals
  barred_numbered r q = refused_numbered (recorded base s r) (sym (read_barred buf s e base r _ q refl))

  window_placed : Bytes buf → (r : Refusal) → pass_window buf s e base ≡ Err r → PlacedBytes (window buf s e) s r
  unfolding pass_window
  window_placed raw r q =
      ⊎_elim
      (λ h. rw h (start_placed (window buf s e) s 1 (λ (z : ◌≡◌ {A = ℕ} 1 15). omega arith)))
      (bytes_placed (window buf s e) s (bytes_part buf s (e - s) raw) r)
      (start_or (not (inside buf s e base)) 1 s _ r q)

  window_else : (r : Refusal) → pass_window buf s e base ≡ Err r → ElseNone r
  unfolding pass_window
  window_else r q other =
      ⊎_elim (λ h. ap (λ (y : Refusal). y.reason) h) (λ h. bytes_else (window buf s e) s r h other) (start_or (not (inside buf s e base)) 1 s _ r q)

  -- its place in the recording is as far from the base as its place from the start
  pub window_recorded : (r : Refusal) → pass_window buf s e base ≡ Err r → AsFar s base r.place (base + (r.place - s))
  unfolding pass_window
  window_recorded r q =
      ⊎_elim
      (λ h. let is : r.place ≡ s = ap (λ (y : Refusal). y.place) h in (0, omega (arith, is), omega (arith, is)))
      (λ h. let place = pass_in (window buf s e) s r h in (r.place - s, omega (arith, place.0), refl))
      (start_or (not (inside buf s e base)) 1 s _ r q)

  pub read_ends : Ends reader_refusals read_told zero_packet (packet_told (read_packet buf s e base))
  read_ends = go (read_packet buf s e base) refl
    where
      go : (x : Result Packet Refusal) → read_packet buf s e base ≡ x → Ends reader_refusals read_told zero_packet (packet_told x)
      go (Ok p) q = inl (p, refl)
      go (Err r) q = inr (r, refl, refused_numbered r q)

  pub read_placed : Bytes buf → (packet_told (read_packet buf s e base)).refusal.number ≢ 0
      → Placed (window buf s e) s base (packet_told (read_packet buf s e base)).refusal
  unfolding read_packet read_answer
  read_placed raw = go (pass_window buf s e base) refl
    where
      go : (x : Result ℕ Refusal) → pass_window buf s e base ≡ x → (packet_told (read_answer x (window buf s e) s base)).refusal.number ≢ 0
          → Placed (window buf s e) s base (packet_told (read_answer x (window buf s e) s base)).refusal
      go (Ok n) q h = absurd (h refl)
      go (Err r) q h =
          let p = window_placed raw r q in
          record { room = p.room; outer = p.outer; inner = p.inner; recorded = window_recorded r q }

-- ---- the lister and one message

module _ (buf : List ℕ) (s e base : ℕ) where
  pub list_ends : (m n : ℕ) → Ends lister_refusals listed_told 0 (list_told (list_packet buf s e base m n))
  unfolding list_packet list_answer
  list_ends m n = go (pass_window buf s e base) (message_count (window buf s e)) refl
    where
      fits : (t : Bool) (count : ℕ) → Ends lister_refusals listed_told 0 (list_told (recorded_list base s (pick t (Err (needing count (refused 16 s))) (Ok count))))
      fits true count = inr (_, refl, one_behind 16 reader_refusals (16 ∷ []) (inl refl))
      fits false count = inl (count, refl)

      go : (x : Result ℕ Refusal) (count : ℕ) → pass_window buf s e base ≡ x
          → Ends lister_refusals listed_told 0 (list_told (recorded_list base s (list_answer x s count (min m n))))
      go (Ok p) count q = fits (ltb (min m n) count) count
      go (Err r) count q = inr (recorded base s r, refl, one_ahead r.number reader_refusals (16 ∷ []) (barred_numbered buf s e base r q))

  pub message_ends : (k : ℕ) → Ends message_refusals given_told zero_message (message_told (message_packet buf s e base k))
  unfolding message_packet message_answer
  message_ends k = go (pass_window buf s e base) (message_count (window buf s e)) (kth_message (window buf s e) k) refl
    where
      there : (t : Bool) (m : Message) → Ends message_refusals given_told zero_message (message_told (recorded_message base s (pick t (Err (refused 17 s)) (Ok m))))
      there true m = inr (_, refl, one_behind 17 reader_refusals (17 ∷ []) (inl refl))
      there false m = inl (m, refl)

      go : (x : Result ℕ Refusal) (count : ℕ) (m : Message) → pass_window buf s e base ≡ x
          → Ends message_refusals given_told zero_message (message_told (recorded_message base s (message_answer x s count k m)))
      go (Ok p) count m q = there (leb count k) m
      go (Err r) count m q = inr (recorded base s r, refl, one_ahead r.number reader_refusals (17 ∷ []) (barred_numbered buf s e base r q))

-- ---- what holds of every refusal: of none, of one that the reader's tests give, and of the calls' own

module _ (buf : List ℕ) (s e base : ℕ) (Holds : Refusal → Type 0) (none : Holds no_refusal)
    (barred : (r : Refusal) → pass_window buf s e base ≡ Err r → Holds (recorded base s r)) where
  pub read_all : Holds (packet_told (read_packet buf s e base)).refusal
  unfolding read_packet read_answer
  read_all = go (pass_window buf s e base) refl
    where
      go : (x : Result ℕ Refusal) → pass_window buf s e base ≡ x → Holds (packet_told (read_answer x (window buf s e) s base)).refusal
      go (Ok n) q = none
      go (Err r) q = barred r q

  pub list_all : ((count : ℕ) → Holds (recorded base s (needing count (refused 16 s)))) → (m n : ℕ) → Holds (list_told (list_packet buf s e base m n)).refusal
  unfolding list_packet list_answer
  list_all full m n = go (pass_window buf s e base) (message_count (window buf s e)) refl
    where
      fits : (t : Bool) (count : ℕ) → Holds (list_told (recorded_list base s (pick t (Err (needing count (refused 16 s))) (Ok count)))).refusal
      fits true count = full count
      fits false count = none

      go : (x : Result ℕ Refusal) (count : ℕ) → pass_window buf s e base ≡ x → Holds (list_told (recorded_list base s (list_answer x s count (min m n)))).refusal
      go (Ok p) count q = fits (ltb (min m n) count) count
      go (Err r) count q = barred r q

  pub message_all : Holds (recorded base s (refused 17 s)) → (k : ℕ) → Holds (message_told (message_packet buf s e base k)).refusal
  unfolding message_packet message_answer
  message_all absent k = go (pass_window buf s e base) (message_count (window buf s e)) (kth_message (window buf s e) k) refl
    where
      there : (t : Bool) (m : Message) → Holds (message_told (recorded_message base s (pick t (Err (refused 17 s)) (Ok m)))).refusal
      there true m = absent
      there false m = none

      go : (x : Result ℕ Refusal) (count : ℕ) (m : Message) → pass_window buf s e base ≡ x
          → Holds (message_told (recorded_message base s (message_answer x s count k m))).refusal
      go (Ok p) count m q = there (leb count k) m
      go (Err r) count m q = barred r q

-- what is not 15 has no reason
module _ (buf : List ℕ) (s e base : ℕ) where
  pub read_else : ElseNone (packet_told (read_packet buf s e base)).refusal
  read_else = read_all buf s e base ElseNone (λ o. refl) (window_else buf s e base)

  pub list_else : (m n : ℕ) → ElseNone (list_told (list_packet buf s e base m n)).refusal
  list_else = list_all buf s e base ElseNone (λ o. refl) (window_else buf s e base) (λ count o. refl)

  pub message_else : (k : ℕ) → ElseNone (message_told (message_packet buf s e base k)).refusal
  message_else = message_all buf s e base ElseNone (λ o. refl) (window_else buf s e base) (λ o. refl)
