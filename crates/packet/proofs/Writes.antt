-- What the writer says, from what the functions below it say.
use Rattle.std.specs.Prelude.{Result, Ok, Err}
use mathlib.Core.Path.{◌≡◌, refl, sym, ap, ◌∙◌}
use mathlib.Core.List.{List, [], ◌∷◌}
use mathlib.Core.Bool.{Bool, true, false, ◌||◌}
use mathlib.Core.Logic.{⊎_elim}
use Prim.Native.Nat.{ℕ, ◌^◌, ◌≤◌, ◌<◌}
use native.Mathlib.Omega.{arith}
use lib.ListN.{length}
use native.Mathlib.Decide.{dec_le}
use lib.Dec.{eqb, ltb}
use borrow.Author.Tests.{eqb-true, eq-eqb, ltb-true, lt-ltb, le-ltb, ltb-false, ne_eqb}
use Rattle.units.specs.Units.{splice}
use Rattle.units.specs.Choice.{pick}
use Rattle.units.proofs.Choices.{and_true, or_true}
use Rattle.terms.specs.Refusals.{refused, needing, placed}
use Rattle.body.specs.Answers.{check_body}
use Rattle.terms.specs.declared.TimeRule.{TimeRule}
use Rattle.terms.specs.declared.Refusal.{Refusal}
use Rattle.frame.specs.declared.Fields.{Fields}
use Rattle.frame.specs.Header.{secondary_bit, length_for}
use Rattle.frame.specs.Rules.{secondary_time_ok, message_rule}
use Rattle.frame.specs.Contents.{Contents}
use Rattle.packet.specs.Read.{contents_checked}
use Rattle.frame.specs.Table.{line, value_lines}
use Rattle.frame.proofs.Tables.{holds, stage_first}
use Rattle.frame.proofs.Frames.{valued_says, lengths_say, limit_cap}
use Rattle.packet.specs.Write.{in_range, writer_lines, writer_refusal, fitted, write_packet, out_after}

-- ---- 17, in words: RTC below 2^48; a secondary time other than 0 only with bit 7 set

pub range_says : (f : Fields) → in_range f ≡ true → (f.rtc < 2 ^ 48) × (secondary_bit f.flags ≡ 0 → f.time ≡ 0)
range_says f t =
    let o = and_true (ltb f.rtc (2 ^ 48)) (eqb (secondary_bit f.flags) 1 || eqb f.time 0) t in (
      ltb-true f.rtc (2 ^ 48) o.0,
      λ none. ⊎_elim (λ h. absurd (omega (arith, eqb-true (secondary_bit f.flags) 1 h))) (eqb-true f.time 0)
          (or_true (eqb (secondary_bit f.flags) 1) (eqb f.time 0) o.1),
    )

pub range_made : (f : Fields) → f.rtc < 2 ^ 48 → (secondary_bit f.flags ≡ 0 → f.time ≡ 0) → in_range f ≡ true
range_made f small none = rw (lt-ltb f.rtc (2 ^ 48) small) (go (dec_le 1 (secondary_bit f.flags)))
  where
    either : (a : Bool) → (a || true) ≡ true
    either true = refl
    either false = refl

    go : Dec (1 ≤ secondary_bit f.flags) → (eqb (secondary_bit f.flags) 1 || eqb f.time 0) ≡ true
    go (yes h) = rw (eq-eqb (secondary_bit f.flags) 1 (omega arith))
    go (no h) = rw (eq-eqb f.time 0 (none (omega arith))) (either (eqb (secondary_bit f.flags) 1))

-- ---- 15 and 16; x is what the body's check said

module _ (c : Contents) (rule : TimeRule) (x : Result ℕ Refusal) (n room : ℕ) (ruled : rule ≡ message_rule c.fields.flags) (says : x ≡ check_body c.fields.kind rule c.body) where
  fitted_as : fitted x n room ≡ fitted (contents_checked c) n room
  fitted_as = ap (λ (y : Result ℕ Refusal). fitted y n room) (says ∙ ap (λ (r : TimeRule). check_body c.fields.kind r c.body) ruled)

  pub fit_short : (k : ℕ) (r : Refusal) → x ≡ Ok k → room < n → r ≡ needing n (refused 16 0) → Err r ≡ fitted (contents_checked c) n room
  unfolding fitted
  fit_short k r e h q = rw (q, ← fitted_as, e, lt-ltb room n h)

  pub fit_room : (k : ℕ) → x ≡ Ok k → n ≤ room → Ok n ≡ fitted (contents_checked c) n room
  unfolding fitted
  fit_room k e h = rw (← fitted_as, e, le-ltb room n h)

  pub fit_faulty : (g r : Refusal) → x ≡ Err g → r ≡ placed 0 g → Err r ≡ fitted (contents_checked c) n room
  unfolding fitted
  fit_faulty g r e q = rw (q, ← fitted_as, e)

-- a packet that is written fits its output
pub written_room : (c : Result ℕ Refusal) (n room k : ℕ) → fitted c n room ≡ Ok k → n ≤ room
unfolding fitted
written_room (Ok m) n room k e = go (ltb room n) refl e
  where
    go : (t : Bool) → ltb room n ≡ t → pick t (Err (needing n (refused 16 0))) (Ok n) ≡ Ok k → n ≤ room
    go true t q = let z : ◌≡◌ {A = ℕ} 0 1 = cc in absurd (omega arith)
    go false t q = ltb-false room n t
written_room (Err r) n room k e = let z : ◌≡◌ {A = ℕ} 0 1 = cc in absurd (omega arith)

-- ---- the whole

module _ (c : Contents) (room : ℕ) where
  pub write_refused : (r : Refusal) → (writer_refusal c.fields (length c.body) ≡ 0 → ⊥) → r ≡ refused (writer_refusal c.fields (length c.body)) 0 → Err r ≡ write_packet c room
  unfolding write_packet
  write_refused r other q = rw (q, ne_eqb (writer_refusal c.fields (length c.body)) 0 other)

  pub write_on : (p : ℕ) → p ≡ length_for c.fields.flags (length c.body) → writer_refusal c.fields (length c.body) ≡ 0 → fitted (contents_checked c) p room ≡ write_packet c room
  unfolding write_packet
  write_on p is z = rw (is, z)

-- P is within its limit
pub write_capped : (f : Fields) (d : ℕ) → writer_refusal f d ≡ 0 → length_for f.flags d ≤ 134217728
unfolding writer_refusal writer_lines
write_capped f d z =
    let lines = value_lines f.channel f.version f.flags f.kind (length_for f.flags d) d in
    let h = holds 17 (in_range f) _ tt z in
    let v = valued_says _ _ _ _ _ _ (stage_first lines (line 12 (secondary_time_ok f.flags f.time) ∷ []) h.1) in
    omega (arith, (lengths_say f.kind f.flags (length_for f.flags d) d v.lengths_ok).within, limit_cap f.kind)

-- ---- the output

pub out_kept : (x : Result ℕ Refusal) (r : Refusal) (old bytes : List ℕ) → x ≡ Err r → old ≡ out_after x old bytes
unfolding out_after
out_kept x r old bytes e = ap (λ (y : Result ℕ Refusal). out_after y old bytes) (sym e)

pub out_put : (x : Result ℕ Refusal) (n : ℕ) (old new bytes : List ℕ) → x ≡ Ok n → new ≡ splice old 0 bytes → new ≡ out_after x old bytes
unfolding out_after
out_put x n old new bytes e q = q ∙ ap (λ (y : Result ℕ Refusal). out_after y old bytes) (sym e)
