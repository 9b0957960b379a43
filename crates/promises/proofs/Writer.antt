-- What the writer's acceptance says, rule by rule, and that it says no more.
use Rattle.std.specs.Prelude.{Result, Ok, Err}
use mathlib.Core.Path.{◌≡◌, refl, ◌∙◌}
use mathlib.Core.Bool.{Bool, true, false, not, ◌||◌}
use Prim.Native.Nat.{ℕ, ◌^◌, ◌≤◌, ◌<◌}
use native.Mathlib.Omega.{arith}
use lib.ListN.{length}
use lib.Dec.{eqb, ltb}
use borrow.Author.Tests.{eqb-true, eqb-false, ltb-true, ltb-false, lt-ltb, le-ltb}
use Rattle.units.specs.Choice.{pick}
use Rattle.units.proofs.Choices.{and_true}
use Rattle.terms.specs.Refusals.{refused, needing}
use Rattle.frame.specs.Header.{secondary_bit}
use Rattle.frame.specs.Rules.{secondary_time_ok}
use Rattle.frame.specs.Table.{first, value_lines}
use Rattle.frame.proofs.Tables.{holds, stage_none, stage_first, stage_second}
use Rattle.frame.proofs.Frames.{Valued, valued_says, valued_passes, value_numbered}
use Rattle.frame.specs.Contents.{Contents, contents_length}
use Rattle.packet.specs.Read.{contents_checked}
use Rattle.packet_bytes.specs.Bytes.{packet_bytes}
use Rattle.packet.proofs.Told.{Says15, given_15}
use Rattle.packet.specs.Write.{writer_lines, writer_refusal, fitted, write_packet, write_told}
use Rattle.packet_bytes.proofs.Puts.{length_packet}
use Rattle.promises.specs.Contents.{Typed, Accepts}
use Rattle.terms.specs.declared.Refusal.{Refusal}

-- 17, 5 to 9, 12 and 15 have nothing against it
pub record Writable (c : Contents) : Type 0 where
  pub rtc : c.fields.rtc < 2 ^ 48
  pub absent : (eqb (secondary_bit c.fields.flags) 1 || eqb c.fields.time 0) ≡ true
  pub values : Valued c.fields.channel c.fields.version c.fields.flags c.fields.kind (contents_length c) (length c.body)
  pub time : secondary_time_ok c.fields.flags c.fields.time ≡ true
  pub count : ℕ
  pub body : contents_checked c ≡ Ok count

-- ---- 17, 5 to 9 and 12

module _ (c : Contents) where
  pub refusal_says : writer_refusal c.fields (length c.body) ≡ 0 → (c.fields.rtc < 2 ^ 48)
      × ((eqb (secondary_bit c.fields.flags) 1 || eqb c.fields.time 0) ≡ true)
      × Valued c.fields.channel c.fields.version c.fields.flags c.fields.kind (contents_length c) (length c.body)
      × (secondary_time_ok c.fields.flags c.fields.time ≡ true)
  unfolding writer_refusal writer_lines
  refusal_says z =
      let f = c.fields in
      let h₁₇ = holds 17 _ _ tt z in
      let r = and_true (ltb f.rtc (2 ^ 48)) (eqb (secondary_bit f.flags) 1 || eqb f.time 0) h₁₇.0 in
      let v = stage_first (value_lines f.channel f.version f.flags f.kind (contents_length c) (length c.body)) _ h₁₇.1 in
      let t = stage_second (value_lines f.channel f.version f.flags f.kind (contents_length c) (length c.body)) _ (value_numbered _ _ _ _ _ _) h₁₇.1 in
      (ltb-true f.rtc (2 ^ 48) r.0, r.1, valued_says _ _ _ _ _ _ v, (holds 12 _ _ tt t).0)

  pub refusal_none : Writable c → writer_refusal c.fields (length c.body) ≡ 0
  unfolding writer_refusal writer_lines first
  refusal_none r =
      let f = c.fields in
      let v = value_lines f.channel f.version f.flags f.kind (contents_length c) (length c.body) in
      rw (lt-ltb f.rtc (2 ^ 48) r.rtc, r.absent)
      (stage_none v _ (value_numbered _ _ _ _ _ _) (valued_passes _ _ _ _ _ _ r.values) ∙ rw r.time)

-- ---- then 15 and 16

refused_number : (n : ℕ) (rest : Result ℕ Refusal) → (write_told (pick (not (eqb n 0)) (Err (refused n 0)) rest)).refusal.number ≡ 0
    → (n ≡ 0) × ((write_told rest).refusal.number ≡ 0)
refused_number n rest z = go (eqb n 0) refl z
  where
    go : (t : Bool) → eqb n 0 ≡ t → (write_told (pick (not t) (Err (refused n 0)) rest)).refusal.number ≡ 0
        → (n ≡ 0) × ((write_told rest).refusal.number ≡ 0)
    go true q h = (eqb-true n 0 q, h)
    go false q h = absurd (eqb-false n 0 q h)

fitted_says : (x : Result ℕ Refusal) (n room : ℕ) → Says15 x → (write_told (fitted x n room)).refusal.number ≡ 0 → (k : ℕ) × (x ≡ Ok k) × (n ≤ room)
unfolding fitted
fitted_says (Ok k) n room right z = (k, refl, go (ltb room n) refl z)
  where
    go : (t : Bool) → ltb room n ≡ t → (write_told (pick t (Err (needing n (refused 16 0))) (Ok n))).refusal.number ≡ 0 → n ≤ room
    go true q h = absurd (omega (arith, h))
    go false q h = ltb-false room n q
fitted_says (Err r) n room right z = absurd (omega (arith, z, (right r refl).0))

module _ (c : Contents) (room : ℕ) where
  -- a writing told as 0: the rules hold, and the packet has room
  pub written_says : (write_told (write_packet c room)).refusal.number ≡ 0 → Writable c × (contents_length c ≤ room)
  unfolding write_packet
  written_says z =
      let o = refused_number (writer_refusal c.fields (length c.body)) _ z in
      let s = refusal_says c o.0 in
      let b = fitted_says (contents_checked c) (contents_length c) room (given_15 c) o.1 in
      (record { rtc = s.0; absent = s.1; values = s.2; time = s.3; count = b.0; body = b.1 }, b.2)

  -- where they hold and there is room, the packet is written
  pub writable_written : Writable c → contents_length c ≤ room → write_packet c room ≡ Ok (contents_length c)
  unfolding write_packet fitted
  writable_written r h = rw (refusal_none c r, r.body, le-ltb room (contents_length c) h)

-- ---- contents that the writer accepts

pub length_of_lem : (c : Contents) → length (packet_bytes c) ≡ contents_length c
length_of_lem = length_packet

pub accepts_writable : (c : Contents) → Accepts c → Writable c
accepts_writable c a = (written_says c a.room a.writes).0

pub writable_accepts : (c : Contents) → Typed c → Writable c → Accepts c
writable_accepts c t r =
    record { typed = t; room = contents_length c; writes = rw (writable_written c (contents_length c) r (omega arith)) }
