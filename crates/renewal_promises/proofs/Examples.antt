-- The promises are not empty: L is added to an empty table, is kept there, lives on, and is dropped once it is withdrawn.
use Rattle.std.specs.Prelude.{Result}
use mathlib.Core.Path.{◌≡◌, refl, ap}
use mathlib.Core.List.{List}
use Prim.Native.Nat.{ℕ, ◌≤◌}
use native.Mathlib.Omega.{arith}
use lib.ListN.{length, replicate}
use lib.Dec.{lit≤}
use Rattle.units.specs.Units.{num, sum_units, summed, zeros}
use Rattle.terms.specs.Times.{time_ok, rule_of}
use Rattle.body.specs.Walk.{message_shape, uart_shape, open_body, stamp_length, length_by, head_at, judge, block_at, spot, stop_at, ending, walk_from, walk}
use Rattle.body.specs.Answers.{check_body}
use Rattle.frame.specs.Header.{fields_in}
use Rattle.frame.specs.Rules.{limit, message_rule}
use Rattle.frame.specs.Table.{first, head_lines, value_lines, whole_lines, secondary_lines, trailer_lines, frame_lines}
use Rattle.packet.specs.Read.{inside, packet_in, body_checked, pass_body, pass_bytes, pass_window, read_answer, read_packet}
use Rattle.promises.specs.Cases.{L}
use Rattle.units.specs.Units.{part}
use Rattle.terms.specs.Refusals.{no_refusal}
use Rattle.packet.specs.Read.{PacketTold, packet_told}
use Rattle.packet.specs.declared.Packet.{Packet}
use Rattle.packet.proofs.Told.{read_told_lem}
use Rattle.renewal.specs.Renewal.{AddTold, add_told, renew_told}
use Rattle.renewal_promises.specs.Slots.{Rows, HeldAt, First, FreeAt, Accepts}
use Rattle.renewal_promises.specs.Adding.{added_told}
use Rattle.renewal_promises.specs.Keeping.{Made, empty, added as added-to, Keeps}
use Rattle.renewal_promises.specs.Calls.{Add, Renew}
use Rattle.renewal_promises.proofs.Made.{none_empty}
use Rattle.renewal_promises.proofs.Added.{told_accepted}
use Rattle.renewal_promises.proofs.Renewal.{renewal}
use Rattle.terms.specs.declared.Refusal.{Refusal}
use Rattle.renewal.specs.declared.Renewed.{Renewed}

abbrev unused : Rows
unused = replicate 64 (replicate 7 0)

L_read : (packet_told (read_packet L 0 40 5000)).refusal.number ≡ 0
unfolding num sum_units summed zeros time_ok rule_of message_shape uart_shape open_body stamp_length length_by head_at inside judge block_at spot stop_at ending walk_from walk check_body fields_in limit message_rule first head_lines value_lines whole_lines secondary_lines trailer_lines frame_lines packet_in body_checked pass_body pass_bytes pass_window read_answer read_packet L
L_read = refl

abbrev l_packet : Packet
l_packet = (packet_told (read_packet L 0 40 5000)).packet

L_long : l_packet.length ≡ 40
unfolding num sum_units summed zeros time_ok rule_of message_shape uart_shape open_body stamp_length length_by head_at inside judge block_at spot stop_at ending walk_from walk check_body fields_in limit message_rule first head_lines value_lines whole_lines secondary_lines trailer_lines frame_lines packet_in body_checked pass_body pass_bytes pass_window read_answer read_packet L
L_long = refl

L_fits : length L ≡ 40
unfolding L
L_fits = refl

L_accepted : Accepts L 0 40 5000 l_packet
L_accepted = told_accepted L 0 40 5000 l_packet (read_told_lem L 0 40 5000 L_read)

-- nothing is filled
L_withdrawn : (packet_told (read_packet L 0 0 5000)).refusal.number ≡ 2
unfolding num sum_units summed zeros time_ok rule_of message_shape uart_shape open_body stamp_length length_by head_at inside judge block_at spot stop_at ending walk_from walk check_body fields_in limit message_rule first head_lines value_lines whole_lines secondary_lines trailer_lines frame_lines packet_in body_checked pass_body pass_bytes pass_window read_answer read_packet L
L_withdrawn = refl

module _ (store : List ℕ) (room : 65536 ≤ length store) (r : Result ℕ Refusal) (t : Rows) (store₁ : List ℕ) (added : Add unused store 7 5000 L 0 40 r t store₁) where
  first_free : First (FreeAt unused) 0
  first_free = ((omega arith, refl), λ j below such. omega arith)

  -- it goes into slot 0
  pub kept_first : add_told r ≡ added_told no_refusal 0
  kept_first =
      (renewal.adding unused store 7 5000 L 0 40 r t store₁ refl added).taken l_packet
      (record { room = room; accepted = L_accepted; short = omega (arith, L_long) }) (none_empty 7 5000) 0 first_free

  made : Made t
  made = added-to empty store 7 5000 L 0 40 r store₁ added

  accepted : (add_told r).refusal.number ≡ 0
  accepted = ap (λ (x : AddTold). x.refusal.number) kept_first

  pub kept : Keeps t store₁ 7 5000 (part L 0 l_packet.length)
  kept = renewal.add_keeps unused store 7 5000 L 0 40 r t store₁ l_packet refl added accepted L_accepted

  room_left : 65536 ≤ length store₁
  room_left =
      let (slot, (p, comes, put)) = (renewal.adding unused store 7 5000 L 0 40 r t store₁ refl added).put accepted in
      omega (arith, put.size, room)

  -- as long as it is there it lives on
  pub lives_on : (q : Result Renewed Refusal) (t₂ : Rows) → Renew t store₁ 7 5000 L 0 40 q t₂ → (renew_told q).lives ≡ 1
  lives_on q t₂ call =
      (renewal.keeps_lives t store₁ 7 5000 L 0 40 q t₂ (part L 0 l_packet.length) (renewal.slots t made) call room_left
      (omega arith, omega (arith, L_fits), lit≤ tt) kept).1 (l_packet, L_accepted, refl)

  -- withdrawn, with all of it still in the buffer behind the fill, it is gone
  pub withdrawn : (q : Result Renewed Refusal) (t₂ : Rows) → Renew t store₁ 7 5000 L 0 0 q t₂ → (k : ℕ) → ¬ HeldAt t₂ 7 5000 k
  withdrawn q t₂ call =
      renewal.gone t made store₁ 7 5000 L 0 0 q t₂ call room_left (omega arith, omega arith, lit≤ tt)
      (λ k held equal. omega (arith, L_withdrawn, ap (λ (x : PacketTold). x.refusal.number) equal.accepted))
