-- What the listing counts: messages, from what the lister says with lists of any lengths.
use Rattle.std.specs.Prelude.{Result, Ok, Err}
use mathlib.Core.Path.{◌≡◌, sym, ap, ◌∙◌}
use mathlib.Core.List.{List}
use mathlib.Core.Bool.{Bool, true, false}
use Prim.Native.Nat.{ℕ, ◌+◌, ◌-◌, ◌≤◌, min}
use native.Mathlib.Omega.{arith}
use lib.ListN.{length}
use lib.Dec.{ltb}
use borrow.Rule.Slice.PartMut.{mid_of, mid_len}
use Rattle.units.specs.Choice.{pick}
use Rattle.terms.specs.Refusals.{refused, needing, recorded}
use Rattle.terms.specs.declared.Refusal.{Refusal}
use Rattle.packet.specs.Read.{window, read_packet}
use Rattle.packet.specs.Messages.{message_count, list_answer, recorded_list, list_packet}
use Rattle.packet.specs.declared.Packet.{Packet}
use Rattle.packet.proofs.Own.{accepted_pass}

module _ (buf : List ℕ) (at end base len₁ len₂ : ℕ) (a : Result ℕ Refusal) (says : a ≡ list_packet buf at end base len₁ len₂) (p : Packet) (accepts : read_packet buf at end base ≡ Ok p) where
  -- of an accepted packet the lister says 16, with their number as room, or their number
  said : a ≡ recorded_list base at (pick (ltb (min len₁ len₂) (message_count (window buf at end))) (Err (needing (message_count (window buf at end)) (refused 16 at))) (Ok (message_count (window buf at end))))
  unfolding list_packet list_answer
  said =
      says
      ∙ ap (λ (x : Result ℕ Refusal). recorded_list base at (list_answer x at (message_count (window buf at end)) (min len₁ len₂))) (accepted_pass buf at end base p accepts)

  pub listed_count : (n : ℕ) → a ≡ Ok n → n ≡ message_count (window buf at end)
  listed_count n e = go (ltb (min len₁ len₂) (message_count (window buf at end))) (message_count (window buf at end)) (sym said ∙ e)
    where
      go : (t : Bool) (m : ℕ) → recorded_list base at (pick t (Err (needing m (refused 16 at))) (Ok m)) ≡ Ok n → n ≡ m
      go true m q = let z : ◌≡◌ {A = ℕ} 0 1 = cc in absurd (omega arith)
      go false m q = let same : m ≡ n = cc q in sym same

  pub room_count : (r : Refusal) → a ≡ Err r → r.room ≡ message_count (window buf at end)
  room_count r e = go (ltb (min len₁ len₂) (message_count (window buf at end))) (message_count (window buf at end)) (sym said ∙ e)
    where
      go : (t : Bool) (m : ℕ) → recorded_list base at (pick t (Err (needing m (refused 16 at))) (Ok m)) ≡ Err r → r.room ≡ m
      go true m q = let same : recorded base at (needing m (refused 16 at)) ≡ r = cc q in ap (λ (x : Refusal). x.room) (sym same)
      go false m q = let z : ◌≡◌ {A = ℕ} 0 1 = cc in absurd (omega arith)

-- n bytes more, read behind those that fill the room so far, are still in it; as many as `behind` fit there
pub more_fits : (room : List ℕ) (filled behind n : ℕ) → filled ≤ length room → behind ≡ length (mid_of filled (length room - filled) room) → n ≤ behind → filled + n ≤ length room
more_fits room filled behind n within e h =
    let size : behind ≡ length room - filled = e ∙ mid_len filled (length room) room (omega arith) in
    omega (arith, size, within, h)
