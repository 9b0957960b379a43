-- The words of the promises mean what they are said to mean.
use mathlib.Core.Path.{◌≡◌, refl, ◌∙◌}
use mathlib.Core.List.{List, append_assoc}
use Prim.Native.Nat.{ℕ, ◌+◌, ◌<◌}
use native.Mathlib.Omega.{arith}
use native.Mathlib.Numerals.{add-one}
use lib.ListN.{length, get_or, take, drop}
use lib.Seq.{get_or-take, get_or-drop}
use Rattle.units.specs.Units.{part, num, bytes_of, sum_units}
use Rattle.units.proofs.Numbers.{bytes_known}
use Rattle.units.proofs.Parts.{length_part, field_zero, field_suc}
use Rattle.body.specs.Walk.{stamp_length}
use Rattle.body.specs.Blocks.{block_bytes, blocks_bytes}
use Rattle.promises.specs.Words.{Words}
use Rattle.promises.proofs.Again.{byte_below}

-- a byte of a part is a byte of the list
byte_in : (bs : List ℕ) (at n i : ℕ) → i < n → get_or (part bs at n) i 0 ≡ get_or bs (at + i) 0
byte_in bs at n i h = get_or-take n (drop at bs) i 0 h ∙ get_or-drop at bs i 0

pub words : Words
unfolding num bytes_of sum_units block_bytes blocks_bytes stamp_length
words =
    record {
      pick_true = λ a b. refl;
      pick_false = λ a b. refl;
      byte_is = λ bs i. refl;
      bytes_are = λ bs. (λ raw i. omega (arith, byte_below bs i raw), bytes_known bs);
      part_long = length_part;
      part_byte = byte_in;
      window_long = λ buf start end ordered within. length_part buf start _ (omega arith);
      window_byte = λ buf start end i h. byte_in buf start _ i h;
      splice_is = λ bs at vs. append_assoc (take at bs) vs (drop (at + length vs) bs);
      part_at_is = λ at n. refl;
      field_none = field_zero;
      field_first = λ bs at n. rw add-one (field_suc bs at n);
      bytes_none = λ v. refl;
      bytes_first = λ n v. rw add-one;
      sum_none = λ unit bs. refl;
      sum_first = λ unit k bs. rw add-one;
      widths = (refl, refl, refl, refl);
      block_stamped = λ e. simp append_assoc;
      block_plain = λ e. simp append_assoc;
      blocks_none = λ form. refl;
      blocks_next = λ form e es. refl;
      message_stamped = λ at e. let s : at + 8 + 4 ≡ at + 12 = omega arith in λ i. record { time = e.time; id = e.id; start = s i; length = length e.bytes };
      message_plain = λ at e. let s : at + 0 + 4 ≡ at + 4 = omega arith in λ i. record { time = e.time; id = e.id; start = s i; length = length e.bytes };
      refused_is = λ number place. refl;
      needing_is = λ room r. refl;
      none_is = refl;
      packet_told_lem = λ p. refl;
      packet_not_told = λ r. refl;
      list_told_lem = λ n. refl;
      list_not_told = λ r. refl;
      message_told_lem = λ m. refl;
      message_not_told = λ r. refl;
      write_told_lem = λ n. refl;
      write_not_told = λ r. refl;
      step_told_lem = λ d. refl;
      step_not_told = λ r d. refl;
      checked_told_lem = λ n. refl;
      checked_not_told = λ r. refl;
      contents_are = λ f body. refl;
      fresh_is = refl;
    }
