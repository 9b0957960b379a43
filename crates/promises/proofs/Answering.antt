-- An answer told without a refusal is the case that holds the value.
use Rattle.std.specs.Prelude.{Result, Ok, Err}
use mathlib.Core.Path.{◌≡◌, refl}
use mathlib.Core.List.{List}
use mathlib.Core.Bool.{Bool, true, false, not}
use mathlib.Core.Logic.{◌≢◌}
use Prim.Native.Nat.{ℕ, min}
use native.Mathlib.Omega.{arith}
use lib.Dec.{ltb, leb, eqb}
use Rattle.units.specs.Choice.{pick}
use Rattle.terms.specs.Refusals.{refused, needing}
use Rattle.terms.specs.declared.Refusal.{Refusal}
use Rattle.body.specs.declared.Message.{Message}
use Rattle.builder.specs.Build.{denied, makes, bad_draft, open_step, bad_block, bad_time, stray_time, grown, add_step, close_step}
use Rattle.builder.specs.declared.Draft.{Draft}
use Rattle.packet.specs.Read.{window, pass_window}
use Rattle.packet.specs.Messages.{message_count, kth_message, list_answer, recorded_list, list_packet, message_answer, recorded_message, message_packet, list_told, message_told}
use Rattle.packet.proofs.Told.{read_told_lem, pass_numbered}
use Rattle.promises.specs.Answering.{Doing, Answering}
use Rattle.promises.proofs.WriterKeeping.{written_is}

-- ---- the lister and one message

abbrev Listing : Result ℕ Refusal → Type 0
Listing x = (list_told x).refusal.number ≡ 0 → x ≡ Ok (list_told x).count

lists : (buf : List ℕ) (start end base len₁ len₂ : ℕ) → Listing (list_packet buf start end base len₁ len₂)
unfolding list_packet list_answer
lists buf start end base len₁ len₂ = go (pass_window buf start end base) refl
  where
    n : ℕ
    n = message_count (window buf start end)

    fits : (t : Bool) → Listing (recorded_list base start (pick t (Err (needing n (refused 16 start))) (Ok n)))
    fits true e = absurd (omega (arith, e))
    fits false e = refl

    go : (x : Result ℕ Refusal) → pass_window buf start end base ≡ x → Listing (recorded_list base start (list_answer x start n (min len₁ len₂)))
    go (Ok p) q = fits (ltb (min len₁ len₂) n)
    go (Err r) q = λ e. absurd (pass_numbered buf start end base r q e)

abbrev Giving : Result Message Refusal → Type 0
Giving x = (message_told x).refusal.number ≡ 0 → x ≡ Ok (message_told x).message

gives : (buf : List ℕ) (start end base number : ℕ) → Giving (message_packet buf start end base number)
unfolding message_packet message_answer
gives buf start end base number = go (pass_window buf start end base) refl
  where
    n : ℕ
    n = message_count (window buf start end)

    m : Message
    m = kth_message (window buf start end) number

    there : (t : Bool) → Giving (recorded_message base start (pick t (Err (refused 17 start)) (Ok m)))
    there true e = absurd (omega (arith, e))
    there false e = refl

    go : (x : Result ℕ Refusal) → pass_window buf start end base ≡ x → Giving (recorded_message base start (message_answer x start n number m))
    go (Ok p) q = there (leb n number)
    go (Err r) q = λ e. absurd (pass_numbered buf start end base r q e)

-- ---- the builder

-- a refusal by its number, then the rest
denies : (t : Bool) (r : Refusal) (d : Draft) (rest : Result Draft (Refusal × Draft)) → r.number ≢ 0 → Doing rest → Doing (pick t (denied r d) rest)
denies true r d rest some next e = absurd (some e)
denies false r d rest some next e = next e

done : (d : Draft) → Doing (Ok d)
done d e = refl

opens : (d : Draft) (kind rule len : ℕ) → Doing (open_step d kind rule len)
unfolding open_step
opens d kind rule len =
    denies (not (makes kind rule)) _ d _ (λ e. omega (arith, e)) (denies (ltb len 4) _ d _ (λ e. omega (arith, e)) (done _))

adds : (d : Draft) (len time n : ℕ) → Doing (add_step d len time n)
unfolding add_step
adds d len time n =
    denies (bad_draft d len) _ d _ (λ e. omega (arith, e))
    (denies (bad_block d n) _ d _ (λ e. omega (arith, e))
    (denies (bad_time d.rule time) _ d _ (λ e. omega (arith, e))
    (denies (stray_time d.rule time) _ d _ (λ e. omega (arith, e))
    (denies (ltb len (grown d n)) _ d _ (λ e. omega (arith, e)) (done _)))))

closes : (d : Draft) (len : ℕ) → Doing (close_step d len)
unfolding close_step
closes d len = denies (bad_draft d len) _ d _ (λ e. omega (arith, e)) (denies (eqb d.used 4) _ d _ (λ e. omega (arith, e)) (done d))

pub answering : Answering
answering = record { reads = read_told_lem; lists = lists; gives = gives; writes = written_is; opens = opens; adds = adds; closes = closes }
