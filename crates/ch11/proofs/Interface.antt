-- The interface says of words wider than what they stand for what its header says.
use Rattle.std.specs.Prelude.{Result, Ok, Err}
use mathlib.Core.Path.{◌≡◌, refl, ap, ◌∙◌}
use mathlib.Core.List.{List, ◌∷◌}
use mathlib.Core.Bool.{Bool, true, false}
use mathlib.Core.Logic.{◌≢◌}
use Prim.Native.Nat.{ℕ, ◌≤◌, ◌<◌}
use native.Mathlib.Omega.{arith}
use lib.ListN.{get_or}
use lib.Dec.{ltb}
use borrow.Author.Tests.{lt-ltb, le-ltb}
use Rattle.units.specs.Choice.{pick}
use Rattle.terms.specs.Refusals.{refused, needing, fault}
use Rattle.builder.specs.Build.{denied, bad_draft, bad_block, bad_time, stray_time, grown, draft_added, add_step, step_told}
use Rattle.builder.specs.declared.Draft.{Draft}
use Rattle.frame.specs.declared.Fields.{Fields}
use Rattle.ch11_words.specs.Words.{packet_words, list_words, message_words, recording_words, written_words, draft_words, added_words, renewed_words}
use Rattle.ch11.specs.Given.{fields_fit, write_given, add_given}
use Rattle.ch11.specs.Calls.{Holds}
use Rattle.ch11.specs.Interface.{Held, Answers, Interface}
use Rattle.ch11.proofs.Giving.{fits}
use Rattle.terms.specs.declared.Refusal.{Refusal}

-- ---- the writer

fit_says : (f : Fields) → fields_fit f ≡ true → Held f
fit_says f e =
    let o = fits f e in
    record { channel = omega (arith, o.0); version = omega (arith, o.1); sequence = omega (arith, o.2); flags = omega (arith, o.3); kind = omega (arith, o.4) }

fit_made : (f : Fields) → Held f → fields_fit f ≡ true
fit_made f h =
    rw (
      lt-ltb f.channel 65536 (omega (arith, h.channel)),
      lt-ltb f.version 256 (omega (arith, h.version)),
      lt-ltb f.sequence 256 (omega (arith, h.sequence)),
      lt-ltb f.flags 256 (omega (arith, h.flags)),
      lt-ltb f.kind 256 (omega (arith, h.kind)),
    )

unheld : (f : Fields) → ¬ Held f → fields_fit f ≡ false
unheld f n = go (fields_fit f) refl
  where
    go : (t : Bool) → fields_fit f ≡ t → t ≡ false
    go true e = absurd (n (fit_says f e))
    go false e = refl

-- ---- adding

-- 1 is given exactly for a bad state
bad_says : (d : Draft) (len time n : ℕ) → (step_told (add_step d len time n)).refusal.number ≡ 1 → bad_draft d len ≡ true
unfolding add_step
bad_says d len time n e =
    go (bad_draft d len) refl (bad_block d n) (bad_time d.rule time) (stray_time d.rule time) (ltb len (grown d n)) e
  where
    go : (a : Bool) → bad_draft d len ≡ a → (b c s t : Bool)
        → (step_told
        (pick a (denied (refused 1 0) d)
        (pick b (denied (refused 17 0) d)
        (pick c (denied (fault 0 3) d)
        (pick s (denied (refused 17 0) d)
        (pick t (denied (needing (grown d n) (refused 16 0)) d) (Ok (draft_added d n)))))))).refusal.number
        ≡ 1
        → bad_draft d len ≡ true
    go true q b c s t e = q
    go false q true c s t e = absurd (omega (arith, e))
    go false q false true s t e = absurd (omega (arith, e))
    go false q false false true t e = absurd (omega (arith, e))
    go false q false false false true e = absurd (omega (arith, e))
    go false q false false false false e = absurd (omega (arith, e))

bad_made : (d : Draft) (len time n : ℕ) → bad_draft d len ≡ true → add_step d len time n ≡ denied (refused 1 0) d
unfolding add_step
bad_made d len time n e = rw e

module _ (d : Draft) (len time upper n : ℕ) where
  given_1 : bad_draft d len ≡ true → add_given d len time upper n ≡ add_step d len time n
  unfolding add_given
  given_1 e = rw (bad_made d len time n e, e)

  given_17 : 65535 < upper → (step_told (add_step d len time n)).refusal.number ≢ 1
      → step_told (add_given d len time upper n) ≡ record { refusal = record { number = 17; place = 0; room = 0; reason = 0; recording_place = 0 }; draft = d }
  unfolding add_given
  given_17 wide other = go (bad_draft d len) refl
    where
      go : (a : Bool) → bad_draft d len ≡ a
          → step_told (pick a (denied (refused 1 0) d) (pick (ltb 65535 upper) (denied (refused 17 0) d) (add_step d len time n)))
          ≡ record { refusal = record { number = 17; place = 0; room = 0; reason = 0; recording_place = 0 }; draft = d }
      go true q = absurd (other (ap (λ (s : Result Draft (Refusal × Draft)). (step_told s).refusal.number) (bad_made d len time n q)))
      go false q = rw (lt-ltb 65535 upper wide)

  given_as : upper ≤ 65535 → add_given d len time upper n ≡ add_step d len time n
  unfolding add_given
  given_as narrow = go (bad_draft d len) refl
    where
      go : (a : Bool) → bad_draft d len ≡ a
          → pick a (denied (refused 1 0) d) (pick (ltb 65535 upper) (denied (refused 17 0) d) (add_step d len time n)) ≡ add_step d len time n
      go true q = rw (bad_made d len time n q)
      go false q = rw (le-ltb 65535 upper narrow)

-- ---- the calls

-- a struct that begins with a refusal, and its first word returned
answers : (number : ℕ) (rest : List ℕ) (n : ℕ) (s : List ℕ) → Holds (number ∷ rest) n s → Answers number (number ∷ rest) n s
answers number rest n s (is, first) = (first ∙ ap (λ (l : List ℕ). get_or l 0 0) is, is)

pub interface : Interface
unfolding packet_words list_words message_words recording_words written_words draft_words added_words renewed_words write_given
interface =
    record {
      packet = λ t. refl;
      list = λ t. refl;
      message = λ t. refl;
      recording = λ r. refl;
      written = λ t. refl;
      draft = λ t. refl;
      added = λ t. refl;
      renewed = λ t. refl;
      fields_given = λ channel version sequence flags kind rtc time. refl;
      draft_given = λ number place room reason recorded used blocks kind rule. refl;
      write_17 = λ c room n. rw (unheld c.fields n);
      writes = λ c room h. rw (fit_made c.fields h);
      read_packet_lem = λ buf start end base n s h. answers _ _ n s h;
      list_messages = λ buf start end base starts₀ lengths₀ n s starts₁ lengths₁ (h, a, b). (_, refl, answers _ _ n s h, a, b);
      give_message = λ buf start end base number n s h. answers _ _ n s h;
      read_recording_lem = λ buf start end base n s h. answers _ _ n s h;
      write_packet_lem = λ fields body out₀ n s out₁ (h, o). (_, refl, answers _ _ n s h, o);
      open_body_lem = λ draft₀ buf₀ kind rule n s buf₁ (h, b). (_, refl, answers _ _ n s h, b);
      add_block = λ draft₀ buf₀ time upper bytes n s buf₁ (h, b). (_, refl, answers _ _ n s h, b);
      close_body = λ draft₀ buf₀ n s buf₁ (h, b). (_, refl, answers _ _ n s h, b);
      renewal_add = λ table₀ store₀ recording place buf start end n s table₁ store₁ (h, t, b). (_, refl, answers _ _ n s h, t, b);
      renewal_renew = λ table₀ store recording place buf start end n s table₁ (h, t). (_, refl, answers _ _ n s h, t);
      renewal_next = λ table slot n h. h;
      add_17 = given_17;
      add_1 = λ d len time upper n e. given_1 d len time upper n (bad_says d len time n e);
      adds = given_as;
    }
