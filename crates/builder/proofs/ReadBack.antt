-- The builder's promise: what is built reads back.
use Rattle.std.proofs.Common.{◌≡◌, ℕ, true, List, ◌∷◌, length, ap, Result, Ok}
use Rattle.terms.specs.Times.{rule_of}
use Rattle.body.specs.Answers.{check_body}
use Rattle.body.specs.Blocks.{Entry, entries_in}
use Rattle.terms.specs.declared.TimeRule.{TimeRule}
use Rattle.body.proofs.Exactly.{body_of_blocks}
use Rattle.builder.specs.Build.{stamped, close_step, step_told}
use Rattle.builder.specs.Run.{Built, closed_body}
use Rattle.builder.specs.declared.Draft.{Draft}
use Rattle.builder.proofs.Running.{built_body, some_closes}
use Rattle.terms.specs.declared.Refusal.{Refusal}

-- From a fresh state handed on step by step and closed last, the buffer untouched between, the body, at any size, reads back by the
-- layout and its time rule (any, where no time is stored) as the blocks added: their number, each time, ID word and bytes.
pub built_reads_back : {buf : List ℕ} {d : Draft} {es : List Entry} (rule : TimeRule) → Built buf d es → (step_told (close_step d (length buf))).refusal.number ≡ 0
    → (stamped d.rule ≡ true → rule ≡ rule_of d.rule)
    → (check_body d.kind rule (closed_body buf d) ≡ Ok (length es)) × (entries_in d.kind rule (closed_body buf d) (length es) ≡ es)
built_reads_back {buf} {d} {es} rule b zero same = body_of_blocks d.kind rule (closed_body buf d) es (built_body rule b zero same)

-- And once a block is added, closing is not refused.
pub built_closes : {buf : List ℕ} {d : Draft} {e : Entry} {es : List Entry} → Built buf d (e ∷ es) → (step_told (close_step d (length buf))).refusal.number ≡ 0
built_closes b = ap (λ (s : Result Draft (Refusal × Draft)). (step_told s).refusal.number) (some_closes b)
