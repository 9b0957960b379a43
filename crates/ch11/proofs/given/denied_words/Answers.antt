use mathlib.Core.Path.{◌≡◌, ap, ◌∙◌}
use mathlib.Core.List.{List, ◌++◌}
use Prim.Native.Nat.{ℕ, ◌+◌}
use lib.ListN.{length}
use borrow.Author.Rules.{rules}
use Rattle.ch11_words.specs.Words.{refusal_size, refusal_words, draft_words}
use Rattle.ch11.proofs.Giving.{state_kept}
use Rattle.ch11.proofs.given.denied_words.Goals as goal

pub returns : goal.returns
unfolding draft_words
returns c =
    let l : length c.args.ws ≡ refusal_size + 4 = search rules in
    c.put_refusal.ensures ∙ ap (λ (state : List ℕ). refusal_words c.args.f ++ state) (state_kept c.args.ws l)
