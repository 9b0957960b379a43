use Rattle.body.specs.Answers.{message_in, tab, filled, starts_of, lengths_of}
use Rattle.body.specs.inner.Heads.{heads}
use mathlib.Core.List.{◌++◌}
use mathlib.Core.Path.{◌≡◌}
use Rattle.body.proofs.list_messages.Given as goal

abbrev pub invariant-loop-k : goal.invariant-loop-k
invariant-loop-k l =
    let all = message_in l.kind l.fn.rule l.body in
    let k = l.k-iterator.count in
    let left = l.k-iterator.iter in
    record {
      ahead : tab k all ++ heads left.form left.body.now left.at left.left ≡ tab l.n all;
      starts : l.starts ≡ filled k (starts_of l.base all) l.fn.starts;
      lengths : l.lengths ≡ filled k (lengths_of all) l.fn.lengths;
    }
