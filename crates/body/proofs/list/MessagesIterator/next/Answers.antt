use Rattle.body.proofs.Heads.{heads_none, next_whole}
use native.Mathlib.Omega.{arith}
use Rattle.body.proofs.list.MessagesIterator.next.Goals as goal

pub returns-then-self-eq0-clause-steps : goal.returns-then-self-eq0-clause-steps
returns-then-self-eq0-clause-steps c = let none = heads_none _ _ _ _ c.if-self-eq0.true in (none, none)

pub head_at-m-requires : goal.head_at-m-requires
head_at-m-requires c = (next_whole _ _ _ _ c.args.self.now.whole c.if-self-eq0.false).head

pub block_end-self-requires : goal.block_end-self-requires
block_end-self-requires c =
    let n = next_whole _ _ _ _ c.args.self.now.whole c.if-self-eq0.false in
    rw c.head_at-m.ensures (omega (arith, n.fits))

pub invariant_of-self : goal.invariant_of-self
invariant_of-self c =
    let n = next_whole _ _ _ _ c.args.self.now.whole c.if-self-eq0.false in
    record { whole = rw (c.block_end-self.ensures, c.head_at-m.ensures) n.others }

pub returns-clause-steps : goal.returns-clause-steps
returns-clause-steps c =
    let n = next_whole _ _ _ _ c.args.self.now.whole c.if-self-eq0.false in
    rw (c.block_end-self.ensures, c.head_at-m.ensures) n.first
