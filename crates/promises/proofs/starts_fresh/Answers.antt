use Rattle.promises.proofs.starts_fresh.Goals as goal

-- A fresh state is as promised.
pub returns : goal.returns
returns c = c.fresh.ensures
