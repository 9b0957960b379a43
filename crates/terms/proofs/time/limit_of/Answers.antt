use Rattle.terms.specs.inner.Masks.{limit_of}
use Rattle.terms.proofs.time.limit_of.Goals as goal

pub returns-in-Counter : goal.returns-in-Counter
unfolding limit_of
returns-in-Counter c = cc

pub returns-in-Chapter4 : goal.returns-in-Chapter4
unfolding limit_of
returns-in-Chapter4 c = cc

pub returns-in-Ieee1588 : goal.returns-in-Ieee1588
unfolding limit_of
returns-in-Ieee1588 c = cc

pub returns-in-Extended : goal.returns-in-Extended
unfolding limit_of
returns-in-Extended c = cc
