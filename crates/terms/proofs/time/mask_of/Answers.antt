use Rattle.terms.specs.inner.Masks.{mask_of}
use Rattle.terms.proofs.time.mask_of.Goals as goal

pub returns-in-Counter : goal.returns-in-Counter
unfolding mask_of
returns-in-Counter c = cc

pub returns-in-Chapter4 : goal.returns-in-Chapter4
unfolding mask_of
returns-in-Chapter4 c = cc

pub returns-in-Ieee1588 : goal.returns-in-Ieee1588
unfolding mask_of
returns-in-Ieee1588 c = cc

pub returns-in-Extended : goal.returns-in-Extended
unfolding mask_of
returns-in-Extended c = cc
