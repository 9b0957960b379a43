use Rattle.terms.proofs.Times.{form_is}
use Rattle.terms.proofs.time.TimeTest.passes.Goals as goal

pub returns : goal.returns
returns c = form_is _ _ _ _ c.args.self.tests c.ranges.time.fits
