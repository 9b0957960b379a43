use Rattle.frame.proofs.Types.{all_flags}
use Rattle.frame.proofs.rules.flags_ok.Goals as goal

pub returns : goal.returns
returns c = all_flags _ c.ranges.flags.fits
