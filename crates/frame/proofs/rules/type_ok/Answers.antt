use Rattle.frame.proofs.Types.{low_types, high_types, no_types}
use Rattle.frame.proofs.rules.type_ok.Goals as goal

pub returns-then-kind-lt64 : goal.returns-then-kind-lt64
returns-then-kind-lt64 c = low_types _ c.if-kind-lt64.true

pub returns-then-kind-lt128 : goal.returns-then-kind-lt128
returns-then-kind-lt128 c = high_types _ c.if-kind-lt64.false c.if-kind-lt128.true

pub returns : goal.returns
returns c = no_types _ c.if-kind-lt128.false c.ranges.kind.fits
