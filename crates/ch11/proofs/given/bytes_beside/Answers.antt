use mathlib.Core.Path.{refl}
use native.Mathlib.Omega.{arith}
use borrow.Author.Tests.{lt-ltb, le-ltb}
use Rattle.ch11.proofs.given.bytes_beside.Goals as goal

pub returns-then-upper-gt65535 : goal.returns-then-upper-gt65535
returns-then-upper-gt65535 c = record { value = rw (lt-ltb 65535 c.args.upper c.if-upper-gt65535.true) refl; upper_bound = omega arith }

pub returns-else-upper-gt65535 : goal.returns-else-upper-gt65535
returns-else-upper-gt65535 c = record { value = rw (le-ltb 65535 c.args.upper c.if-upper-gt65535.false) refl; upper_bound = omega arith }
