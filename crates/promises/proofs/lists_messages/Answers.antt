use native.Mathlib.Omega.{arith}
use Rattle.units.proofs.Numbers.{bytes_known}
use Rattle.promises.proofs.lists_messages.Goals as goal

-- The lister answers as promised, on bytes.
pub returns : goal.returns
returns c =
    record { list_messages = (c.list_messages.ensures.value, c.list_messages.ensures.starts_after, c.list_messages.ensures.lengths_after); bytes = bytes_known _ (λ i. omega (arith, c.type_inv.buf i)) }
