-- The types that are opened (document 01, "Opened bodies"), by their numbers.
use Rattle.std.specs.Prelude.{ℕ}
use Rattle.body.specs.declared.Kind.{Kind}
use Rattle.body.specs.declared.Kind.TheVariants.{Message, Uart}

abbrev pub type_of : Kind → ℕ
type_of Message = 0x30
type_of Uart = 0x50
