-- What functions inside these crates hand each other in place of an answer. No rule of its own: the laws prove what each stands for.
use Rattle.std.specs.Prelude.{List, ℕ, eqb, Option, Some, None, Result, Ok, Err}
use Rattle.units.specs.Units.{field}
use Rattle.units.specs.Choice.{pick}
use Rattle.body.specs.declared.Form.{Form}
use Rattle.body.specs.declared.Form.TheVariants.{Stamped}
use Rattle.body.specs.declared.Shape.{Shape}
use Rattle.body.specs.declared.walk.Walked.{Walked}
use Rattle.body.specs.Walk.{Opened, Shaped, Wrong, uart_form}
use Rattle.body.specs.declared.Message.{Message}
use Rattle.terms.specs.Numbers.{reason_of}
use Rattle.terms.specs.Refusals.{fault}
use Rattle.terms.specs.declared.Reason.{Reason}
use Rattle.terms.specs.declared.Refusal.{Refusal}

-- the form of the blocks of a body of an opened type, whose channel word is right (counted)
abbrev pub form_in : ℕ → List ℕ → Form
form_in kind bs = pick (eqb kind 0x30) Stamped (uart_form (field bs 0 4))

-- what a channel word of an opened type says, where a body is never carried: its shape, or none where it is wrong
abbrev pub opened : Option Shape → Opened
opened (Some sh) = Shaped sh
opened None = Wrong

-- a block as two numbers: 0 and where it ends, or the reason and the place of its fault
abbrev pub stepped : Result (Message × ℕ) Refusal → Walked
stepped (Ok (m, next)) = record { reason = 0; number = next }
stepped (Err f) = record { reason = f.reason; number = f.place }

-- where a block ends, or its fault
abbrev pub reached : Result (Message × ℕ) Refusal → Result ℕ Refusal
reached (Ok (m, next)) = Ok next
reached (Err f) = Err f

-- the same by the rule that the block at this place breaks
abbrev pub faulted : ℕ → Result ℕ Reason → Result ℕ Refusal
faulted at (Ok next) = Ok next
faulted at (Err reason) = Err (fault at (reason_of reason))

-- a body's check as two numbers: 0 and how many messages, or the reason and the place of the fault; and what they say (walked_back)
abbrev pub walked : Result ℕ Refusal → Walked
walked (Ok n) = record { reason = 0; number = n }
walked (Err f) = record { reason = f.reason; number = f.place }

abbrev pub answered : Walked → Result ℕ Refusal
answered w = pick (eqb w.reason 0) (Ok w.number) (Err (fault w.number w.reason))
