-- What the table takes from the reader: the packet's length, or the refusal.
use Rattle.std.specs.Prelude.{ℕ, Result, Ok, Err}
use Rattle.packet.specs.declared.Packet.{Packet}
use Rattle.terms.specs.declared.Refusal.{Refusal}

abbrev pub pass_of : Result Packet Refusal → Result ℕ Refusal
pass_of (Ok p) = Ok p.length
pass_of (Err r) = Err r
