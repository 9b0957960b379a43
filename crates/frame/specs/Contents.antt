-- The contents of a packet: what a writer is given but for the output, and what a reader reads.
use Rattle.std.specs.Prelude.{List, ℕ, length}
use Rattle.frame.specs.Header.{length_for, body_in, fields_in}
use Rattle.frame.specs.declared.Fields.{Fields}

pub record Contents : Type 0 where
  pub fields : Fields
  pub body : List ℕ

abbrev pub contents : Fields → List ℕ → Contents
contents f body = record { fields = f; body = body }

-- P of the packet with these contents
abbrev pub contents_length : Contents → ℕ
contents_length c = length_for c.fields.flags (length c.body)

-- the contents of the packet at the start of a window's bytes w
abbrev pub contents_in : List ℕ → Contents
contents_in w = contents (fields_in w) (body_in w)
