-- A choice by a test. Rules that are tested in an order are written from the top: pick (broken) (refusal) (what follows).
use Rattle.std.specs.Prelude.{Bool, true, false}

-- the first where the test is true, else the second
abbrev pub pick : {A : Type 0} → Bool → A → A → A
pick true a b = a
pick false a b = b
