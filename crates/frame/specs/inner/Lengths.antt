-- What functions inside these crates rely on, once 2 to 10 of the table have let a window through. No rule of its own: the laws prove it.
use Rattle.std.specs.Prelude.{◌≡◌, List, ℕ, ◌%◌, ◌≤◌, length}
use Rattle.frame.specs.Header.{packet_length, data_length, flags_in, body_at, unfilled_length, filler_at, sum_at}
use Rattle.frame.specs.declared.Layout.{Layout}

-- what 2, 9 and 10 leave of the lengths
pub record Sound (w : List ℕ) : Type 0 where
  pub header : 24 ≤ length w
  pub there : packet_length w ≤ length w
  pub capped : packet_length w ≤ 134217728
  pub parts : unfilled_length (flags_in w) (data_length w) ≤ packet_length w
  pub some : 1 ≤ data_length w
  pub fours : packet_length w % 4 ≡ 0

-- where its parts begin
pub record Measured (w : List ℕ) (l : Layout) : Type 0 where
  pub body : l.body ≡ body_at (flags_in w)
  pub filler : l.filler ≡ filler_at w
  pub sum : l.sum ≡ sum_at w
