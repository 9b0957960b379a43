-- What a search for a slot gives.
use Rattle.std.specs.Prelude.{◌≡◌, ℕ, ◌≤◌, ◌<◌, Option, MatchOption}

-- the slot of this number; none where the number is past the last slot's
abbrev pub Found : ℕ → Option ℕ → Type 0
Found n r = MatchOption r (64 ≤ n) (λ k. (k ≡ n) × (k < 64))
