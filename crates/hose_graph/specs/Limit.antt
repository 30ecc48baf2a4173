-- What lies within a limit.
use Rattle.std.specs.Prelude.{ℕ, ◌≤◌}

-- a number is at least 1 and at most the greatest
abbrev pub IsUpTo : ℕ → ℕ → Type 0
IsUpTo most number = (1 ≤ number) × (number ≤ most)
