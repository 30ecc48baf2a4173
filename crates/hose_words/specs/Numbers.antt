-- Which numbers a word may tell.
use Rattle.std.specs.Prelude.{ℕ, ◌^◌, ◌<◌, ◌≤◌}

-- a number that 64 bits hold
abbrev pub Fits64 : ℕ → Type 0
Fits64 number = number < 2 ^ 64

-- a number from the least to the most, both of them allowed
abbrev pub IsWithin : ℕ → ℕ → ℕ → Type 0
IsWithin least most number = (least ≤ number) × (number ≤ most)
