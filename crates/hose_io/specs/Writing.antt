-- What writing a whole text leaves.
use Rattle.std.specs.Prelude.{ℕ, ◌<◌, List, length, take, Option}
use Rattle.hose_io.specs.Stream.{Grows}

-- A sink was given the front of these bytes, and not all of them, where it tells.
abbrev pub GrowsInPart : Option (List ℕ) → Option (List ℕ) → List ℕ → Type 0
GrowsInPart old new bytes = (count : ℕ) × (count < length bytes) × Grows old new (take count bytes)
