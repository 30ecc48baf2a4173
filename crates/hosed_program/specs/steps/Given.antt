-- The words that a program is run with, as they are given: steps of proofs.
use Rattle.std.specs.Prelude.{◌≡◌, ℕ, ◌<◌, ◌≤◌, List, length, slice_get, take, Option, None, Some, Result, Ok, Err}
use Rattle.std.specs.declared.env.FillError.{FillError}
use Rattle.std.specs.declared.env.FillError.TheVariants.{NotPresent, TooLong}

-- the system does not tell what it hands a program
abbrev pub untold_words : Option (List (List ℕ))
untold_words = None

-- Bytes were put at the front of a slice with so much room, or they are too many.
abbrev pub IsPut : List ℕ → ℕ → List ℕ → Result ℕ FillError → Type 0
IsPut bytes room into (Ok count) = take count into ≡ bytes
IsPut bytes room into (Err TooLong) = room < length bytes
IsPut bytes room into (Err NotPresent) = length bytes < 0

-- The word of a place was put at the front of a slice with so much room; or it is too long, or the
-- words end before it.
abbrev pub IsWordAt : List (List ℕ) → ℕ → ℕ → List ℕ → Result ℕ FillError → Type 0
IsWordAt all place room into (Ok count) = slice_get all place ≡ Some (take count into)
IsWordAt all place room into (Err TooLong) =
    (word : List ℕ) × (slice_get all place ≡ Some word) × (room < length word)
IsWordAt all place room into (Err NotPresent) = length all ≤ place
