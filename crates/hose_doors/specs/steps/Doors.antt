-- How many of the words name doors.
use Rattle.std.specs.Prelude.{◌≡◌, ◌⊎◌, ◌<◌, ◌≤◌, [], ℕ, List, get_or, length}
use Rattle.hose_doors.specs.Doors.{NamesDoor}
use Rattle.hose_doors.specs.Limits.{most_doors}

-- the first of these words name doors, so many of them; the next one, if there is one, does not, or
-- there would be too many
pub record AreDoorsUpTo (words : List (List ℕ)) (count : ℕ) : Type 0 where
  pub few : count ≤ most_doors
  pub within : count ≤ length words
  pub named : (place : ℕ) → place < count → NamesDoor (get_or words place [])
  pub ends : count < length words → (count ≡ most_doors) ⊎ (¬ NamesDoor (get_or words count []))
