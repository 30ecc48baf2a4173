-- Places in the history, and who has them.
use Rattle.std.specs.Prelude.{◌≡◌, ℕ, ◌==◌, List, if◌then◌else◌, nat_le, nat_lt}
use Rattle.std.specs.List.{count_by}

-- how often the place stands in the list
abbrev pub times : ℕ → List ℕ → ℕ
times place places = count_by (λ other. other == place) places

-- 1 for a place from `first` on that is below `last`, and else 0
abbrev pub one_within : ℕ → ℕ → ℕ → ℕ
one_within first last place = if nat_le first place then (if nat_lt place last then 1 else 0) else 0

-- the list has each place from `first` on that is below `last`, once, and no other place
abbrev pub HasPlaces : ℕ → ℕ → List ℕ → Type 0
HasPlaces first last places = (place : ℕ) → times place places ≡ one_within first last place
