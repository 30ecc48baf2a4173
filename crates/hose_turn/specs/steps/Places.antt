-- Places in the history, and who has them: steps of proofs.
use Rattle.std.specs.Prelude.{ℕ, ◌+◌, ◌≤◌, List}
use Rattle.hose_turn.specs.Places.{one_within, times}

-- the list has some of those places, each once, and no other place
abbrev pub HasSomePlaces : ℕ → ℕ → List ℕ → Type 0
HasSomePlaces first last places = (place : ℕ) → times place places ≤ one_within first last place

-- the lists have no place in common, and each has none twice
abbrev pub AreApart : List ℕ → List ℕ → Type 0
AreApart places others = (place : ℕ) → times place places + times place others ≤ 1
