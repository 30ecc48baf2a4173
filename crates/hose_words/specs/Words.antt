-- Lines cut into words.
use Rattle.std.specs.Prelude.{◌≡◌, ℕ, ◌==◌, nat_lt, List, [], ◌∷◌, length, filter}
use Rattle.std.specs.List.{slice_split}

-- the words of a line: the parts between its spaces that are not empty
abbrev pub words_of : List ℕ → List (List ℕ)
words_of line = filter (λ part. nat_lt 0 (length part)) (slice_split (λ byte. byte == 32) line)

-- the first of some words is there and passes
abbrev pub IsFirst : (List ℕ → Type 0) → List (List ℕ) → Type 0
IsFirst passes [] = ⊥
IsFirst passes (word ∷ words) = passes word

-- a word is that of a choice that there is
abbrev pub IsChoice : {A : Type 0} → (A → Type 0) → (A → List ℕ) → List ℕ → Type 0
IsChoice {A} is word_of word = (choice : A) × is choice × (word ≡ word_of choice)
