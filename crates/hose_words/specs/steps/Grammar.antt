-- Grammars of lines of words, and the first word of a line that a grammar does not allow: steps of
-- proofs.
use Rattle.std.specs.Prelude.{◌≡◌, ◌⊎◌, ℕ, ◌+◌, List, [], ◌∷◌, ◌++◌, length}

-- Which word may come next, after words that may come one after the other; and where the words are
-- a whole line.
pub record Grammar : Type 1 where
  pub may_follow : List (List ℕ) → List ℕ → Type 0
  pub is_whole : List (List ℕ) → Type 0

-- The words are judged from the left. The first that is not allowed is told by its number, counted
-- from 1. Where each is allowed but the line ends too early, it is one more than the number of
-- words.
abbrev pub IsFirstNotAllowed : Grammar → List (List ℕ) → List (List ℕ) → ℕ → Type 0
IsFirstNotAllowed grammar before [] place =
    (¬ grammar.is_whole before) × (place ≡ length before + 1)
IsFirstNotAllowed grammar before (word ∷ words) place =
    (grammar.may_follow before word × IsFirstNotAllowed grammar (before ++ word ∷ []) words place)
    ⊎ ((¬ grammar.may_follow before word) × (place ≡ length before + 1))
