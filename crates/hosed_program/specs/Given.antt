-- The words that a program is run with, and what it takes of them.
use Rattle.std.specs.Prelude.{◌≡◌, ℕ, ◌≤◌, List, [], length}
use Rattle.std.specs.List.{AllZip}
use Rattle.std.specs.Str.{IsUtf8}

-- the most bytes of a word that the program takes
abbrev pub longest_word : ℕ
longest_word = 4096

-- what the program takes of a word: the text that it is, where it is one and not too long, and else
-- an empty one
pub record IsTextOf (word text : List ℕ) : Type 0 where
  pub whole : length word ≤ longest_word → IsUtf8 word → text ≡ word
  pub none : (length word ≤ longest_word → ¬ IsUtf8 word) → text ≡ []

-- what the program takes of words: all of them, in order
abbrev pub AreTextsOf : List (List ℕ) → List (List ℕ) → Type 0
AreTextsOf = AllZip IsTextOf
