-- What the lines of a source say, one after the other.
use Rattle.std.specs.Prelude.{◌≡◌, ◌≢◌, ℕ, List, [], ◌∷◌, ◌++◌}
use Rattle.std.specs.List.{before_first, after_first}
use Rattle.hose_words.specs.Lines.{is_line_feed}

-- The lines at the front of a text say this, one after the other, and the rest of the text is left.
-- What a line says may rest on what the lines before it said.
pub data SayLines {L : Type 0} (Says : List L → List ℕ → L → Type 0)
    : List ℕ → List L → List ℕ → Type 0 where
  no_line : {text : List ℕ} → SayLines Says text [] text
  one_more : {text rest : List ℕ} {lines : List L} (line : L) → SayLines Says text lines rest
      → rest ≢ [] → Says lines (before_first is_line_feed rest) line
      → SayLines Says text (lines ++ line ∷ []) (after_first is_line_feed rest)

-- nothing comes after the lines of a text, and nothing is left
abbrev pub IsAllTaken : List ℕ → List ℕ → List ℕ → Type 0
IsAllTaken text rest left = (rest ≡ []) × (left ≡ [])

-- what is left is the end of what comes after the lines of a text
abbrev pub IsLeftOver : List ℕ → List ℕ → List ℕ → Type 0
IsLeftOver text rest left = (seen : List ℕ) × (rest ≡ seen ++ left)
