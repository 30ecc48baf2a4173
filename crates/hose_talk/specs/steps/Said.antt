-- What a line of a talk says, and how what was said comes on by it.
use Rattle.std.specs.Prelude.{ℕ, List, [], ◌∷◌, ◌++◌}
use Rattle.hose_words.specs.steps.Lines.{Shows}
use Rattle.hose_words.specs.declared.lines.Line.{Line}

-- A line was answered: whatever bytes it shows, it says something after the lines before it, and
-- what these lines and their replies had come to comes on by this line and its reply.
abbrev pub ComesOn : {L R A : Type 0} → (List L → List ℕ → L → Type 0)
    → (List L → List R → A → Type 0) → Line → A → A → R → Type 0
ComesOn {L} {R} Says Comes line old new reply =
    (lines : List L) (replies : List R) → Comes lines replies old
    → (said : L) × ((bytes : List ℕ) → Shows line bytes → Says lines bytes said)
    × Comes (lines ++ said ∷ []) (replies ++ reply ∷ []) new
