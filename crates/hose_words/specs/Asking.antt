-- When a source of lines was asked last.
use Rattle.std.specs.Prelude.{ℕ, ◌<◌, IsSomeAnd, List, length}
use Rattle.hose_io.specs.declared.source.Source.{Ghosts}
use Rattle.hose_words.specs.Lines.{IsAfterLines, PassesOver}

-- Lines of a text were taken, and this rest comes after them. When this much of the text was not
-- given yet, the last of these lines had not ended: whole lines had been given, and a part of one
-- that was taken since.
abbrev pub IsWithinLines : List ℕ → List ℕ → List ℕ → Type 0
IsWithinLines text rest left = (line : List ℕ) × IsAfterLines text line × PassesOver line left
    × (length rest < length line)

-- Lines of a text were taken of a source, which is so now. When it was asked last, the last of
-- these lines had not ended.
abbrev pub IsAskedBefore : {S : Type 0} → Ghosts S → S → List ℕ → List ℕ → Type 0
IsAskedBefore {S} source now text rest = (asked : S) × source.went asked now
    × IsSomeAnd (source.content asked) (λ stream. IsWithinLines text rest stream.left)
