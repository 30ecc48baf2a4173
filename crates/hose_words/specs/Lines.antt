-- Lines of a source, as a reader gives them.
use Rattle.std.specs.Prelude.{◌≡◌, ◌≢◌, ◌⊎◌, ℕ, Bool, ◌==◌, List, ◌∷◌, ◌++◌, All}
use Rattle.hose_words.specs.declared.lines.LineFault.{LineFault}
use Rattle.hose_words.specs.declared.lines.LineFault.TheVariants.{Read, TooLong}

-- the byte is a line feed
abbrev pub is_line_feed : ℕ → Bool
is_line_feed byte = byte == 10

-- what stands before the rest of a text is whole lines: it is empty, or ends with a line feed
abbrev pub IsAfterLines : List ℕ → List ℕ → Type 0
IsAfterLines text rest = (text ≡ rest) ⊎ ((front : List ℕ) × (text ≡ front ++ 10 ∷ rest))

-- bytes were passed over that do not end a line
abbrev pub PassesOver : List ℕ → List ℕ → Type 0
PassesOver text rest = (seen : List ℕ) × (text ≡ seen ++ rest) × All (λ byte. byte ≢ 10) seen

-- how far a text was taken at a fault: no whole line was lost, and the byte past the limit belongs
-- to no line
abbrev pub StopsAt : LineFault → List ℕ → List ℕ → Type 0
StopsAt Read text rest = PassesOver text rest
StopsAt TooLong text rest = (byte : ℕ) × PassesOver text (byte ∷ rest)

-- how far a text was taken at a fault, after lines that were given: each of them ended with a line
-- feed, so none of them was cut off by the fault
abbrev pub StopsAfterLines : LineFault → List ℕ → List ℕ → List ℕ → Type 0
StopsAfterLines fault text partial rest = IsAfterLines text partial × StopsAt fault partial rest
