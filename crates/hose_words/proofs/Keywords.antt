-- Words that are known, found again among the choices that there are.
use Rattle.std.proofs.Common.{◌==◌, ℕ, ◌+◌, ◌*◌, List, [], ◌∷◌, get_or}
use Rattle.std.specs.List.{position_or_len}

-- the bytes of a word as one number, which computes where they are known
abbrev pub word_number : List ℕ → ℕ
word_number [] = 0
word_number (byte ∷ bytes) = byte + 256 * word_number bytes

-- the first of the choices that has this word, or else the other
abbrev pub choice_of : {A : Type 0} → (A → List ℕ) → List A → A → List ℕ → A
choice_of word_of choices other word =
    get_or choices (position_or_len (λ choice. word_number (word_of choice) == word_number word) choices) other
