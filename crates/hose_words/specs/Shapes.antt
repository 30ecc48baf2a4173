-- Shapes of lines: what the words of a line may tell, which words tell it, and the first word of a
-- line that is not allowed.
use Rattle.std.specs.Prelude.{◌≡◌, ◌⊎◌, ℕ, ◌+◌, ◌<◌, ◌≤◌, List, [], ◌∷◌, Bool, true, false, length, map, take, MatchOption, Option, None, Some, ⊤}
use mathlib.Core.Logic.{inl, inr}

-- What may stand from some word of a line on. What a word may tell is said by a condition on values
-- and by the word of each.
pub data Shape : Type 1 where
  -- nothing
  line_end : Shape
  -- a word that tells a value, and what this makes of the words after it
  value : {A : Type 0} → (A → Type 0) → (A → List ℕ) → (A → Shape) → Shape
  -- a word that tells a value, or nothing
  last : {A : Type 0} → (A → Type 0) → (A → List ℕ) → Shape
  -- a known word and one that tells a value, or neither of them, and the words after them
  option : {A : Type 0} → List ℕ → (A → Type 0) → (A → List ℕ) → Shape → Shape
  -- a known word, or not, and the words after it
  flag : List ℕ → Shape → Shape
  -- a known word and the words after it, or others
  choice : List ℕ → Shape → Shape → Shape
  -- words that tell items which may stand together, so many of them at least
  items : {A : Type 0} → (List A → Type 0) → (A → List ℕ) → ℕ → Shape

-- what the words of a line tell
abbrev pub Values : Shape → Type 0
Values line_end = ⊤
Values (value {A} may word after) = (a : A) × Values (after a)
Values (last {A} may word) = Option A
Values (option {A} known may word shape) = Option A × Values shape
Values (flag known shape) = Bool × Values shape
Values (choice known shape other) = Values shape ⊎ Values other
Values (items {A} may word least) = List A

-- the words that tell this
abbrev pub words_told : (shape : Shape) → Values shape → List (List ℕ)
words_told line_end told = []
words_told (value may word after) (a, told) = word a ∷ words_told (after a) told
words_told (last may word) None = []
words_told (last may word) (Some a) = word a ∷ []
words_told (option known may word shape) (None, told) = words_told shape told
words_told (option known may word shape) (Some a, told) = known ∷ word a ∷ words_told shape told
words_told (flag known shape) (false, told) = words_told shape told
words_told (flag known shape) (true, told) = known ∷ words_told shape told
words_told (choice known shape other) (inl told) = known ∷ words_told shape told
words_told (choice known shape other) (inr told) = words_told other told
words_told (items may word least) told = map word told

-- this may be told
abbrev pub MayBeTold : (shape : Shape) → Values shape → Type 0
MayBeTold line_end told = ⊤
MayBeTold (value may word after) (a, told) = may a × MayBeTold (after a) told
MayBeTold (last may word) told = MatchOption told ⊤ may
MayBeTold (option known may word shape) (chosen, told) =
    MatchOption chosen ⊤ may × MayBeTold shape told
MayBeTold (flag known shape) (given, told) = MayBeTold shape told
MayBeTold (choice known shape other) (inl told) = MayBeTold shape told
MayBeTold (choice known shape other) (inr told) = MayBeTold other told
MayBeTold (items may word least) told = may told × (least ≤ length told)

-- the words of a line tell this
pub record Tells (shape : Shape) (words : List (List ℕ)) (told : Values shape) : Type 0 where
  pub are : words ≡ words_told shape told
  pub may : MayBeTold shape told

-- no words, or that of a value and then words that may come after it
abbrev pub BeginBy : {A : Type 0} → (A → Type 0) → (A → List ℕ) → (A → List (List ℕ) → Type 0)
    → List (List ℕ) → Type 0
BeginBy may word after [] = ⊤
BeginBy {A} may word after (first ∷ words) = (a : A) × may a × (first ≡ word a) × after a words

-- this word, or no words, and then words that may come after it
abbrev pub BeginWith : List ℕ → (List (List ℕ) → Type 0) → List (List ℕ) → Type 0
BeginWith known after words = BeginBy (λ word. word ≡ known) (λ word. word) (λ _. after) words

-- words may be the first of a line, each of them seen from those before it
abbrev pub Begin : Shape → List (List ℕ) → Type 0
Begin line_end words = words ≡ []
Begin (value may word after) words = BeginBy may word (λ a. Begin (after a)) words
Begin (last may word) words = BeginBy may word (λ a words. words ≡ []) words
Begin (option known may word shape) words =
    Begin shape words ⊎ BeginWith known (BeginBy may word (λ a. Begin shape)) words
Begin (flag known shape) words = Begin shape words ⊎ BeginWith known (Begin shape) words
Begin (choice known shape other) words = Begin other words ⊎ BeginWith known (Begin shape) words
Begin (items {A} may word least) words = (told : List A) × (words ≡ map word told) × may told

-- The word of this number, counted from 1, is the first that is not allowed: those before it may be
-- the first of a line, and with it they are not. Or there is none of this number, and those before
-- it are no whole line.
pub record IsFirstWrong (shape : Shape) (words : List (List ℕ)) (number : ℕ) : Type 0 where
  pub before : ℕ
  pub is_next : number ≡ before + 1
  pub begin : Begin shape (take before words)
  pub wrong : ((before < length words) × (¬ Begin shape (take (before + 1) words)))
      ⊎ ((before ≡ length words) × ((told : Values shape) → ¬ Tells shape words told))
