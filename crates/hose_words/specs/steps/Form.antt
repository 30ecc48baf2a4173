-- Forms of lines of words: what may stand from some word of a line on, part by part, and the
-- grammar of each form: steps of proofs.
use Rattle.std.specs.Prelude.{◌≡◌, ◌≢◌, ◌⊎◌, ℕ, ◌≤◌, List, [], ◌∷◌, ◌++◌, ⊤, map, decimal, length}
use Rattle.hose_words.specs.Numbers.{Fits64}
use Rattle.hose_words.specs.Words.{IsChoice}
use Rattle.hose_words.specs.steps.Grammar.{Grammar}

-- What may stand from some word of a line on.
pub data Form : Type 1 where
  -- nothing
  finish : Form
  -- anything
  anything : Form
  -- a word that meets a condition, and what may stand after it
  place : (List ℕ → Type 0) → Form → Form
  -- a word of the choices that there are, each with what may stand after it
  branch : {A : Type 0} → (A → Type 0) → (A → List ℕ) → (A → Form) → Form
  -- nothing, or this
  maybe : Form → Form
  -- the words of a list of so many items at least, up to the end of the line
  list : {A : Type 0} → (A → List ℕ) → (List A → Type 0) → ℕ → Form
  -- the words of a list of so many items at least, the word that ends it, and what may stand after
  -- that
  until : {A : Type 0} → (A → List ℕ) → (List A → Type 0) → ℕ → List ℕ → Form → Form

-- of some choices there are all
abbrev pub Each : {A : Type 0} → A → Type 0
Each choice = ⊤

-- words tell items that may stand in a list
abbrev pub TellsItems : {A : Type 0} → (A → List ℕ) → (List A → Type 0) → List (List ℕ) → Type 0
TellsItems {A} word_of fine words = (items : List A) × (words ≡ map word_of items) × fine items

-- the word may come after those of a list and after more words: they are of the list up to the one
-- that ends it
abbrev pub FollowsUntil : (List (List ℕ) → Type 0) → ℕ → List ℕ → (List (List ℕ) → List ℕ → Type 0)
    → List (List ℕ) → List (List ℕ) → List ℕ → Type 0
FollowsUntil tells least last follows listed [] word =
    tells (listed ++ word ∷ []) ⊎ ((least ≤ length listed) × (word ≡ last))
FollowsUntil tells least last follows listed (first ∷ before) word =
    ((first ≡ last) × follows before word)
    ⊎ ((first ≢ last) × FollowsUntil tells least last follows (listed ++ first ∷ []) before word)

-- words up to the one that ends a list, and after that words that are whole
abbrev pub WholeUntil : List ℕ → (List (List ℕ) → Type 0) → List (List ℕ) → Type 0
WholeUntil last whole [] = ⊥
WholeUntil last whole (first ∷ before) =
    ((first ≡ last) × whole before) ⊎ ((first ≢ last) × WholeUntil last whole before)

-- the word may come next in a form, after words that may come one after the other
abbrev pub Follows : Form → List (List ℕ) → List ℕ → Type 0
Follows finish before word = ⊥
Follows anything before word = ⊤
Follows (place passes form) [] word = passes word
Follows (place passes form) (first ∷ before) word = Follows form before word
Follows (branch is word_of forms) [] word = IsChoice is word_of word
Follows (branch {A} is word_of forms) (first ∷ before) word =
    (choice : A) × is choice × (first ≡ word_of choice) × Follows (forms choice) before word
Follows (maybe form) before word = Follows form before word
Follows (list word_of fine least) before word = TellsItems word_of fine (before ++ word ∷ [])
Follows (until word_of fine least last form) before word =
    FollowsUntil (TellsItems word_of fine) least last (Follows form) [] before word

-- words that may come one after the other are a whole line of the form
abbrev pub IsWhole : Form → List (List ℕ) → Type 0
IsWhole finish before = before ≡ []
IsWhole anything before = ⊤
IsWhole (place passes form) [] = ⊥
IsWhole (place passes form) (first ∷ before) = IsWhole form before
IsWhole (branch is word_of forms) [] = ⊥
IsWhole (branch {A} is word_of forms) (first ∷ before) =
    (choice : A) × is choice × (first ≡ word_of choice) × IsWhole (forms choice) before
IsWhole (maybe form) [] = ⊤
IsWhole (maybe form) (first ∷ before) = IsWhole form (first ∷ before)
IsWhole (list word_of fine least) before = least ≤ length before
IsWhole (until word_of fine least last form) before = WholeUntil last (IsWhole form) before

-- the grammar of a form
abbrev pub grammar_of : Form → Grammar
grammar_of form = record { may_follow = Follows form; is_whole = IsWhole form }

-- ---- words that are known, and numbers

-- just this word, and then what a form says
abbrev pub this : List ℕ → Form → Form
this known form = place (λ word. word ≡ known) form

-- a word tells a number that meets a condition
abbrev pub TellsNumber : (ℕ → Type 0) → List ℕ → Type 0
TellsNumber is word = (number : ℕ) × (word ≡ decimal number) × is number

-- just these words, one after the other, and then what a form says
abbrev pub these : List (List ℕ) → Form → Form
these [] form = form
these (known ∷ more) form = this known (these more form)

-- the word of a number that 64 bits hold, and then what a form says
abbrev pub number : Form → Form
number form = place (TellsNumber Fits64) form
