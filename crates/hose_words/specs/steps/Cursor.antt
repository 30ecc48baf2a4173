-- What is read of the words of a line.
use Rattle.std.specs.Prelude.{◌≡◌, ℕ, ◌+◌, ◌<◌, List, [], ◌∷◌, ◌++◌, length}
use Rattle.hose_words.specs.Words.{IsFirst}
use Rattle.hose_words.specs.steps.Grammar.{IsFirstNotAllowed}
use Rattle.hose_words.specs.steps.Form.{Form, grammar_of}

-- the words of a line that are still to come, and how many came
pub record Position : Type 0 where
  pub left : List (List ℕ)
  pub read : ℕ

-- the next word of a line was read, and this is the word
pub record Took (old new : Position) (word : List ℕ) : Type 0 where
  pub cut : old.left ≡ word ∷ new.left
  pub counted : new.read ≡ old.read + 1

-- the next words of a line were read, and these are the words
pub record TookAll (old new : Position) (words : List (List ℕ)) : Type 0 where
  pub cut : old.left ≡ words ++ new.left
  pub counted : new.read ≡ old.read + length words

-- the next word is missing or does not pass, and this is its number
pub record Misses (passes : List ℕ → Type 0) (old : Position) (number : ℕ) : Type 0 where
  pub none : ¬ IsFirst passes old.left
  pub at : number ≡ old.read + 1

-- The word of this number is the first of those to come that a form does not allow.
pub record IsWrong (form : Form) (old : Position) (number : ℕ) : Type 0 where
  pub place : ℕ
  pub at : number ≡ old.read + place
  pub wrong : IsFirstNotAllowed (grammar_of form) [] old.left place

-- The next word tells no item that may come next in a list of so many items at least; or the line
-- ends before they are there. This is the word's number.
pub record MissesItem {A : Type 0} (word_of : A → List ℕ) (may : A → Type 0) (least : ℕ)
    (items : List A) (old : Position) (number : ℕ) : Type 0 where
  pub none : ¬ IsFirst (λ word. (item : A) × (word ≡ word_of item) × may item) old.left
  pub few : old.left ≡ [] → length items < least
  pub at : number ≡ old.read + 1
