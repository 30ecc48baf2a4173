-- Endpoints as words by their form alone, whatever nodes there are: steps of proofs.
use Rattle.std.specs.Prelude.{◌≡◌, ℕ, ◌<◌, ◌≤◌, List, Any, length}
use Rattle.hose_words.specs.steps.Form.{Form, list}
use Rattle.hose_graph.specs.Limits.{least_ends, most_ends}
use Rattle.hose_proto.specs.EndWords.{AreNewEndWords, IsEndWord, name_in}

-- words of all endpoints of a hose
pub record AreEndWords (words : List (List ℕ)) : Type 0 where
  pub enough : least_ends ≤ length words
  pub are : AreNewEndWords words

-- `NAME:RATE ..`, two endpoints at least, each with a name that no earlier word has
abbrev pub end_words_form : Form
end_words_form = list (λ word. word) AreNewEndWords least_ends

-- a word may come after others, as one more endpoint of a hose: no earlier word has its name
pub record IsNewEndWord (words : List (List ℕ)) (word : List ℕ) : Type 0 where
  pub is_end : IsEndWord word
  pub is_new : ¬ Any (λ earlier. name_in earlier ≡ name_in word) words
  pub room : length words < most_ends
