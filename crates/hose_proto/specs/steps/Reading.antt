-- What is read of the words of commands, and of lists of words.
use Rattle.std.specs.Prelude.{◌≡◌, ⊤, ℕ, ◌+◌, ◌<◌, List, [], ◌∷◌, ◌++◌, Option, IfNone, IfSome, Any, length, map}
use Rattle.hose_words.specs.Shapes.{IsFirstWrong, Shape}
use Rattle.hose_words.specs.steps.Cursor.{Position, IsWrong}
use Rattle.hose_words.specs.steps.Form.{Form, TellsItems}
use Rattle.hose_graph.specs.Hose.{Endpoint, node_of}
use Rattle.hose_graph.specs.Network.{Network}
use Rattle.hose_graph.specs.Limits.{most_ends}
use Rattle.hose_proto.specs.declared.fault.ReadFault.{ReadFault}
use Rattle.hose_proto.specs.declared.fault.ReadFault.TheVariants.{Bad}
use Rattle.hose_proto.specs.steps.Places.{IsEndOf}

-- A word that is told is the first of those to come that a form does not allow. Want of memory
-- tells nothing of them.
pub record IsFaultOf (form : Form) (old : Position) (fault : ReadFault) : Type 0 where
  pub word : (number : ℕ) → fault ≡ Bad number → IsWrong form old number

-- A word that is told is the first of those to come that is wrong in a shape.
pub record IsFaultIn (shape : Shape) (old : Position) (fault : ReadFault) : Type 0 where
  pub word : (number : ℕ) → fault ≡ Bad number
      → (place : ℕ) × (number ≡ old.read + place) × IsFirstWrong shape old.left place

-- ---- lists

-- the first of some words, where there is one, is so
abbrev pub IfFirst : (List ℕ → Type 0) → List (List ℕ) → Type 0
IfFirst is [] = ⊤
IfFirst is (word ∷ words) = is word

-- a word tells no item that may come next
abbrev pub TellsNone : {A : Type 0} → (A → List ℕ) → (A → Type 0) → List ℕ → Type 0
TellsNone {A} word_of may_come word = (item : A) → word ≡ word_of item → may_come item → ⊥

-- The next word tells no item more of a list of so many at least; or the line ends before they are
-- there. This is the word's number.
pub record EndsList {A : Type 0} (word_of : A → List ℕ) (may_come : A → Type 0) (least : ℕ)
    (items : List A) (old : Position) (number : ℕ) : Type 0 where
  pub none : IfFirst (TellsNone word_of may_come) old.left
  pub few : old.left ≡ [] → length items < least
  pub at : number ≡ old.read + 1

-- A word tells an item that may come next; or it tells none.
pub record TellsNext {A : Type 0} (word_of : A → List ℕ) (may_come : A → Type 0) (word : List ℕ)
    (told : Option A) : Type 0 where
  pub some : IfSome told (λ item. (word ≡ word_of item) × may_come item)
  pub none : IfNone told (TellsNone word_of may_come word)

-- a list goes on with the items that may come next, and with no other word
pub record ListGoesOn {A : Type 0} (word_of : A → List ℕ) (fine : List A → Type 0)
    (may_come : A → Type 0) (items : List A) : Type 0 where
  pub more : (item : A) → may_come item → fine (items ++ item ∷ [])
  pub only : (word : List ℕ) → TellsItems word_of fine (map word_of items ++ word ∷ [])
      → TellsNone word_of may_come word → ⊥

-- an endpoint may come after others, which stand in any order
pub record IsNewEnd (network : Network) (ends : List Endpoint) (end : Endpoint) : Type 0 where
  pub is_end : IsEndOf network end
  pub is_new : ¬ Any (λ earlier. node_of earlier ≡ node_of end) ends
  pub room : length ends < most_ends
