-- What is read of the words of replies.
use Rattle.std.specs.Prelude.{◌≡◌, ℕ, ◌+◌, ◌<◌, ◌≤◌, List, [], ◌∷◌, ◌++◌, length}
use Rattle.std.specs.List.Sorted.{IsStrictlyIncreasing}
use Rattle.hose_words.specs.steps.Cursor.{Position}
use Rattle.hose_words.specs.Words.{IsFirst}
use Rattle.hose_graph.specs.Ascending.{firsts}
use Rattle.hose_graph.specs.Hose.{Endpoint}
use Rattle.hose_graph.specs.Network.{Network}
use Rattle.hose_graph.specs.Limits.{most_ends}
use Rattle.hose_proto.specs.declared.fault.ReadFault.{ReadFault}
use Rattle.hose_proto.specs.declared.fault.ReadFault.TheVariants.{Memory}
use Rattle.hose_proto.specs.steps.Places.{IsEndOf}
use Rattle.hose_proto.specs.steps.Reading.{IfFirst, IsFaultOf, TellsNone}
use Rattle.hose_replies.specs.steps.Fields.{Fields, HaveLists, form_of}

-- Fields of a line fail to be read: a word is wrong, or memory is short for lists that they have.
pub record FailsAt (network : Network) (fields : Fields) (old : Position) (fault : ReadFault)
    : Type 0 where
  pub bad : IsFaultOf (form_of network fields) old fault
  pub memory : fault ≡ Memory → HaveLists fields

-- ---- lists

-- an item that is so may come after others, in order
pub record IsNextItem {A : Type 0} (numbers_of : List A → List ℕ) (is : A → Type 0)
    (items : List A) (item : A) : Type 0 where
  pub here : is item
  pub ascending : IsStrictlyIncreasing (numbers_of (items ++ item ∷ []))

-- an endpoint may come after others, in order
pub record IsNextEnd (network : Network) (ends : List Endpoint) (end : Endpoint) : Type 0 where
  pub in_order : IsNextItem firsts (IsEndOf network) ends end
  pub room : length ends < most_ends

-- The next word tells no item more of a list, and is not the word that ends it once it has so many
-- items. This is the word's number.
pub record MissesUntil {A : Type 0} (word_of : A → List ℕ) (may_come : A → Type 0) (least : ℕ)
    (last : List ℕ) (items : List A) (old : Position) (number : ℕ) : Type 0 where
  pub none : IfFirst (TellsNone word_of may_come) old.left
  pub no_last : ¬ IsFirst (λ word. (word ≡ last) × (least ≤ length items)) old.left
  pub at : number ≡ old.read + 1
