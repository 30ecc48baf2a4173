-- Names that values are, one after the other.
use Rattle.std.proofs.Common.{◌≡◌, ◌≢◌, ◌∙◌, ℕ, ◌+◌, ◌<◌, List, [], ◌∷◌, ◌++◌, length, get_or, take, map}
use Rattle.std.specs.List.{Contains}
use Rattle.std.proofs.lemmas.List.{get_or_default}
use Rattle.std.proofs.lemmas.List.Elements.{All-push}
use Rattle.std.proofs.lemmas.List.Quantifiers.{all_pairs_push}
use Rattle.serde_json.specs.View.{view}
use Rattle.serde_json.specs.declared.value.Value.{Value}
use Rattle.hose_graph.specs.Name.{IsName}
use Rattle.hose_topo_json.specs.JsonTopology.{IsText, NameNodes}
use Rattle.hose_topo_json.proofs.Values.{told_more}

-- no name of a list is one that the list does not have
others : (names : List (List ℕ)) (name : List ℕ) → (¬ Contains names name) → (k : ℕ) (d : List ℕ) → k < length names → get_or names k d ≢ name
others names name absent k d below same = absent (k, below, get_or_default names k name d below ∙ same)

-- one value more names a node
pub named_more : (values : List Value) (names : List (List ℕ)) (place : ℕ) (value : Value) (name : List ℕ) → place < length values → value ≡ get_or values place value
    → NameNodes (take place (map view values)) names → IsText (view value) name → IsName name → (¬ Contains names name)
    → NameNodes (take (place + 1) (map view values)) (names ++ name ∷ [])
named_more values names place value name below is front text is_name is_new = record {
  texts = told_more IsText values names place value name below is front.texts text;
  are_names = All-push IsName names name front.are_names is_name;
  differ = all_pairs_push ◌≢◌ names name front.differ (others names name is_new);
}
