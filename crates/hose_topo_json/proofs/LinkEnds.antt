-- The nodes that a link names.
use Rattle.std.proofs.Common.{◌≡◌, ◌∙◌, ℕ, List, [], Option, Some, None, IfSome, sym, ap, subst, slice_index_or}
use Rattle.std.specs.List.{slice_get}
use Rattle.std.proofs.lemmas.Option.{get_or_from_slice_get}
use Rattle.hose_graph.specs.Name.{IsName}
use Rattle.hose_graph.specs.Network.{Network, IsNetwork, IsNodeOf, name_of}
use Rattle.hose_graph.proofs.NodesByName.{same_name}

some_same : {X : Type 0} {x y : X} → Some x ≡ Some y → x ≡ y
some_same is = cc

-- what is no name names no node
pub names_none : (network : Network) (told : Option (List ℕ)) (text : List ℕ) → IsNetwork network → told ≡ Some text → (¬ IsName text)
    → (node : ℕ) → IsNodeOf network node → told ≡ Some (name_of network node) → ⊥
names_none network told text is says no_name node below named =
    let same : name_of network node ≡ text = some_same (sym named ∙ says) in
    no_name (subst IsName same (is.names node [] below))

-- the node that was found is named
pub named_node : (nodes : List (List ℕ)) (told : Option (List ℕ)) (name : List ℕ) (found : Option ℕ) → told ≡ Some name
    → IfSome found (λ node. slice_get nodes node ≡ Some name) → IfSome found (λ node. told ≡ Some (slice_index_or nodes node []))
named_node nodes told name None says at = tt
named_node nodes told name (Some node) says at = says ∙ ap Some (sym (get_or_from_slice_get nodes node name [] at))

-- nodes of one name are one
pub one_node : (network : Network) (told : Option (List ℕ)) (node other : ℕ) → IsNetwork network → IsNodeOf network node → IsNodeOf network other
    → told ≡ Some (name_of network node) → told ≡ Some (name_of network other) → node ≡ other
one_node network told node other is below below' first second =
    same_name network node other is.differ below below' (some_same (sym first ∙ second))
