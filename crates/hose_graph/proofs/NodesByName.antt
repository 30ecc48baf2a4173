-- Nodes are known by their names.
use Rattle.std.proofs.Common.{◌≡◌, ◌≢◌, ◌∙◌, ℕ, ◌<◌, List, [], Some, None, Option, IfNone, IsSome, ◌↔◌, sym, ap, arith, inl, inr}
use Rattle.std.specs.List.{AllPairs, Contains, slice_get}
use Rattle.std.proofs.lemmas.Bool.{cases_lt, false≢true}
use Rattle.std.proofs.lemmas.Option.{get_or_from_slice_get, slice_get-get_or, slice_get_within}
use Rattle.hose_graph.specs.Network.{Network, IsNodeOf, name_of}

-- no two nodes have one name
pub same_node : (nodes : List (List ℕ)) (i j : ℕ) (name : List ℕ) → AllPairs ◌≢◌ nodes → slice_get nodes i ≡ Some name → slice_get nodes j ≡ Some name → i ≡ j
same_node nodes i j name differ one two =
    elim (cases_lt i j) [
      | inl below ↦ absurd (apart i j one two below)
      | inr above ↦ elim (cases_lt j i) [
        | inl below ↦ absurd (apart j i two one below)
        | inr same ↦ omega arith
      ]
    ]
  where
    apart : (k m : ℕ) → slice_get nodes k ≡ Some name → slice_get nodes m ≡ Some name → k < m → ⊥
    apart k m first second below =
        differ k m name below (slice_get_within nodes m name second) (get_or_from_slice_get nodes k name name first ∙ sym (get_or_from_slice_get nodes m name name second))

-- where a name is not found, no node has it
pub none_found : (nodes : List (List ℕ)) (name word : List ℕ) (found : Option ℕ) → IsSome found ↔ Contains nodes name → name ≡ word → IfNone found ((node : ℕ) → slice_get nodes node ≡ Some word → ⊥)
none_found nodes name word None is same = λ node there.
    let at : slice_get nodes node ≡ Some name = there ∙ ap Some (sym same) in
    false≢true (is.1 (node, slice_get_within nodes node name at, get_or_from_slice_get nodes node name name at))
none_found nodes name word (Some found) is same = tt

-- nodes of one name are one
pub same_name : (network : Network) (one other : ℕ) → AllPairs ◌≢◌ network.nodes → IsNodeOf network one → IsNodeOf network other → name_of network one ≡ name_of network other → one ≡ other
same_name network one other differ below below' same =
    same_node network.nodes one other (name_of network one) differ (slice_get-get_or network.nodes one [] below)
    (slice_get-get_or network.nodes other [] below' ∙ ap Some (sym same))
