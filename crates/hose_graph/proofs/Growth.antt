-- A network that gains a node is still a network, and may have the links that it could have.
use Rattle.std.proofs.Common.{◌≢◌, ◌∙◌, ℕ, ◌<◌, ◌≤◌, List, [], ◌∷◌, ◌++◌, length, get_or, arith}
use Rattle.std.specs.List.{Contains}
use Rattle.std.proofs.lemmas.List.{length_push, get_or_default}
use Rattle.std.proofs.lemmas.List.Elements.{All-push, All-weaker}
use Rattle.std.proofs.lemmas.List.Quantifiers.{all_pairs_push}
use Rattle.hose_graph.specs.Name.{IsName}
use Rattle.hose_graph.specs.Network.{Network, IsNetwork, IsLink}
use Rattle.hose_graph.specs.declared.topology.Link.{Link}
use Rattle.hose_graph.specs.declared.limits.TheConstants.{MOST_NODES}

-- no element of a list is one that the list does not have
not_contained : (names : List (List ℕ)) (name : List ℕ) → (¬ Contains names name) →
    (k : ℕ) (d : List ℕ) → k < length names → get_or names k d ≢ name
not_contained names name absent k d below same =
    absent (k, below, get_or_default names k name d below ∙ same)

-- a link of a network is one of each network with as many nodes, whatever links that has
pub IsLink-kept : (network other : Network) → length network.nodes ≤ length other.nodes → (link : Link) → IsLink network link → IsLink other link
IsLink-kept network other more link is = record {
  in_range = record {
    a = omega (arith, more, is.in_range.a);
    b = omega (arith, more, is.in_range.b);
    capacity = is.in_range.capacity;
    distance = is.in_range.distance;
    cost = is.in_range.cost;
  };
  no_loop = is.no_loop;
}

pub IsNetwork-node : (nodes : List (List ℕ)) (links : List Link) (name : List ℕ) →
    IsNetwork (record { nodes = nodes; links = links }) → length nodes < MOST_NODES →
    (¬ Contains nodes name) → IsName name →
    IsNetwork (record { nodes = nodes ++ name ∷ []; links = links })
IsNetwork-node nodes links name is room absent is_name =
    let longer = length_push nodes name in
    record {
      few_nodes = omega (arith, longer, room);
      few_links = is.few_links;
      names = All-push IsName nodes name is.names is_name;
      differ = all_pairs_push ◌≢◌ nodes name is.differ (not_contained nodes name absent);
      links = All-weaker _ _ (IsLink-kept (record { nodes = nodes; links = links }) (record { nodes = nodes ++ name ∷ []; links = links }) (omega (arith, longer))) links is.links;
    }
