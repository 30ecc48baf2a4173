-- A network is priced to one, since the rule keeps its costs within the limit.
use Rattle.std.proofs.Common.{◌≡◌, ◌≢◌, ℕ, ◌<◌, ◌≤◌, List, [], ◌∷◌, Result, Ok, Err, IfOk, length, sym, subst, arith}
use Rattle.std.specs.Prelude.{AllPairs}
use Rattle.std.specs.List.{All, AllZip}
use Rattle.std.proofs.lemmas.List.Elements.{All-cons, All-head, All-nil, All-tail, length_all_zip}
use Rattle.hose_graph.specs.Limit.{IsUpTo}
use Rattle.hose_graph.specs.Name.{IsName}
use Rattle.hose_graph.specs.Network.{IsLink, IsNetwork, Network}
use Rattle.hose_graph.specs.declared.limits.TheConstants.{MOST_LENGTH, MOST_NODES}
use Rattle.hose_graph.specs.declared.topology.Link.{Link}
use Rattle.hose_tariff.specs.Fact.{IsPrice, IsPricedBy, IsPricedLink}

module _ (answers : ℕ → ℕ → Type 0) (base per : ℕ) (keeps : (length cost : ℕ) → IsUpTo MOST_LENGTH length → answers length cost → IsPrice base per length cost) where
  module _ (network other : Network) (same : other.nodes ≡ network.nodes) where
    priced_link : (link priced : Link) → IsLink network link → IsPricedLink answers link priced → IsLink other priced
    priced_link link priced is by =
        let price = keeps link.length by.cost is.in_range.distance by.answered in
        subst (IsLink other) (sym by.same)
        (record {
          in_range = record {
            a = subst (λ (nodes : List (List ℕ)). link.a < length nodes) (sym same) is.in_range.a;
            b = subst (λ (nodes : List (List ℕ)). link.b < length nodes) (sym same) is.in_range.b;
            capacity = is.in_range.capacity;
            distance = is.in_range.distance;
            cost = (price.some, price.within);
          };
          no_loop = is.no_loop;
        })

    priced_all : (links priced : List Link) → All (IsLink network) links → AllZip (IsPricedLink answers) links priced → All (IsLink other) priced
    priced_all [] [] are by = All-nil (IsLink other)
    priced_all [] (y ∷ ys) are by = absurd by
    priced_all (x ∷ xs) [] are by = absurd by
    priced_all (x ∷ xs) (y ∷ ys) are by =
        All-cons (IsLink other) y ys (priced_link x y (All-head (IsLink network) x xs are) by.0) (priced_all xs ys (All-tail (IsLink network) x xs are) by.1)

  priced_network : (network priced : Network) → IsNetwork network → IsPricedBy answers network priced → IsNetwork priced
  priced_network network priced is by = record {
    few_nodes = subst (λ (nodes : List (List ℕ)). length nodes ≤ MOST_NODES) (sym by.nodes) is.few_nodes;
    few_links = omega (arith, is.few_links, length_all_zip (IsPricedLink answers) network.links priced.links by.links);
    names = subst (All IsName) (sym by.nodes) is.names;
    differ = subst (λ (nodes : List (List ℕ)). AllPairs ◌≢◌ nodes) (sym by.nodes) is.differ;
    links = priced_all network priced by.nodes network.links priced.links is.links by.links;
  }

  pub priced_result : {E : Type 0} (network : Network) (result : Result Network E) → IfOk result (IsPricedBy answers network) → IfOk result (λ priced. IsNetwork network) → IfOk result IsNetwork
  priced_result network (Ok priced) by is = priced_network network priced is by
  priced_result network (Err error) by is = tt
