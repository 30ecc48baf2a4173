-- What a network costs by a rule it costs by what the rule's answers keep.
use Rattle.std.proofs.Common.{ℕ, List, [], ◌∷◌, Result, Ok, Err, IfOk}
use Rattle.std.specs.List.{All, AllZip}
use Rattle.std.proofs.lemmas.List.Elements.{All-head, All-tail}
use Rattle.hose_graph.specs.Limit.{IsUpTo}
use Rattle.hose_graph.specs.Network.{IsLink, IsNetwork, Network}
use Rattle.hose_graph.specs.declared.limits.TheConstants.{MOST_LENGTH}
use Rattle.hose_graph.specs.declared.topology.Link.{Link}
use Rattle.hose_tariff.specs.Fact.{IsPricedBy, IsPricedLink}

module _ (one two : ℕ → ℕ → Type 0) (weaker : (length cost : ℕ) → IsUpTo MOST_LENGTH length → one length cost → two length cost) where
  links_weaker : (network : Network) (links priced : List Link) → All (IsLink network) links → AllZip (IsPricedLink one) links priced → AllZip (IsPricedLink two) links priced
  links_weaker network [] [] are is = tt
  links_weaker network [] (y ∷ ys) are is = absurd is
  links_weaker network (x ∷ xs) [] are is = absurd is
  links_weaker network (x ∷ xs) (y ∷ ys) are is = (
    record {
      cost = is.0.cost;
      answered = weaker x.length is.0.cost (All-head (IsLink network) x xs are).in_range.distance is.0.answered;
      same = is.0.same;
    },
    links_weaker network xs ys (All-tail (IsLink network) x xs are) is.1,
  )

  pub priced_weaker : (network priced : Network) → IsNetwork network → IsPricedBy one network priced → IsPricedBy two network priced
  priced_weaker network priced network_is is = record { nodes = is.nodes; links = links_weaker network network.links priced.links network_is.links is.links }

  pub result_weaker : {E : Type 0} (network : Network) (result : Result Network E) → IfOk result (IsPricedBy one network) → IfOk result (λ priced. IsNetwork network) → IfOk result (IsPricedBy two network)
  result_weaker network (Ok priced) is told = priced_weaker network priced told is
  result_weaker network (Err error) is told = tt
