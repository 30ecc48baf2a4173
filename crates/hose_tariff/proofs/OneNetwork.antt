-- A rule of exact costs makes one network of each.
use Rattle.std.proofs.Common.{◌≡◌, ◌∙◌, ℕ, List, [], ◌∷◌, map, refl, ap}
use Rattle.std.proofs.lemmas.List.Elements.{All-head, All-tail}
use Rattle.std.specs.Prelude.{All}
use Rattle.std.specs.List.{AllZip}
use Rattle.hose_graph.specs.declared.topology.Link.{Link}
use Rattle.hose_graph.specs.Network.{IsLink, IsNetwork, Network}
use Rattle.hose_tariff.specs.Fact.{IsPricedBy, IsPricedLink}
use Rattle.hose_tariff.specs.steps.Rules.{AnswersCosts, with_costs}

module _ (answers : ℕ → ℕ → Type 0) (cost : ℕ → ℕ) (is : AnswersCosts answers cost) (network : Network) where
  one_link : (link priced : Link) → IsLink network link → IsPricedLink answers link priced → priced ≡ record link { cost = cost link.length }
  one_link link priced there by = by.same ∙ ap (λ (value : ℕ). record link { cost = value }) (is link.length there.in_range.distance by.cost by.answered)

  one_list : (links priced : List Link) → All (IsLink network) links → AllZip (IsPricedLink answers) links priced → priced ≡ map (λ (link : Link). record link { cost = cost link.length }) links
  one_list [] [] there all = refl
  one_list [] (one ∷ priced) there all = absurd all
  one_list (link ∷ links) [] there all = absurd all
  one_list (link ∷ links) (one ∷ priced) there all =
      let first = one_link link one (All-head (IsLink network) link links there) all.0 in
      let rest = one_list links priced (All-tail (IsLink network) link links there) all.1 in
      λ i. first i ∷ rest i

  pub one_network : (priced : Network) → IsNetwork network → IsPricedBy answers network priced → priced ≡ with_costs cost network
  one_network priced told by =
      let links = one_list network.links priced.links told.links by.links in
      λ i. record { nodes = by.nodes i; links = links i }
