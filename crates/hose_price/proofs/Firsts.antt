-- What a plan over the links of a network, or none, says of the network by other costs.
use Rattle.std.proofs.Common.{◌≡◌, ◌∙◌, ℕ, Bool, true, List, length, sym, ap, subst}
use Rattle.std.proofs.lemmas.List.{length-replicate}
use Rattle.hose_graph.specs.Network.{Network, IsNetwork}
use Rattle.hose_law.specs.CanonicalPlan.{IsCanonicalPlan, IsRoot}
use Rattle.hose_law.specs.Walk.{all_links}
use Rattle.hose_tariff.specs.Fact.{IsPricedBy}
use Rattle.hose_price.specs.Pricing.{HasNoPricedPlan, IsFirstPlan}
use Rattle.hose_price.specs.Sheet.{costs_something}
use Rattle.hose_price.proofs.Alike.{alike, priced_links}
use Rattle.hose_price.proofs.Roots.{no_plan_alike}

module _ (answers : ℕ → ℕ → Type 0) (network priced : Network) (is : IsPricedBy answers network priced) (set : List Bool) (all : set ≡ all_links network) where
  same_links : set ≡ all_links priced
  same_links = all ∙ sym (priced_links answers network priced is)

  pub links_there : length set ≡ length priced.links
  links_there = ap length same_links ∙ length-replicate (length priced.links) true

  pub first_plan : (hose plan : List (ℕ × ℕ)) → IsCanonicalPlan priced set hose plan → IsFirstPlan priced hose plan
  first_plan hose plan over = subst (λ (links : List Bool). IsCanonicalPlan priced links hose plan) same_links over

  pub no_plan : (hose : List (ℕ × ℕ)) → IsNetwork priced → ((root weight : ℕ) → ¬ IsRoot priced set hose root weight) → HasNoPricedPlan network hose
  no_plan hose network_is none other plan other_is first =
      no_plan_alike priced other network_is (alike costs_something answers network other priced other_is is) hose plan
      (subst (λ (links : List Bool). (root weight : ℕ) → ¬ IsRoot priced links hose root weight) same_links none) first
