-- Where a network has no root of a hose, no network by other costs has a plan of it.
use Rattle.std.proofs.Common.{ℕ, zero, suc, ◌<◌, Bool, List, length, reverse, subst, inl, inr, arith}
use Rattle.std.proofs.lemmas.Bool.{cases_lt}
use Rattle.hose_graph.specs.Network.{Network, IsNetwork}
use Rattle.hose_law.specs.CanonicalPlan.{IsRoot, IsWeight}
use Rattle.hose_law.specs.Tree.{IsTreeOver}
use Rattle.hose_law.specs.Walk.{all_links}
use Rattle.hose_law.proofs.Carrying.{reserved_carry}
use Rattle.hose_law.proofs.Cheapest.{root_within}
use Rattle.hose_price.specs.Pricing.{IsFirstPlan}
use Rattle.hose_price.proofs.Alike.{AreAlike, grow_alike}

module _ (network : Network) (set : List Bool) (hose : List (ℕ × ℕ)) (no_root : (root weight : ℕ) → ¬ IsRoot network set hose root weight) where
  -- where no node weighs less, the first node of a weight would be a root
  none_first : (w : ℕ) → ((less v : ℕ) → less < w → v < length network.nodes → ¬ IsWeight network set v hose less)
      → (many v : ℕ) → v < many → v < length network.nodes → ¬ IsWeight network set v hose w
  none_first w lighter zero v below node is = absurd (omega (arith, below))
  none_first w lighter (suc many) v below node is =
      no_root v w (record {
        is_node = node;
        is_weight = is;
        least = λ other heavier there weighs. elim (cases_lt heavier w) [
          | inl less ↦ absurd (lighter heavier other less there weighs)
          | inr least ↦ least
        ];
        lowest = λ other there weighs. elim (cases_lt other v) [
          | inl before ↦ absurd (none_first w lighter many other (omega (arith, before, below)) there weighs)
          | inr lowest ↦ lowest
        ];
      })

  -- so no node has a weight
  pub none_weighs : (bound w v : ℕ) → w < bound → v < length network.nodes → ¬ IsWeight network set v hose w
  none_weighs zero w v below node is = absurd (omega (arith, below))
  none_weighs (suc bound) w v below node is =
      none_first w (λ less u lighter there. none_weighs bound less u (omega (arith, lighter, below)) there) (suc v) v (omega arith) node is

-- Some node of a network weighs no more than what a plan by other costs would cost there.
pub no_plan_alike : (network other : Network) → IsNetwork network → AreAlike other network → (hose plan : List (ℕ × ℕ)) → ((root weight : ℕ) → ¬ IsRoot network (all_links network) hose root weight)
    → ¬ IsFirstPlan other hose plan
no_plan_alike network other is are hose plan no_root first =
    let tree = first.tree in
    let carried = reserved_carry tree hose plan first.is_canonical.joins first.reserves in
    let over : IsTreeOver (all_links network) tree = subst (λ (set : List Bool). IsTreeOver set tree) are.links first.is_canonical.over in
    let grown = grow_alike other network are tree.start (reverse tree.steps) first.is_canonical.is_tree in
    let within = root_within network is (all_links network) hose tree carried.0 grown over carried.2 in
    within.weighs (λ weight is_weight. none_weighs network (all_links network) hose no_root (suc weight) weight within.root (omega arith) within.is_node is_weight)
