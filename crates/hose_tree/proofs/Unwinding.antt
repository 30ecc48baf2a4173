-- A tree whose steps are taken off, the last one first: what has come of the rates and what of the amounts.
use Rattle.std.proofs.Common.{◌≡◌, ◌≢◌, ◌∙◌, ℕ, suc, ◌+◌, ◌-◌, ◌<◌, ◌≤◌, min, List, [], ◌∷◌, ◌++◌, length, get_or, map, reverse, refl, sym, ap, subst, arith}
use Rattle.std.specs.List.{Contains}
use Rattle.std.proofs.lemmas.List.{append_assoc, append-nil, reverse-append}
use Rattle.hose_graph.specs.Hose.{total_rate}
use Rattle.hose_graph.specs.Network.{Network, IsNetwork}
use Rattle.hose_graph.specs.declared.limits.TheConstants.{MOST_NODES}
use Rattle.hose_graph.specs.declared.topology.Step.{Step}
use Rattle.hose_law.specs.Tree.{Growth, Grow, IsTree, rate_beyond, smaller_side, step_links}
use Rattle.hose_law.proofs.Joined.{joins_nodes}
use Rattle.hose_law.proofs.Trees.{moved, rate_up, rate_beyond-le, link_is_new, old_is_not_new, last_beyond, moved_beyond, moved_total, step_amounts-le}
use Rattle.hose_tree.specs.steps.Rates.{AreRatesOf, reserved_by}
use Rattle.hose_tree.proofs.Moving.{rates_moved}

-- With these steps left, the last one first: where the rates have moved to, and the amounts of the steps that are off.
pub record IsUnwound (tree : Growth) (hose : List (ℕ × ℕ)) (left : List Step) (rates : List ℕ) (pairs : List (ℕ × ℕ)) : Type 0 where
  pub network : Network
  pub is_network : IsNetwork network
  pub grows : Grow network tree.start left
  pub ends : List (ℕ × ℕ)
  pub total : total_rate ends ≡ total_rate hose
  pub beyond : (l : ℕ) → Contains (step_links left) l → rate_up left ends l ≡ rate_beyond tree hose l
  pub at_nodes : AreRatesOf ends rates
  pub amounts : pairs ++ map (reserved_by tree hose) left ≡ map (reserved_by tree hose) (reverse tree.steps)

-- with no step off yet
pub unwound_none : (tree : Growth) (hose : List (ℕ × ℕ)) (network : Network) (rates : List ℕ) → IsNetwork network → IsTree network tree → AreRatesOf hose rates
    → IsUnwound tree hose (reverse tree.steps) rates []
unwound_none tree hose network rates is_network is_tree are = record {
  network = network;
  is_network = is_network;
  grows = is_tree;
  ends = hose;
  total = refl;
  beyond = λ l there. refl;
  at_nodes = are;
  amounts = refl;
}

-- the last of the steps that are left comes first in their reverse
pub unwound_last : (tree : Growth) (hose : List (ℕ × ℕ)) (steps earlier : List Step) (step : Step) (rates : List ℕ) (pairs : List (ℕ × ℕ)) → steps ≡ earlier ++ step ∷ []
    → IsUnwound tree hose (reverse steps) rates pairs → IsUnwound tree hose (step ∷ reverse earlier) rates pairs
unwound_last tree hose steps earlier step rates pairs ends_so is =
    let turned : reverse steps ≡ step ∷ reverse earlier = ap reverse ends_so ∙ reverse-append earlier (step ∷ []) in
    subst (λ (left : List Step). IsUnwound tree hose left rates pairs) turned is

-- with all steps off
pub unwound_all : (tree : Growth) (hose : List (ℕ × ℕ)) (left : List Step) (rates : List ℕ) (pairs : List (ℕ × ℕ)) → length left ≡ 0
    → IsUnwound tree hose (reverse left) rates pairs → pairs ≡ map (reserved_by tree hose) (reverse tree.steps)
unwound_all tree hose [] rates pairs none is = sym (append-nil pairs) ∙ is.amounts
unwound_all tree hose (step ∷ left) rates pairs none is = absurd (omega arith)

module _ (tree : Growth) (hose : List (ℕ × ℕ)) (step : Step) (earlier : List Step) (rates : List ℕ) (pairs : List (ℕ × ℕ)) (is : IsUnwound tree hose (step ∷ earlier) rates pairs) where
  pub old_has_place : step.old < MOST_NODES
  old_has_place =
      omega (arith, (joins_nodes is.network is.is_network step.link step.old step.new is.grows.3).0, is.is_network.few_nodes)

  pub new_has_place : step.new < MOST_NODES
  new_has_place =
      omega (arith, (joins_nodes is.network is.is_network step.link step.old step.new is.grows.3).1, is.is_network.few_nodes)

  pub nodes_differ : step.old ≢ step.new
  nodes_differ = old_is_not_new is.network tree.start step earlier is.grows

  link_apart : Contains (step_links earlier) step.link → ⊥
  link_apart = link_is_new is.network tree.start step earlier is.grows

  -- both nodes' rates are within the total
  pub rates_fit : length rates ≡ MOST_NODES → get_or rates step.old 0 + get_or rates step.new 0 ≤ total_rate hose
  rates_fit places =
      let old_rate = is.at_nodes step.old (omega (arith, old_has_place)) in
      let new_rate = is.at_nodes step.new (omega (arith, new_has_place)) in
      omega (arith, old_rate, new_rate, step_amounts-le step is.ends nodes_differ, is.total)

  -- what is at the new node is what lies beyond the step's link
  pub rate_at_new : length rates ≡ MOST_NODES → get_or rates step.new 0 ≡ rate_beyond tree hose step.link
  rate_at_new places =
      is.at_nodes step.new (omega (arith, new_has_place)) ∙ sym (last_beyond step earlier is.ends link_apart) ∙ is.beyond step.link (0, omega arith, refl)

  pub rate_at_new-le : length rates ≡ MOST_NODES → get_or rates step.new 0 ≤ total_rate hose
  rate_at_new-le places = omega (arith, rate_at_new places, rate_beyond-le tree hose step.link)

  -- with the step taken off
  pub unwound_more : (after : List ℕ) (amount : ℕ) → length rates ≡ MOST_NODES → length after ≡ length rates
      → get_or after step.old 0 ≡ get_or rates step.old 0 + get_or rates step.new 0
      → get_or after step.new 0 ≡ 0
      → ((v : ℕ) → v ≢ step.old → v ≢ step.new → get_or after v 0 ≡ get_or rates v 0)
      → amount ≡ min (get_or rates step.new 0) (total_rate hose - get_or rates step.new 0)
      → IsUnwound tree hose earlier after (pairs ++ (step.link, amount) ∷ [])
  unwound_more after amount places long at_old at_new others smaller =
      let here : amount ≡ smaller_side tree hose step.link =
      smaller ∙ ap (λ (rate : ℕ). min rate (total_rate hose - rate)) (rate_at_new places) in
      let pair : (step.link, amount) ≡ reserved_by tree hose step = ap (λ (n : ℕ). (step.link, n)) here in
      record {
        network = is.network;
        is_network = is.is_network;
        grows = is.grows.0;
        ends = moved step is.ends;
        total = moved_total step is.ends ∙ is.total;
        beyond = λ l there. sym (moved_beyond step earlier is.ends l (λ same. link_apart (subst (Contains (step_links earlier)) (sym same) there)))
            ∙ is.beyond l (suc there.0, omega (arith, there.1), there.2);
        at_nodes = rates_moved step is.ends rates after nodes_differ (omega (arith, old_has_place)) (omega (arith, new_has_place)) is.at_nodes long at_old at_new others;
        amounts = append_assoc pairs ((step.link, amount) ∷ []) (map (reserved_by tree hose) earlier)
            ∙ ap (λ (p : ℕ × ℕ). pairs ++ p ∷ map (reserved_by tree hose) earlier) pair
            ∙ is.amounts;
      }
