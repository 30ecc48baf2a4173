-- The rates that stand at nodes, as endpoints are added and as the rates of a step's new node move to its old node.
use Rattle.std.proofs.Common.{◌≡◌, ◌≢◌, ◌∙◌, ℕ, ◌+◌, ◌*◌, ◌<◌, ◌≤◌, Bool, true, false, List, length, get_or, take, cond, eqb, sym, ap, subst, inl, inr, arith}
use Rattle.std.proofs.lemmas.Bool.{cases_eq, eq-eqb, ne_eqb}
use Rattle.std.proofs.lemmas.List.Sums.{sum_by_more, sum_by_more_le_part}
use Rattle.hose_graph.specs.Hose.{IsHose}
use Rattle.hose_graph.specs.declared.limits.TheConstants.{MOST_NODES, MOST_ENDS, MOST_RATE}
use Rattle.hose_graph.specs.declared.topology.Step.{Step}
use Rattle.hose_graph.proofs.Endpoints.{total_rate-le}
use Rattle.hose_law.specs.Book.{amount_on}
use Rattle.hose_law.proofs.Trees.{moved, moved_at_old, moved_at_new, moved_at_others}
use Rattle.hose_tree.specs.steps.Rates.{AreRatesOf}

-- an endpoint's node has a place, and its rate can be added there
pub end_is_node : (ends : List (ℕ × ℕ)) (i : ℕ) → IsHose ends → i < length ends → (get_or ends i (0, 0)).0 < MOST_NODES
end_is_node ends i is below = (is.within i (0, 0) below).node

pub rate_fits : (ends : List (ℕ × ℕ)) (i v : ℕ) → IsHose ends → i < length ends → amount_on v (take i ends) + (get_or ends i (0, 0)).1 ≤ MOST_ENDS * MOST_RATE
rate_fits ends i v is below =
    let within = sum_by_more_le_part (λ (end : ℕ × ℕ). cond (eqb end.0 v) end.1 0) (λ (end : ℕ × ℕ). end.1) ends i (0, 0) below (λ end. at (eqb end.0 v) end.1) in
    omega (arith, within, total_rate-le ends is)
  where
    at : (test : Bool) (rate : ℕ) → cond test rate 0 ≤ rate
    at true rate = omega arith
    at false rate = omega arith

-- what is at a node with one endpoint more
pub amount_more : (ends : List (ℕ × ℕ)) (i v : ℕ) → i < length ends
    → amount_on v (take (i + 1) ends) ≡ amount_on v (take i ends) + cond (eqb (get_or ends i (0, 0)).0 v) (get_or ends i (0, 0)).1 0
amount_more ends i v below = sum_by_more (λ (end : ℕ × ℕ). cond (eqb end.0 v) end.1 0) ends i (0, 0) below

-- the rates with that endpoint's added
pub rates_more : (ends : List (ℕ × ℕ)) (i : ℕ) (rates after : List ℕ) → i < length ends → AreRatesOf (take i ends) rates → length after ≡ length rates
    → (get_or ends i (0, 0)).0 < length rates
    → get_or after (get_or ends i (0, 0)).0 0 ≡ get_or rates (get_or ends i (0, 0)).0 0 + (get_or ends i (0, 0)).1
    → ((v : ℕ) → v ≢ (get_or ends i (0, 0)).0 → get_or after v 0 ≡ get_or rates v 0)
    → AreRatesOf (take (i + 1) ends) after
rates_more ends i rates after below are long there here others v within =
    let end = get_or ends i (0, 0) in
    let more = amount_more ends i v below in
    let before : get_or rates v 0 ≡ amount_on v (take i ends) = are v (omega arith) in
    elim (cases_eq end.0 v) [
      | inl same ↦
          let passes : cond (eqb end.0 v) end.1 0 ≡ end.1 = ap (λ (test : Bool). cond test end.1 0) (eq-eqb end.0 v same) in
          let now : get_or after v 0 ≡ get_or rates v 0 + end.1 = subst (λ (n : ℕ). get_or after n 0 ≡ get_or rates n 0 + end.1) same here in
          omega arith
      | inr other ↦
          let fails : cond (eqb end.0 v) end.1 0 ≡ 0 = ap (λ (test : Bool). cond test end.1 0) (ne_eqb end.0 v other) in
          let now : get_or after v 0 ≡ get_or rates v 0 = others v (λ same. other (sym same)) in
          omega arith
    ]

-- the rates once those of a step's new node have moved to its old node
pub rates_moved : (step : Step) (ends : List (ℕ × ℕ)) (rates after : List ℕ) → step.old ≢ step.new → step.old < length rates → step.new < length rates
    → AreRatesOf ends rates → length after ≡ length rates
    → get_or after step.old 0 ≡ get_or rates step.old 0 + get_or rates step.new 0
    → get_or after step.new 0 ≡ 0
    → ((v : ℕ) → v ≢ step.old → v ≢ step.new → get_or after v 0 ≡ get_or rates v 0)
    → AreRatesOf (moved step ends) after
rates_moved step ends rates after differ old_there new_there are long at_old at_new others v within =
    elim (cases_eq v step.old) [
      | inl same ↦ subst (λ (n : ℕ). get_or after n 0 ≡ amount_on n (moved step ends)) (sym same)
          (omega (arith, moved_at_old step ends differ, are step.old old_there, are step.new new_there))
      | inr not_old ↦ elim (cases_eq v step.new) [
        | inl same ↦ subst (λ (n : ℕ). get_or after n 0 ≡ amount_on n (moved step ends)) (sym same) (omega (arith, moved_at_new step ends differ))
        | inr not_new ↦ others v not_old not_new ∙ are v (omega arith) ∙ sym (moved_at_others step ends v not_old not_new)
      ]
    ]
