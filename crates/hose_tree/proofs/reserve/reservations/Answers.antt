use Rattle.std.proofs.Common.{rules, ◌≡◌, ℕ, List, map, reverse}
use Rattle.std.specs.List.Sorted.{IsPermutation, IsNonDecreasingBy}
use Rattle.std.proofs.lemmas.List.Sorted.{IsNonDecreasingBy-from_sort_by_key}
use Rattle.std.proofs.lemmas.Result.{IfOk-weaker}
use Rattle.hose_law.specs.Carries.{CarryOn}
use Rattle.hose_law.specs.Tree.{IsReservation}
use Rattle.hose_law.proofs.Carrying.{reserved_carry}
use Rattle.hose_tree.specs.steps.Rates.{reserved_by}
use Rattle.hose_tree.proofs.Reserving.{IsReservation-sorted}
use Rattle.hose_tree.proofs.reserve.reservations.Goals as goal
use Rattle.hose_tree.proofs.reserve.reservations.Goals.{After-sort_unstable_by_key}

-- the amounts of the steps, once they are sorted
reserves : (c : After-sort_unstable_by_key) → IsReservation c.args.tree.now c.args.hose.now c.sort_unstable_by_key.new.self.items
reserves c =
    let pairs = c.in_ok-pairs.pairs.items in
    let sorted = c.sort_unstable_by_key.new.self.items in
    let are : pairs ≡ map (reserved_by c.args.tree.now c.args.hose.now) (reverse c.args.tree.now.steps) = search rules in
    let moves : IsPermutation pairs sorted = search rules in
    let rises : IsNonDecreasingBy (λ (pair : ℕ × ℕ). pair.0) sorted =
    IsNonDecreasingBy-from_sort_by_key (λ (pair : ℕ × ℕ). pair.0) sorted c.sort_unstable_by_key.ensures.sorted (λ a r f' called. search rules) in
    IsReservation-sorted c.args.tree.now c.args.hose.now c.amounts_by_step.ensures.is_tree.0 pairs sorted c.amounts_by_step.ensures.is_tree.1 are moves rises

pub build-requires : goal.build-requires
build-requires c =
    let is = reserves (goal.at.build-requires c).After-sort_unstable_by_key in
    rw c.deref.ensures.value is.ascending

pub returns-clause-reserves : goal.returns-clause-reserves
returns-clause-reserves c =
    IfOk-weaker c.build.result (λ (amounts : List (ℕ × ℕ)). amounts ≡ c.deref.result.now) (IsReservation c.args.tree.now c.args.hose.now)
    (λ amounts same. rw (same, c.deref.ensures.value) (reserves (goal.at.returns-clause-reserves c).After-sort_unstable_by_key)) c.build.ensures

pub returns-clause-carry : goal.returns-clause-carry
returns-clause-carry c =
    let tree = c.args.tree.now in
    let hose = c.args.hose.now in
    let is = reserves (goal.at.returns-clause-carry c).After-sort_unstable_by_key in
    IfOk-weaker c.build.result (λ (amounts : List (ℕ × ℕ)). amounts ≡ c.deref.result.now) (CarryOn tree hose)
    (λ amounts same. reserved_carry tree hose amounts c.requires.joins (rw (same, c.deref.ensures.value) is)) c.build.ensures
