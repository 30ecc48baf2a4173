-- What is asked of amounts and a hose: the forest that the question begins with, and what its answer says.
use Rattle.std.proofs.Common.{◌≡◌, ℕ, ◌≤◌, List, [], length, sym, subst}
use Rattle.std.specs.List.{All}
use Rattle.std.specs.Prelude.{◌↔◌}
use Rattle.std.proofs.lemmas.List.Elements.{All-weaker}
use Rattle.hose_graph.specs.Ascending.{firsts, IsAscending}
use Rattle.hose_graph.specs.Hose.{IsEnd, IsHose, total_rate}
use Rattle.hose_graph.specs.Network.{Network, IsNetwork}
use Rattle.hose_graph.specs.declared.limits.TheConstants.{MOST_TREE_LINKS}
use Rattle.hose_law.specs.Tree.{IsTreeReservation}
use Rattle.hose_law.specs.Walk.{all_links}
use Rattle.hose_law.proofs.Apart.{apart_rising}
use Rattle.hose_law.proofs.Bounds.{reserved_few}
use Rattle.hose_tree.specs.steps.Peeling.{IsForestOf, IsPossible, IsYes, Question, StandsForQuestion}
use Rattle.hose_tree.specs.steps.Rates.{AreRatesOf}
use Rattle.hose_tree.specs.declared.judge.Forest.{Forest}
use Rattle.hose_tree.proofs.Judging.{distinct_apart, reservation_is_possible, reservation_of_tree, tree_of_reservation}

module _ (network : Network) (is : IsNetwork network) (hose amounts pairs : List (ℕ × ℕ)) (same : pairs ≡ amounts) where
  abbrev pub IsReserved : Type 0
  IsReserved = IsTreeReservation network (all_links network) hose amounts

  of_pairs : IsReserved → IsTreeReservation network (all_links network) hose pairs
  of_pairs reserved = subst (IsTreeReservation network (all_links network) hose) (sym same) reserved

  pub reserved_are_few : IsReserved → length pairs ≤ MOST_TREE_LINKS
  reserved_are_few reserved = reserved_few network is (all_links network) hose pairs (of_pairs reserved)

  module _ (links total : ℕ) (count : links ≡ length network.links) (sum : total ≡ total_rate hose) where
    -- links and totals are known by the calls that count them
    pub reserved_are_possible : IsReserved → All (IsPossible links total) pairs
    reserved_are_possible reserved =
        subst (λ (n : ℕ). All (IsPossible links n) pairs) (sym sum)
        (subst (λ (n : ℕ). All (IsPossible n (total_rate hose)) pairs) (sym count) (reservation_is_possible network is hose pairs (of_pairs reserved)))

    abbrev pub question : Question
    question = record { ends = hose; pairs = pairs }

    module _ (possible : All (IsPossible links total) pairs) where
      -- the pairs are within the network's links and the hose's total
      pub are_possible : All (IsPossible (length network.links) total) pairs
      are_possible = subst (λ (n : ℕ). All (IsPossible n total) pairs) count possible

      within : All (IsPossible (length network.links) (total_rate hose)) pairs
      within = subst (λ (n : ℕ). All (IsPossible (length network.links) n) pairs) sum are_possible

      pub answer : IsAscending amounts → IsYes network question ↔ IsReserved
      answer ascending = (
        λ agreed. subst (IsTreeReservation network (all_links network) hose) same
            (reservation_of_tree network is hose pairs agreed (subst IsAscending (sym same) ascending) within),
        λ reserved. tree_of_reservation network is hose pairs (of_pairs reserved),
      )

      pub starts : IsHose hose → IsAscending amounts → (forest : Forest) → IsForestOf network [] pairs forest → (rates : List ℕ) → AreRatesOf hose rates
          → StandsForQuestion network total question (record { degrees = forest.degrees; links = forest.links; amounts = forest.amounts; rates = rates; left = forest.left })
      starts is_hose ascending forest is_forest rates are = record {
        ends = hose;
        pairs = pairs;
        is_forest = record { degrees = is_forest.degrees; links = is_forest.links; amounts = is_forest.amounts; rates = are; left = is_forest.left };
        network = is;
        distinct = distinct_apart (firsts pairs) (apart_rising (firsts pairs) (subst IsAscending (sym same) ascending));
        possible = are_possible;
        rates = All-weaker IsEnd (λ (end : ℕ × ℕ). 1 ≤ end.1) (λ end within. within.rate.0) hose is_hose.within;
        sum = sym sum;
        same = (λ tree. tree, λ tree. tree);
      }
