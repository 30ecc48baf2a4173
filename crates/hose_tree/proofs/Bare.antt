-- A forest without a leaf: where links are left the answer is no, and where none is it is whether the total is at one node.
use Rattle.std.proofs.Common.{◌≡◌, ◌≢◌, ◌∙◌, ℕ, ◌<◌, ◌≤◌, [], length, take, get_or, sym, ap, subst, arith}
use Rattle.std.specs.List.{Contains}
use Rattle.std.proofs.lemmas.List.{get_or-take, get_or_default, length-take, nil_from_length}
use Rattle.hose_graph.specs.Hose.{total_rate}
use Rattle.hose_graph.specs.Network.{Network}
use Rattle.hose_law.specs.Book.{amount_on}
use Rattle.hose_tree.specs.steps.Peeling.{HasNoLeafBelow, IsTreeOf, IsYes, Question, StandsForQuestion}
use Rattle.hose_tree.specs.declared.judge.Forest.{Forest}
use Rattle.hose_tree.proofs.Judging.{bare_node, bare_tree, has_leaf}

module _ (network : Network) (total : ℕ) (question : Question) (forest : Forest) (stands : StandsForQuestion network total question forest) where
  pub links_left : HasNoLeafBelow (length network.nodes) forest → forest.left ≢ 0 → IsYes network question → ⊥
  links_left quiet some agreed =
      let found = has_leaf network stands.network stands.ends stands.pairs stands.distinct (λ none. some (stands.is_forest.left ∙ ap length none)) (stands.same.1 agreed) in
      quiet found.0 found.1 (stands.is_forest.degrees found.0 ∙ found.2)

  module _ (none : forest.left ≡ 0) (n : ℕ) (nodes : n ≡ length network.nodes) where
    no_pairs : stands.pairs ≡ []
    no_pairs = nil_from_length stands.pairs (sym stands.is_forest.left ∙ none)

    pub all_there : Contains (take n forest.rates) total → IsYes network question
    all_there (k, below, same) =
        let place : k < length forest.rates = omega (arith, below, length-take n forest.rates) in
        let inside : k < n = omega (arith, below, length-take n forest.rates) in
        let rate : get_or forest.rates k 0 ≡ total = get_or_default forest.rates k 0 total place ∙ sym (get_or-take n forest.rates k total inside) ∙ same in
        let all : amount_on k stands.ends ≡ total_rate stands.ends = sym (stands.is_forest.rates k place) ∙ rate ∙ sym stands.sum in
        stands.same.0 (subst (IsTreeOf network stands.ends) (sym no_pairs) (bare_tree network stands.network stands.ends k stands.rates (omega (arith, inside, nodes)) all))

    pub there_all : length network.nodes ≤ length forest.rates → IsYes network question → Contains (take n forest.rates) total
    there_all places agreed =
        let node = bare_node network stands.network stands.ends (subst (IsTreeOf network stands.ends) no_pairs (stands.same.1 agreed)) in
        let place : node.0 < length forest.rates = omega (arith, node.1, places) in
        let inside : node.0 < n = omega (arith, node.1, nodes) in (
          node.0,
          omega (arith, inside, place, length-take n forest.rates),
          get_or-take n forest.rates node.0 total inside ∙ get_or_default forest.rates node.0 total 0 place ∙ stands.is_forest.rates node.0 place ∙ node.2 ∙ stands.sum,
        )
