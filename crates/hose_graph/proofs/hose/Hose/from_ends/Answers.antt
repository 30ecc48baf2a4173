use Rattle.std.proofs.Common.{rules}
use Rattle.std.specs.List.Sorted.{IsPermutation, IsNonDecreasingBy}
use Rattle.std.proofs.lemmas.List.Sorted.{IsNonDecreasingBy-from_sort_by_key}
use Rattle.hose_graph.specs.steps.Hose.{MakesHose}
use Rattle.hose_graph.proofs.Endpoints.{IsHose-sorted}
use Rattle.hose_graph.proofs.hose.Hose.from_ends.Goals as goal

pub invariant_of-result : goal.invariant_of-result
invariant_of-result c =
    let ends = c.args.ends.now in
    let sorted = c.sort_unstable_by_key.new.self.items in
    let makes : MakesHose ends = c.requires in
    let moved : IsPermutation ends sorted = search rules in
    let rises : IsNonDecreasingBy (λ end. end.0) sorted =
    IsNonDecreasingBy-from_sort_by_key (λ end. end.0) sorted c.sort_unstable_by_key.ensures.sorted (λ a r f' called. search rules) in
    IsHose-sorted ends sorted makes moved rises

pub returns-clause-hose : goal.returns-clause-hose
returns-clause-hose c = invariant_of-result c
