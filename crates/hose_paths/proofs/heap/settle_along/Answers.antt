-- An item of the queue that is out of date changes nothing, and the links of any other are followed.
use Rattle.std.proofs.Common.{◌∙◌, ℕ, Contains, Some, length, ap, refl, subst, sym}
use Rattle.std.specs.BinaryHeap.{heap_items}
use Rattle.std.proofs.lemmas.Bool.{both_ways}
use Rattle.std.proofs.lemmas.List.Sorted.{Contains-permutation}
use Rattle.hose_graph.proofs.Members.{contains_first}
use Rattle.hose_paths.specs.steps.Queue.{IsSettledBut}
use Rattle.hose_paths.specs.steps.Table.{entry}
use Rattle.hose_paths.proofs.Following.{settled_start, taken_now, taken_stale}
use Rattle.hose_paths.proofs.heap.settle_along.Goals as goal

pub loop-lowest-init : goal.loop-lowest-init
loop-lowest-init c =
    record {
      bounded = c.requires.first.bounded;
      found = λ start found. found;
      settled =
          settled_start c.args.top.now c.requires.first.network c.args.links.now c.args.dist.now (heap_items c.push.new.self) c.args.root c.requires.first.root c.requires.first.alone
          (subst (λ (k : ℕ). Contains (heap_items c.push.new.self) (record { 0 = k })) c.key.ensures
          (Contains-permutation _ _ _ c.in_ok-push.ensures.permutation (contains_first _ _ _ refl)));
    }

pub follow_all-requires-clause-settled : goal.follow_all-requires-clause-settled
follow_all-requires-clause-settled c =
    subst (λ (n : ℕ). IsSettledBut c.args.top.now c.args.links.now c.loop-lowest.dist (heap_items c.pop.new.self) n (length c.args.top.now.links)) (sym c.node_in-node.ensures)
    (taken_now c.args.top.now c.requires.first.network c.args.links.now c.loop-lowest.dist c.in-Some.field-0 (heap_items c.loop-lowest.queue) (heap_items c.pop.new.self) c.in-Some.ensures.permutation c.loop-lowest.invariant.settled)

pub loop-lowest-preserved : goal.loop-lowest-preserved
loop-lowest-preserved c =
    record {
      bounded = c.loop-lowest.invariant.bounded;
      found = c.loop-lowest.invariant.found;
      settled =
          taken_stale c.args.top.now c.requires.first.network c.args.links.now c.loop-lowest.dist c.in-Some.field-0 (heap_items c.loop-lowest.queue) (heap_items c.pop.new.self) c.in-Some.ensures.permutation c.loop-lowest.invariant.settled
          (λ now. both_ways c.stands.result c.if-stands.false (c.stands.ensures.1 (ap (entry c.loop-lowest.dist) c.node_in-node.ensures ∙ now ∙ ap Some (sym c.distance_in-near.ensures))));
    }
