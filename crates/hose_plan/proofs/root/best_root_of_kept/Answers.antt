-- The row of one more endpoint is that of its node.
use Rattle.std.proofs.Common.{◌∙◌, arith, subst, sym}
use Rattle.std.proofs.lemmas.List.{take_at}
use Rattle.hose_plan.specs.steps.Rooting.{AreWeights}
use Rattle.hose_plan.proofs.Rooted.{row_has}
use Rattle.hose_plan.proofs.Weights.{all_so_far, more_so_far}
use Rattle.hose_plan.proofs.root.best_root_of_kept.Goals as goal

pub loop-node-preserved : goal.loop-node-preserved
loop-node-preserved c =
    rw (take_at c.add_row.new.weights _ c.loop-node.weights.len (c.add_row.ensures.places ∙ c.deref_mut.ensures.len)) (
    more_so_far c.args.top.now c.args.links.now c.args.hose.now c.ends-ends.result.now c.ends-ends.ensures.value c.loop-node.node-index c.loop-node-test.true c.row_of.result.now
    (row_has c.args.top.now c.args.links.now _ c.row_of.result.now c.row_of.ensures.row c.row_of.ensures.bounded)
    c.loop-node.weights.items c.deref_mut.result.now c.add_row.new.weights c.deref_mut.ensures.value c.add_row.ensures.places c.add_row.ensures.each (c.add_row.ensures.light c.loop-node.node-index) c.loop-node.invariant
    )

pub lightest-requires-clause-weights : goal.lightest-requires-clause-weights
lightest-requires-clause-weights c =
    subst (AreWeights c.args.top.now c.args.links.now c.args.hose.now) (sym c.deref.ensures.value) (
    all_so_far c.args.top.now c.args.links.now c.args.hose.now c.ends-ends.result.now c.ends-ends.ensures.value c.loop-node.node-index (omega (arith, c.loop-node-test.false)) c.loop-node.weights.items c.loop-node.invariant
    )
