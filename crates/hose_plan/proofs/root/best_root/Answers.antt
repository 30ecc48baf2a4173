-- The row of one more endpoint is that of its node.
use Rattle.std.proofs.Common.{◌∙◌, arith, subst, sym}
use Rattle.std.proofs.lemmas.List.{take_at}
use Rattle.hose_plan.specs.steps.Rooting.{AreWeights}
use Rattle.hose_plan.proofs.Rooted.{no_root_apart, rows_pushed}
use Rattle.hose_plan.proofs.Weights.{all_so_far, more_so_far}
use Rattle.hose_plan.proofs.root.best_root.Goals as goal

pub loop-node-preserved : goal.loop-node-preserved
loop-node-preserved c =
    let before = c.loop-node.invariant in
    rw (take_at c.add_row.new.weights _ c.loop-node.weights.len (c.add_row.ensures.places ∙ c.deref_mut.ensures.len)) (
    record {
      weights =
          more_so_far c.args.top.now c.args.links.now c.args.hose.now c.ends-ends.result.now c.ends-ends.ensures.value c.loop-node.node-index c.loop-node-test.true c.in_ok-row.row c.in_ok-row.ensures.distances
          c.loop-node.weights.items c.deref_mut.result.now c.add_row.new.weights c.deref_mut.ensures.value c.add_row.ensures.places c.add_row.ensures.each (c.add_row.ensures.light c.loop-node.node-index) before.weights;
      made = rows_pushed c.args.top.now c.args.links.now c.loop-node.made.items c.push.new.self.items _ c.in_ok-row.row c.in_ok-push.ensures.items c.in_ok-row.ensures.distances before.made;
    }
    )

pub lightest-requires-clause-weights : goal.lightest-requires-clause-weights
lightest-requires-clause-weights c =
    subst (AreWeights c.args.top.now c.args.links.now c.args.hose.now) (sym c.deref.ensures.value) (
    all_so_far c.args.top.now c.args.links.now c.args.hose.now c.ends-ends.result.now c.ends-ends.ensures.value c.loop-node.node-index (omega (arith, c.loop-node-test.false)) c.loop-node.weights.items c.loop-node.invariant.weights
    )

pub returns-then-leaves_out-clause-root : goal.returns-then-leaves_out-clause-root
returns-then-leaves_out-clause-root c =
    no_root_apart c.args.top.now c.args.links.now c.args.hose.now c.ends-ends.result.now c.ends-ends.ensures.value c.requires.nodes
    c.loop-node.node-index c.loop-node-test.true c.in_ok-row.row c.in_ok-row.ensures.distances (c.leaves_out.ensures.0 c.if-leaves_out.true)
