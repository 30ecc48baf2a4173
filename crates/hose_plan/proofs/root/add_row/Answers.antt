-- Each weight grows by what an endpoint weighs at most.
use Rattle.std.proofs.Common.{arith}
use Rattle.hose_plan.proofs.Weights.{light_more}
use Rattle.hose_plan.proofs.root.add_row.Goals as goal

pub returns-clause-light : goal.returns-clause-light
returns-clause-light c ends light =
    light_more ends c.args.rate c.requires.rate c.args.row.now c.requires.bounded c.args.weights.now c.loop-node.weights c.requires.places c.loop-node.auto.weights light
    (λ v below. c.loop-node.invariant.added v (omega (arith, below, c.loop-node-test.false)))
