use Rattle.std.proofs.Common.{◌<◌, get_or, arith, length}
use Rattle.hose_graph.specs.declared.limits.TheConstants.{MOST_NODES}
use Rattle.hose_tree.proofs.Moving.{end_is_node, rate_fits, rates_more}
use Rattle.hose_tree.proofs.reserve.add_rates.Goals as goal

pub add_rate-requires-clause-fits : goal.add_rate-requires-clause-fits
add_rate-requires-clause-fits c =
    let ends = c.args.ends.now in
    let i = c.loop-node.node-index in
    let end = get_or ends i (0, 0) in
    let node : end.0 < MOST_NODES = end_is_node ends i c.requires.hose c.loop-node-test.true in
    let there : end.0 < length c.loop-node.rates = omega arith in
    omega (arith, rate_fits ends i end.0 c.requires.hose c.loop-node-test.true, c.loop-node.invariant end.0 there)

pub loop-node-preserved : goal.loop-node-preserved
loop-node-preserved c =
    let ends = c.args.ends.now in
    let i = c.loop-node.node-index in
    let end = get_or ends i (0, 0) in
    let node : end.0 < MOST_NODES = end_is_node ends i c.requires.hose c.loop-node-test.true in
    rates_more ends i c.loop-node.rates c.add_rate.new.rates c.loop-node-test.true c.loop-node.invariant (omega arith) (omega arith) c.add_rate.ensures.here c.add_rate.ensures.others
