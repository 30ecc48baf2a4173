use Rattle.std.proofs.Common.{rules, ◌<◌, length, arith}
use Rattle.std.specs.List.{Contains}
use Rattle.hose_graph.specs.declared.limits.TheConstants.{MOST_NODES}
use Rattle.hose_graph.proofs.Growth.{IsNetwork-node}
use Rattle.hose_graph.proofs.topology.Topology.push_node.Goals as goal

pub invariant_of-self : goal.invariant_of-self
invariant_of-self c =
    let nodes = c.self.inside.names.items in
    let room : length nodes < MOST_NODES = search rules in
    let absent : ¬ Contains nodes c.args.name = search rules in
    rw c.push_reserved.ensures.items (
      IsNetwork-node nodes _ c.args.name c.self.invariant.0 room absent c.bytes-bytes.ensures.is_name,
      omega (arith, c.push_reserved.ensures.capacity, c.self.invariant.1),
      c.self.invariant.2,
    )
