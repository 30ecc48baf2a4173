use Rattle.std.proofs.Common.{◌≡◌}
use Rattle.hose_gen.specs.Generated.{first_links, node_names}
use Rattle.hose_gen.proofs.links.add_links.Given as goal

abbrev pub invariant-loop-number : goal.invariant-loop-number
invariant-loop-number l =
    (l.top ≡ record { nodes = node_names l.nodes; links = (first_links l.nodes l.fn.draws.state l.number).0 })
    × (l.draws.state ≡ (first_links l.nodes l.fn.draws.state l.number).1)
