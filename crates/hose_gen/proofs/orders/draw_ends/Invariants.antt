use Rattle.std.proofs.Common.{◌≡◌, ◌≤◌, ◌<◌, ◌-◌, length}
use Rattle.std.specs.List.{All}
use Rattle.hose_graph.specs.Hose.{HasDistinctNodes, IsEnd, node_of}
use Rattle.hose_gen.specs.Generated.{first_ends}
use Rattle.hose_gen.proofs.orders.draw_ends.Given as goal

abbrev pub invariant-loop-draws : goal.invariant-loop-draws
invariant-loop-draws l =
    (l.ends.items ≡ (first_ends l.nodes l.fn.draws.state (length l.ends.items)).0)
    × (l.draws.state ≡ (first_ends l.nodes l.fn.draws.state (length l.ends.items)).1)
    × (length l.ends.items ≤ l.count)
    × HasDistinctNodes l.ends.items
    × All IsEnd l.ends.items
    × All (λ end. node_of end < l.nodes) l.ends.items

abbrev pub decreases-loop-draws : goal.decreases-loop-draws
decreases-loop-draws l = l.count - length l.ends.items
