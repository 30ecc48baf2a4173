use Rattle.std.proofs.Common.{◌≡◌, length}
use Rattle.std.specs.List.{All, flat_map}
use Rattle.hose_graph.specs.steps.Naming.{AsksOf}
use Rattle.hose_graph.specs.Network.{Network}
use Rattle.hose_gen.specs.Generated.{first_orders}
use Rattle.hose_gen.proofs.orders.orders.Given as goal

abbrev pub invariant-loop-hose : goal.invariant-loop-hose
invariant-loop-hose l =
    (l.orders.items ≡ flat_map (λ made. made) (first_orders l.nodes l.fn.draws.state l.hose).0)
    × (l.draws.state ≡ (first_orders l.nodes l.fn.draws.state l.hose).1)
    × ((network : Network) → length network.nodes ≡ l.nodes → All (λ order. AsksOf network order.1) l.orders.items)
