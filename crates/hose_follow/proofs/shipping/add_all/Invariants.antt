use Rattle.std.proofs.Common.{◌-◌, []}
use Rattle.hose_graph.specs.Network.{Network}
use Rattle.hose_graph.specs.Limits.{most_epoch}
use Rattle.hose_store.specs.steps.Replaying.{IsReplaying}
use Rattle.hose_follow.specs.steps.Shipping.{HasAdded, outgoing_packets, shipment}
use Rattle.hose_follow.proofs.shipping.add_all.Given as goal

abbrev pub invariant-loop : goal.invariant-loop
invariant-loop g l = (was : g.row.D.Denot) → (network : Network) → IsReplaying g.D.Disk was network l.fn.replay []
    → HasAdded g.S.Sink g.D.Disk (shipment was network l.fn.from) (outgoing_packets l.fn.gather l.fn.sink) l.replay (outgoing_packets l.gather l.sink)

abbrev pub decreases-loop : goal.decreases-loop
decreases-loop g l = most_epoch - l.replay.book.book.epoch
