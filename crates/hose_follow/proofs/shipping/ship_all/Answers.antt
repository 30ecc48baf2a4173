use Rattle.std.proofs.Common.{◌≡◌, ◌-◌, List, [], ℕ, Result, arith, false, length, subst, sym}
use Rattle.hose_graph.specs.Network.{Network}
use Rattle.hose_graph.specs.declared.entry.Entry.{Entry}
use Rattle.hose_io.specs.steps.Gather.{Gathered}
use Rattle.hose_store.specs.steps.Replaying.{IsReplaying}
use Rattle.hose_follow.specs.steps.Shipping.{AddsAll, Ships, outgoing_packets, shipment}
use Rattle.hose_follow.specs.declared.shipping.ShipFault.{ShipFault}
use Rattle.hose_follow.proofs.Shipped.{shipped, shipped_opened}
use Rattle.hose_follow.proofs.shipping.ship_all.Goals.{After-add_all-added}
use Rattle.hose_follow.proofs.shipping.ship_all.Goals as goal

-- what came of adding the packets, from an empty gatherer on
adds : (g : _) (c : After-add_all-added g) (was : g.row.D.Denot) (network : Network) → IsReplaying g.D.Disk was network c.args.replay.now []
    → AddsAll g.S.Sink g.D.Disk (shipment was network c.args.from) (outgoing_packets (record { held = []; broke = false }) c.args.sink.now) c.add_all-added.new.replay (outgoing_packets c.add_all-added.new.gather c.add_all-added.new.sink) c.add_all-added.result
adds g c was network replaying =
    subst (λ (start : Gathered). AddsAll g.S.Sink g.D.Disk (shipment was network c.args.from) (outgoing_packets start c.args.sink.now) c.add_all-added.new.replay (outgoing_packets c.add_all-added.new.gather c.add_all-added.new.sink) c.add_all-added.result) c.new-gather.ensures
    (c.add_all-added.ensures was network replaying)

pub returns-clause-ships : goal.returns-clause-ships
returns-clause-ships g c = λ was network replaying.
    let replay = c.add_all-added.new.replay in
    let gather = c.add_all-added.new.gather in
    let after = c.add_all-added.new.sink in
    let added = adds g (goal.at.returns-clause-ships g c).After-add_all-added was network replaying in
    let counted : (entries : List Entry) → IsReplaying g.D.Disk was network replay entries → c.saturating_sub-count.result ≡ length entries - (c.args.from - 1) =
    λ entries on. omega (arith, c.epoch.ensures.given was network entries on) in
    subst (λ (r : Result ℕ ShipFault). Ships g.S.Sink g.D.Disk c.args.sink.now c.finish-sent.new.sink (shipment was network c.args.from) replay.reading.disk r) (sym c.first_fault.ensures)
    (shipped g.S.Sink g.D.Disk was network c.args.from replay gather c.args.sink.now after c.finish-sent.new.sink c.add_all-added.result c.finish-sent.result c.saturating_sub-count.result added c.finish-sent.ensures counted)

pub returns-clause-opened : goal.returns-clause-opened
returns-clause-opened g c = λ was network replaying.
    shipped_opened g.S.Sink g.D.Disk was network c.args.from c.add_all-added.new.replay c.add_all-added.new.gather c.args.sink.now c.add_all-added.new.sink c.finish-sent.new.sink c.add_all-added.result
    (adds g (goal.at.returns-clause-opened g c).After-add_all-added was network replaying)
