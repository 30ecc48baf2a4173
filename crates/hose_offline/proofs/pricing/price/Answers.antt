use Rattle.std.proofs.Common.{ap, subst, rules}
use Rattle.hose_outside.specs.Reading.{ReadsTopology}
use Rattle.hose_outside.specs.Parts.{tellings}
use Rattle.hose_outside.specs.steps.Parts.{held}
use Rattle.hose_outside.specs.TopologyTold.{own_costs}
use Rattle.hose_outside.specs.Why.{why_status}
use Rattle.hose_offline.proofs.Priced.{price_not_1, priced_none, priced_then}
use Rattle.hose_offline.proofs.pricing.price.Goals as goal

pub returns-in-Ok : goal.returns-in-Ok
returns-in-Ok g c =
    let done = c.price_input-done in
    let reads = subst (ReadsTopology g.C.Cabinet c.args.outside.now.cabinet.now c.read_topology.new.cabinet own_costs c.args.topology.now) c.in-Ok.is c.read_topology.ensures.reads in
    let outcome = priced_then (tellings g.I.Source g.O.Sink g.C.Cabinet g.C.Disk.Disk) _ c.args.topology.now (held c.args.outside.now) c.read_topology.new.cabinet (held done.new.outside) c.end.new.output c.in-Ok.top done.result (why_status c.end.result)
    (ap (λ b. b.now) done.ensures.cabinet) reads done.ensures.prices c.end.ensures.last_line c.end.ensures.status in
    record { outcome = outcome; told = c.end.ensures.told; fails = tt; not_words = price_not_1 _ _ _ _ _ _ outcome; out = search rules; keeps = search rules }

pub returns-in-Err : goal.returns-in-Err
returns-in-Err g c =
    let reads = subst (ReadsTopology g.C.Cabinet c.args.outside.now.cabinet.now c.read_topology.new.cabinet own_costs c.args.topology.now) c.in-Err.is c.read_topology.ensures.reads in
    let outcome = priced_none (tellings g.I.Source g.O.Sink g.C.Cabinet g.C.Disk.Disk) _ c.args.topology.now (held c.args.outside.now) c.read_topology.new.cabinet c.end-in-Err.new.output c.in-Err.why (why_status c.end-in-Err.result) reads c.end-in-Err.ensures.last_line c.end-in-Err.ensures.status in
    record { outcome = outcome; told = c.end-in-Err.ensures.told; fails = tt; not_words = price_not_1 _ _ _ _ _ _ outcome; out = search rules; keeps = search rules }
