use Rattle.std.proofs.Common.{refl, subst}
use Rattle.hose_outside.specs.Reading.{ReadsTopology, priced_names}
use Rattle.hose_outside.specs.Parts.{parts, tellings}
use Rattle.hose_outside.specs.steps.Parts.{held}
use Rattle.hose_outside.specs.Why.{why_status}
use Rattle.hose_lead.specs.LedStore.{LedState}
use Rattle.hosed_host.specs.HostBook.{door_tellings}
use Rattle.hosed_host.specs.HostWhy.{host_status}
use Rattle.hosed_host.specs.steps.HostOutcome.{asked_of}
use Rattle.hose_outside.proofs.Failing.{fails_reading}
use Rattle.hosed_host.proofs.HostOutcomes.{host_fails, host_not_1, is_hosted, no_topology_read}
use Rattle.hosed_host.proofs.hosting.host_by_names.Goals as goal

pub returns-in-Ok-clause-outcome : goal.returns-in-Ok-clause-outcome
returns-in-Ok-clause-outcome g c =
    let reads = subst (ReadsTopology g.C.Cabinet (held c.args.outside.now).cabinet c.read_topology.new.cabinet (g.P.Prices.prices c.args.costs.now) c.args.request.topology.now) c.in-Ok.is c.read_topology.ensures.reads in
    is_hosted _ _ _ _ _ _ _ _ c.read_topology.new.cabinet c.in-Ok.topology (host_status c.host_journal.result) reads c.host_journal.ensures.alone c.host_journal.ensures.input c.host_journal.ensures.hosts

pub returns-in-Ok-clause-not_words : goal.returns-in-Ok-clause-not_words
returns-in-Ok-clause-not_words g c = host_not_1 _ _ _ _ _ _ _ _ (host_status c.host_journal.result) (returns-in-Ok-clause-outcome g c)

pub returns-in-Err-clause-outcome : goal.returns-in-Err-clause-outcome
returns-in-Err-clause-outcome g c =
    let reads = subst (ReadsTopology g.C.Cabinet (held c.args.outside.now).cabinet c.read_topology.new.cabinet (g.P.Prices.prices c.args.costs.now) c.args.request.topology.now) c.in-Err.is c.read_topology.ensures.reads in
    no_topology_read _ _ _ _ _ _ _ _ c.in-Err.why (why_status c.end.result) reads c.end.ensures.status c.end.ensures.last_line refl refl

pub returns-in-Err-clause-not_words : goal.returns-in-Err-clause-not_words
returns-in-Err-clause-not_words g c = host_not_1 _ _ _ _ _ _ _ _ (why_status c.end.result) (returns-in-Err-clause-outcome g c)

pub returns-in-Ok-clause-fails : goal.returns-in-Ok-clause-fails
returns-in-Ok-clause-fails g c =
    let tells = tellings g.I.Source g.O.Sink g.C.Cabinet g.C.Disk.Disk in
    let by = door_tellings g.D.Doors g.D.Network.Connections.did (g.D.Network.Connections.saw (LedState _)) in
    let names = priced_names (g.P.Prices.prices c.args.costs.now) c.args.request.topology.now c.args.request.journal.now in
    let before = held c.args.outside.now in
    let reads = subst (ReadsTopology g.C.Cabinet (held c.args.outside.now).cabinet c.read_topology.new.cabinet (g.P.Prices.prices c.args.costs.now) c.args.request.topology.now) c.in-Ok.is c.read_topology.ensures.reads in
    host_fails tells by names (asked_of c.args.request.doors) before (held c.host_journal.new.outside) c.args.doors.now c.host_journal.new.doors c.read_topology.new.cabinet c.in-Ok.topology reads c.host_journal.ensures.alone.others c.host_journal.result c.host_journal.ensures.fails

pub returns-in-Err-clause-fails : goal.returns-in-Err-clause-fails
returns-in-Err-clause-fails g c =
    let tells = tellings g.I.Source g.O.Sink g.C.Cabinet g.C.Disk.Disk in
    let names = priced_names (g.P.Prices.prices c.args.costs.now) c.args.request.topology.now c.args.request.journal.now in
    let before = held c.args.outside.now in
    let reads = subst (ReadsTopology g.C.Cabinet (held c.args.outside.now).cabinet c.read_topology.new.cabinet (g.P.Prices.prices c.args.costs.now) c.args.request.topology.now) c.in-Err.is c.read_topology.ensures.reads in
    fails_reading tells names before (parts before.input c.end.new.output c.read_topology.new.cabinet) c.in-Err.why reads c.end.result c.end.ensures.is
