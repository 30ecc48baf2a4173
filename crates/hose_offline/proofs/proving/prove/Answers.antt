use Rattle.std.proofs.Common.{map, subst}
use Rattle.std.specs.String.{string_bytes}
use Rattle.hose_outside.specs.Reading.{ReadsTopology}
use Rattle.hose_outside.specs.Parts.{tellings}
use Rattle.hose_outside.specs.steps.Parts.{held}
use Rattle.hose_offline.specs.ProveOutcome.{ends_from}
use Rattle.hose_outside.specs.Why.{why_status}
use Rattle.hose_offline.proofs.Proved.{proved_none, proved_then}
use Rattle.hose_offline.proofs.proving.prove.Goals as goal

pub returns-in-Ok-clause-outcome : goal.returns-in-Ok-clause-outcome
returns-in-Ok-clause-outcome g c =
    let done = c.prove_words-done in
    let prices = g.P.Prices.prices c.args.costs.now in
    let reads = subst (ReadsTopology g.C.Cabinet c.args.outside.now.cabinet.now c.read_topology.new.cabinet prices c.args.topology.now) c.in-Ok.is c.read_topology.ensures.reads in
    proved_then (tellings g.I.Source g.O.Sink g.C.Cabinet g.C.Disk.Disk) prices c.args.topology.now (ends_from (map string_bytes c.args.ends.words.now) c.args.ends.first) (held c.args.outside.now) c.read_topology.new.cabinet done.new.output c.end.new.output c.in-Ok.top done.result (why_status c.end.result)
    reads done.ensures.came c.end.ensures.last_line c.end.ensures.status

pub returns-in-Err-clause-outcome : goal.returns-in-Err-clause-outcome
returns-in-Err-clause-outcome g c =
    let prices = g.P.Prices.prices c.args.costs.now in
    let reads = subst (ReadsTopology g.C.Cabinet c.args.outside.now.cabinet.now c.read_topology.new.cabinet prices c.args.topology.now) c.in-Err.is c.read_topology.ensures.reads in
    proved_none (tellings g.I.Source g.O.Sink g.C.Cabinet g.C.Disk.Disk) prices c.args.topology.now (ends_from (map string_bytes c.args.ends.words.now) c.args.ends.first) (held c.args.outside.now) c.read_topology.new.cabinet c.end-in-Err.new.output c.in-Err.why (why_status c.end-in-Err.result) reads c.end-in-Err.ensures.last_line c.end-in-Err.ensures.status
