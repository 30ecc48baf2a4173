use Rattle.std.proofs.Common.{refl, subst, ◌∙◌, rules, sym}
use Rattle.hose_outside.specs.Reading.{ReadsTopology, priced_names}
use Rattle.hose_outside.specs.Parts.{parts, tellings}
use Rattle.hose_outside.specs.steps.Parts.{held}
use Rattle.hose_outside.specs.Why.{why_status}
use Rattle.hose_offline.proofs.Audited.{audit_not_1, is_audited}
use Rattle.hose_outside.proofs.Named.{named_not_read, no_topology}
use Rattle.hose_outside.proofs.Failing.{fails_reading, fails_then}
use Rattle.hose_offline.proofs.auditing.audit.Goals as goal

pub returns-in-Ok : goal.returns-in-Ok
returns-in-Ok g c =
    let tells = tellings g.I.Source g.O.Sink g.C.Cabinet g.C.Disk.Disk in
    let names = priced_names (g.P.Prices.prices c.args.costs.now) c.args.names.topology.now c.args.names.journal.now in
    let reads = subst (ReadsTopology g.C.Cabinet (held c.args.outside.now).cabinet c.read_topology.new.cabinet names.prices names.topology) c.in-Ok.is c.read_topology.ensures.reads in
    let outcome = is_audited tells names (held c.args.outside.now) (held c.audit_journal.new.outside) c.read_topology.new.cabinet c.in-Ok.topology reads (why_status c.audit_journal.result) c.audit_journal.ensures.audits c.audit_journal.ensures.alone c.audit_journal.ensures.input in
    let fails = fails_then tells names (held c.args.outside.now) (held c.audit_journal.new.outside) c.read_topology.new.cabinet c.in-Ok.topology reads c.audit_journal.ensures.alone.others c.audit_journal.result c.audit_journal.ensures.fails in
    record { outcome = outcome; told = c.audit_journal.ensures.told; fails = fails; not_words = audit_not_1 _ _ _ _ _ outcome; out = c.audit_journal.ensures.beside.back ∙ sym c.requires; keeps = search rules }

pub returns-in-Err : goal.returns-in-Err
returns-in-Err g c =
    let tells = tellings g.I.Source g.O.Sink g.C.Cabinet g.C.Disk.Disk in
    let names = priced_names (g.P.Prices.prices c.args.costs.now) c.args.names.topology.now c.args.names.journal.now in
    let before = held c.args.outside.now in
    let after = parts before.input c.end.new.output c.read_topology.new.cabinet in
    let reads = subst (ReadsTopology g.C.Cabinet before.cabinet after.cabinet names.prices names.topology) c.in-Err.is c.read_topology.ensures.reads in
    let outcome = named_not_read tells names before after _ c.in-Err.why (why_status c.end.result) (no_topology tells names before after c.in-Err.why reads) c.end.ensures.status c.end.ensures.last_line tt refl in
    let fails = fails_reading tells names before after c.in-Err.why reads c.end.result c.end.ensures.is in
    record { outcome = outcome; told = c.end.ensures.told; fails = fails; not_words = audit_not_1 _ _ _ _ _ outcome; out = search rules; keeps = search rules }
