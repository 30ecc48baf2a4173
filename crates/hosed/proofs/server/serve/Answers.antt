use Rattle.std.proofs.Common.{◌≡◌, Err, refl, rules, subst}
use Rattle.hose_outside.specs.Reading.{ReadsTopology, priced_names}
use Rattle.hose_outside.specs.Parts.{parts, tellings}
use Rattle.hose_outside.specs.steps.Parts.{held}
use Rattle.hose_outside.specs.declared.fault.Fault.TheVariants.{Cabinet}
use Rattle.hose_outside.specs.Why.{why_status}
use Rattle.hose_outside.proofs.Failing.{fails_reading, fails_then, unopened_fails}
use Rattle.hose_outside.proofs.Lending.{lent_alone}
use Rattle.hose_outside.proofs.PutBack.{opens_none}
use Rattle.hosed.proofs.Connections.{same_first, served_in}
use Rattle.hosed.proofs.Served.{is_served, no_topology_read, not_opened, serve_not_1, serving_fails}
use Rattle.hosed.proofs.server.serve.Goals as goal

-- the topology was not read
pub returns-in-Err-clause-outcome : goal.returns-in-Err-clause-outcome
returns-in-Err-clause-outcome g c =
    let reads = subst (ReadsTopology g.C.Cabinet c.args.outside.now.cabinet.now c.read_topology.new.cabinet (g.P.Prices.prices c.args.costs.now) c.args.request.topology.now) c.in-Err.is c.read_topology.ensures.reads in
    no_topology_read _ _ _ _ _ _ _ _ c.in-Err.why (why_status c.end.result) reads c.end.ensures.status c.end.ensures.last_line refl refl

pub returns-in-Err-clause-not_words : goal.returns-in-Err-clause-not_words
returns-in-Err-clause-not_words g c = serve_not_1 _ _ _ _ _ _ _ _ (why_status c.end.result) (returns-in-Err-clause-outcome g c)

pub returns-in-Err-clause-fails : goal.returns-in-Err-clause-fails
returns-in-Err-clause-fails g c =
    let tells = tellings g.I.Source g.O.Sink g.C.Cabinet g.C.Disk.Disk in
    let names = priced_names (g.P.Prices.prices c.args.costs.now) c.args.request.topology.now c.args.request.journal.now in
    let before = held c.args.outside.now in
    let after = parts before.input c.end.new.output c.read_topology.new.cabinet in
    let reads = subst (ReadsTopology g.C.Cabinet c.args.outside.now.cabinet.now c.read_topology.new.cabinet (g.P.Prices.prices c.args.costs.now) c.args.request.topology.now) c.in-Err.is c.read_topology.ensures.reads in
    fails_reading tells names before after c.in-Err.why reads c.end.result c.end.ensures.is

-- the disk was not taken out
pub returns-in_default-clause-outcome : goal.returns-in_default-clause-outcome
returns-in_default-clause-outcome g c =
    let reads = subst (ReadsTopology g.C.Cabinet c.args.outside.now.cabinet.now c.read_topology.new.cabinet (g.P.Prices.prices c.args.costs.now) c.args.request.topology.now) c.in-Ok.is c.read_topology.ensures.reads in
    let ended = c.end-in_default in
    not_opened _ _ _ _ _ _ _ _ c.read_topology.new.cabinet c.in-Ok.topology (why_status ended.result) reads (record { absent = search rules; others = c.disk.ensures.others }) refl Cabinet (search rules) ended.ensures.status ended.ensures.last_line refl

pub returns-in_default-clause-not_words : goal.returns-in_default-clause-not_words
returns-in_default-clause-not_words g c = serve_not_1 _ _ _ _ _ _ _ _ (why_status c.end-in_default.result) (returns-in_default-clause-outcome g c)

pub returns-in_default-clause-fails : goal.returns-in_default-clause-fails
returns-in_default-clause-fails g c =
    let tells = tellings g.I.Source g.O.Sink g.C.Cabinet g.C.Disk.Disk in
    let names = priced_names (g.P.Prices.prices c.args.costs.now) c.args.request.topology.now c.args.request.journal.now in
    let before = held c.args.outside.now in
    let after = parts before.input c.end-in_default.new.output c.disk.new.self in
    let reads = subst (ReadsTopology g.C.Cabinet c.args.outside.now.cabinet.now c.read_topology.new.cabinet (g.P.Prices.prices c.args.costs.now) c.args.request.topology.now) c.in-Ok.is c.read_topology.ensures.reads in
    let ended = c.end-in_default in
    fails_then tells names before after c.read_topology.new.cabinet c.in-Ok.topology reads c.disk.ensures.others ended.result (rw ended.ensures.is (search rules))

-- no store was opened
pub returns-in-Err-open_store-clause-outcome : goal.returns-in-Err-open_store-clause-outcome
returns-in-Err-open_store-clause-outcome g c =
    let reads = subst (ReadsTopology g.C.Cabinet c.args.outside.now.cabinet.now c.read_topology.new.cabinet (g.P.Prices.prices c.args.costs.now) c.args.request.topology.now) c.in-Ok.is c.read_topology.ensures.reads in
    let taken = c.in-Ok-disk.ensures in
    let back = c.back.ensures in
    let refused = c.in-Err-open_store in
    let ended = c.end-in-Err-open_store in
    let not = opens_none g.C.Cabinet g.C.Disk.Disk c.args.request.journal.now c.read_topology.new.cabinet c.disk.new.self c.back.new.self c.in-Ok.topology c.in-Ok-disk.disk refused.refused.1
    (record { out = record { content = taken.content; images = taken.images; moment = taken.moment; fresh = taken.opened; call = taken.call }; in_place = record { held = back.held; never_falls = back.never_falls; call = back.call } }) (Err refused.refused.0) refused.ensures.refused in
    let alone = lent_alone g.C.Cabinet g.C.Disk.Disk c.args.request.journal.now c.read_topology.new.cabinet c.disk.new.self c.back.new.self c.in-Ok-disk.disk refused.refused.1
    (record { content = taken.content; images = taken.images; moment = taken.moment; fresh = taken.opened; call = taken.call }) c.disk.ensures.others (record { held = back.held; never_falls = back.never_falls; call = back.call }) back.others in
    not_opened _ _ _ _ _ _ _ _ c.read_topology.new.cabinet c.in-Ok.topology (why_status ended.result) reads alone refl refused.refused.0 not ended.ensures.status ended.ensures.last_line refl

pub returns-in-Err-open_store-clause-not_words : goal.returns-in-Err-open_store-clause-not_words
returns-in-Err-open_store-clause-not_words g c = serve_not_1 _ _ _ _ _ _ _ _ (why_status c.end-in-Err-open_store.result) (returns-in-Err-open_store-clause-outcome g c)

pub returns-in-Err-open_store-clause-fails : goal.returns-in-Err-open_store-clause-fails
returns-in-Err-open_store-clause-fails g c =
    let tells = tellings g.I.Source g.O.Sink g.C.Cabinet g.C.Disk.Disk in
    let names = priced_names (g.P.Prices.prices c.args.costs.now) c.args.request.topology.now c.args.request.journal.now in
    let before = held c.args.outside.now in
    let after = parts before.input c.end-in-Err-open_store.new.output c.back.new.self in
    let reads = subst (ReadsTopology g.C.Cabinet c.args.outside.now.cabinet.now c.read_topology.new.cabinet (g.P.Prices.prices c.args.costs.now) c.args.request.topology.now) c.in-Ok.is c.read_topology.ensures.reads in
    let taken = c.in-Ok-disk.ensures in
    let back = c.back.ensures in
    let refused = c.in-Err-open_store in
    let ended = c.end-in-Err-open_store in
    let not = opens_none g.C.Cabinet g.C.Disk.Disk c.args.request.journal.now c.read_topology.new.cabinet c.disk.new.self c.back.new.self c.in-Ok.topology c.in-Ok-disk.disk refused.refused.1
    (record { out = record { content = taken.content; images = taken.images; moment = taken.moment; fresh = taken.opened; call = taken.call }; in_place = record { held = back.held; never_falls = back.never_falls; call = back.call } }) (Err refused.refused.0) refused.ensures.refused in
    let alone = lent_alone g.C.Cabinet g.C.Disk.Disk c.args.request.journal.now c.read_topology.new.cabinet c.disk.new.self c.back.new.self c.in-Ok-disk.disk refused.refused.1
    (record { content = taken.content; images = taken.images; moment = taken.moment; fresh = taken.opened; call = taken.call }) c.disk.ensures.others (record { held = back.held; never_falls = back.never_falls; call = back.call }) back.others in
    fails_then tells names before after c.read_topology.new.cabinet c.in-Ok.topology reads alone.others ended.result
    (rw ended.ensures.is (unopened_fails g.C.Cabinet g.C.Disk.Disk c.args.request.journal.now c.read_topology.new.cabinet c.back.new.self c.in-Ok.topology refused.refused.0 not))

-- connections were served
pub returns-clause-outcome : goal.returns-clause-outcome
returns-clause-outcome g c =
    let reads = subst (ReadsTopology g.C.Cabinet c.args.outside.now.cabinet.now c.read_topology.new.cabinet (g.P.Prices.prices c.args.costs.now) c.args.request.topology.now) c.in-Ok.is c.read_topology.ensures.reads in
    let taken = c.in-Ok-disk.ensures in
    let back = c.back-2.ensures in
    let served = c.serve_store-came in
    let borrow = same_first _ _ _ _ served.ensures.stay.door.loan in
    let given : served.result.door.now ≡ c.door-1.given.0 = search rules in
    let kept = served_in (tellings g.I.Source g.O.Sink g.C.Cabinet g.C.Disk.Disk) c.args.request.journal.now c.read_topology.new.cabinet c.disk.new.self c.back-2.new.self c.in-Ok.topology c.in-Ok-disk.disk served.result.disk
    (record { out = record { content = taken.content; images = taken.images; moment = taken.moment; fresh = taken.opened; call = taken.call }; in_place = record { held = back.held; never_falls = back.never_falls; call = back.call } })
    _ served.result.came (search rules) (rw (c.of-was.ensures, c.in-Ok-open_store.ensures.network) at served.ensures.serves) in
    let alone = lent_alone g.C.Cabinet g.C.Disk.Disk c.args.request.journal.now c.read_topology.new.cabinet c.disk.new.self c.back-2.new.self c.in-Ok-disk.disk served.result.disk
    (record { content = taken.content; images = taken.images; moment = taken.moment; fresh = taken.opened; call = taken.call }) c.disk.ensures.others (record { held = back.held; never_falls = back.never_falls; call = back.call }) back.others in
    is_served _ _ _ _ _ _ _ _ c.read_topology.new.cabinet c.in-Ok.topology (why_status c.tell_served.result) reads alone refl served.new.output served.result.came (rw given at kept) (rw given at served.ensures.speaks) c.tell_served.ensures.came

pub returns-clause-fails : goal.returns-clause-fails
returns-clause-fails g c =
    let tells = tellings g.I.Source g.O.Sink g.C.Cabinet g.C.Disk.Disk in
    let names = priced_names (g.P.Prices.prices c.args.costs.now) c.args.request.topology.now c.args.request.journal.now in
    let before = held c.args.outside.now in
    let after = parts before.input c.tell_served.new.output c.back-2.new.self in
    let reads = subst (ReadsTopology g.C.Cabinet c.args.outside.now.cabinet.now c.read_topology.new.cabinet (g.P.Prices.prices c.args.costs.now) c.args.request.topology.now) c.in-Ok.is c.read_topology.ensures.reads in
    let taken = c.in-Ok-disk.ensures in
    let back = c.back-2.ensures in
    let served = c.serve_store-came in
    let borrow = same_first _ _ _ _ served.ensures.stay.door.loan in
    let given : served.result.door.now ≡ c.door-1.given.0 = search rules in
    let kept = served_in (tellings g.I.Source g.O.Sink g.C.Cabinet g.C.Disk.Disk) c.args.request.journal.now c.read_topology.new.cabinet c.disk.new.self c.back-2.new.self c.in-Ok.topology c.in-Ok-disk.disk served.result.disk
    (record { out = record { content = taken.content; images = taken.images; moment = taken.moment; fresh = taken.opened; call = taken.call }; in_place = record { held = back.held; never_falls = back.never_falls; call = back.call } })
    _ served.result.came (search rules) (rw (c.of-was.ensures, c.in-Ok-open_store.ensures.network) at served.ensures.serves) in
    let alone = lent_alone g.C.Cabinet g.C.Disk.Disk c.args.request.journal.now c.read_topology.new.cabinet c.disk.new.self c.back-2.new.self c.in-Ok-disk.disk served.result.disk
    (record { content = taken.content; images = taken.images; moment = taken.moment; fresh = taken.opened; call = taken.call }) c.disk.ensures.others (record { held = back.held; never_falls = back.never_falls; call = back.call }) back.others in
    fails_then tells names before after c.read_topology.new.cabinet c.in-Ok.topology reads alone.others c.tell_served.result
    (serving_fails tells c.args.request.journal.now c.read_topology.new.cabinet c.back-2.new.self c.in-Ok.topology _ c.args.request.port _ _ _ _ served.result.came kept served.ensures.speaks c.tell_served.result c.tell_served.ensures.is)

pub returns-clause-not_words : goal.returns-clause-not_words
returns-clause-not_words g c = serve_not_1 _ _ _ _ _ _ _ _ (why_status c.tell_served.result) (returns-clause-outcome g c)
