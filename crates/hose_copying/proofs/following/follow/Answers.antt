use Rattle.std.proofs.Common.{refl, subst, ◌∙◌, rules, sym}
use Rattle.hose_outside.specs.Reading.{ReadsTopology, priced_names}
use Rattle.hose_outside.specs.Parts.{parts, tellings}
use Rattle.hose_outside.specs.steps.Parts.{held}
use Rattle.hose_outside.specs.Why.{why_status}
use Rattle.hose_outside.proofs.Named.{no_topology}
use Rattle.hose_outside.proofs.Failing.{fails_reading, fails_then}
use Rattle.hose_copying.proofs.Failing.{follows_fail}
use Rattle.hose_copying.proofs.FollowEnds.{follow_not_1, is_followed, not_followed}
use Rattle.hose_copying.proofs.following.follow.Goals as goal

pub returns-in-Ok : goal.returns-in-Ok
returns-in-Ok g c =
    let tells = tellings g.I.Source g.O.Sink g.C.Cabinet g.C.Disk.Disk in
    let names = priced_names (g.P.Prices.prices c.args.costs.now) c.args.names.topology.now c.args.names.journal.now in
    let before = held c.args.outside.now in
    let done = c.follow_journal-done in
    let followed = held done.new.outside in
    let after = parts followed.input c.end.new.output followed.cabinet in
    let reads = subst (ReadsTopology g.C.Cabinet before.cabinet c.read_topology.new.cabinet names.prices names.topology) c.in-Ok.is c.read_topology.ensures.reads in
    let outcome = is_followed tells names before after followed.output (why_status c.end.result) c.in-Ok.top c.end.ensures.output c.read_topology.new.cabinet reads done.ensures.alone done.result done.ensures.follows c.end.ensures.status c.end.ensures.last_line in
    let fails = fails_then tells names before after c.read_topology.new.cabinet c.in-Ok.top reads done.ensures.alone.others c.end.result (rw c.end.ensures.is (follows_fail tells names.journal (record before { cabinet = c.read_topology.new.cabinet }) followed c.in-Ok.top done.result done.ensures.follows)) in
    record { outcome = outcome; told = c.end.ensures.told; fails = fails; not_words = follow_not_1 _ _ _ _ _ outcome; out = done.ensures.beside.back ∙ sym c.requires; keeps = search rules }

pub returns-in-Err : goal.returns-in-Err
returns-in-Err g c =
    let tells = tellings g.I.Source g.O.Sink g.C.Cabinet g.C.Disk.Disk in
    let names = priced_names (g.P.Prices.prices c.args.costs.now) c.args.names.topology.now c.args.names.journal.now in
    let before = held c.args.outside.now in
    let ended = c.end-in-Err in
    let after = parts before.input ended.new.output c.read_topology.new.cabinet in
    let reads = subst (ReadsTopology g.C.Cabinet before.cabinet after.cabinet names.prices names.topology) c.in-Err.is c.read_topology.ensures.reads in
    let outcome = not_followed tells names before after c.in-Err.why (why_status ended.result) (no_topology tells names before after c.in-Err.why reads) ended.ensures.status ended.ensures.last_line refl in
    let fails = fails_reading tells names before after c.in-Err.why reads ended.result ended.ensures.is in
    record { outcome = outcome; told = ended.ensures.told; fails = fails; not_words = follow_not_1 _ _ _ _ _ outcome; out = search rules; keeps = search rules }
