use Rattle.std.proofs.Common.{List, ℕ, [], rules, subst}
use Rattle.hose_journal.specs.Moments.{LeavesOnly}
use Rattle.hose_journal.specs.Opening.{AddsNoRecord}
use Rattle.hose_journal.specs.steps.Opening.{IsOpened, KeepsList, KeepsOrBegins}
use Rattle.hose_journal.specs.steps.Reading.{Reads}
use Rattle.hose_store.proofs.Before.{opening_before}
use Rattle.hose_store.proofs.Begins.{nothing_begun}
use Rattle.hose_store.proofs.Histories.{is_digest}
use Rattle.hose_store.proofs.Openings.{at_opening, refused_open}
use Rattle.hose_store.proofs.Readings.{given_first, only_none}
use Rattle.hose_store.proofs.replay.Replay.open.Goals as goal

pub returns-in-Ok-open-clause-opened : goal.returns-in-Ok-open-clause-opened
returns-in-Ok-open-clause-opened g c =
    let disk = g.D.Disk in
    let old = c.args.disk in
    let reading = c.in-Ok-open.reading in
    let is = is_digest c.args.top c.digest-digest.result c.digest-digest.ensures in
    record {
      is_network = search rules;
      given = given_first disk c.in-Ok.book c.args.top reading c.in-Ok.ensures.value c.in-Ok.ensures.tracks (subst (λ (digest : List ℕ). Reads disk reading digest []) is c.in-Ok-open.ensures.reads) c.in-Ok-open.ensures.fault;
      opened = reading.disk;
      run = subst (λ (digest : List ℕ). LeavesOnly disk old reading.disk (IsOpened disk old digest)) is c.in-Ok-open.ensures.any_moment;
      keeps = c.in-Ok-open.ensures.keeps;
      count = c.in-Ok-open.ensures.count;
      list = subst (λ (digest : List ℕ). KeepsList (disk.content old) (disk.content reading.disk) digest) is c.in-Ok-open.ensures.list;
      version = subst (λ (digest : List ℕ). KeepsOrBegins (disk.content old) (disk.content reading.disk) digest) is c.in-Ok-open.ensures.version;
      only = only_none disk reading.disk (g.met.D.Disk.only_now reading.disk);
    }

pub returns-in-Err-clause-refused : goal.returns-in-Err-clause-refused
returns-in-Err-clause-refused g c =
    let disk = g.D.Disk in
    let old = c.args.disk in
    let new = c.in-Err.refused.1 in
    let is = is_digest c.args.top c.digest-digest.result c.digest-digest.ensures in
    let run = subst (λ (digest : List ℕ). LeavesOnly disk old new (IsOpened disk old digest)) is c.in-Err.ensures.any_moment in (
      refused_open disk old new c.args.top c.digest-digest.result c.in-Err.refused.0 _ is c.from.ensures (g.met.D.Disk.only_now old) (g.met.D.Disk.untold new) c.in-Err.ensures.keeps c.in-Err.ensures.any_moment c.in-Err.ensures.refused,
      record { run = at_opening disk old new c.args.top run; keeps = c.in-Err.ensures.keeps },
      subst (λ (digest : List ℕ). AddsNoRecord (disk.content old) (disk.content new) digest) is c.in-Err.ensures.adds,
    )

pub returns-in-Ok-open-clause-begins : goal.returns-in-Ok-open-clause-begins
returns-in-Ok-open-clause-begins g c =
    let is = is_digest c.args.top c.digest-digest.result c.digest-digest.ensures in
    record {
      run = subst (λ (digest : List ℕ). LeavesOnly g.D.Disk c.args.disk c.in-Ok-open.reading.disk (IsOpened g.D.Disk c.args.disk digest)) is c.in-Ok-open.ensures.any_moment;
      keeps = c.in-Ok-open.ensures.keeps;
    }

pub returns-in-Err-clause-begins : goal.returns-in-Err-clause-begins
returns-in-Err-clause-begins g c =
    let is = is_digest c.args.top c.digest-digest.result c.digest-digest.ensures in
    record {
      run = subst (λ (digest : List ℕ). LeavesOnly g.D.Disk c.args.disk c.in-Err.refused.1 (IsOpened g.D.Disk c.args.disk digest)) is c.in-Err.ensures.any_moment;
      keeps = c.in-Err.ensures.keeps;
    }

pub returns-in_default-clause-begins : goal.returns-in_default-clause-begins
returns-in_default-clause-begins g c = nothing_begun g.D.Disk c.args.disk c.args.top (g.met.D.Disk.only_now c.args.disk)

pub returns-in-Err-clause-until : goal.returns-in-Err-clause-until
returns-in-Err-clause-until g c =
    let is = is_digest c.args.top c.digest-digest.result c.digest-digest.ensures in
    opening_before g.D.Disk c.args.disk c.in-Err.refused.1 c.args.top c.digest-digest.result c.in-Err.refused.0 _ is c.from.ensures c.in-Err.ensures.refused
