use Rattle.std.proofs.Common.{◌∙◌, inr}
use Rattle.hose_law.specs.History.{IsDecidedAt}
use Rattle.hose_outside.specs.Parts.{parts, tellings}
use Rattle.hose_outside.specs.steps.Parts.{held}
use Rattle.hose_outside.specs.Why.{why_status}
use Rattle.hose_offline.proofs.Audited.{book_told, audits_in}
use Rattle.hose_outside.proofs.Failing.{closing_fails, unopened_fails}
use Rattle.hose_outside.proofs.Lending.{others_then}
use Rattle.hose_offline.proofs.auditing.audit_journal.Goals as goal

pub returns-in-Ok-clause-audits : goal.returns-in-Ok-clause-audits
returns-in-Ok-clause-audits g c =
    let tells = tellings g.I.Source g.O.Sink g.C.Cabinet g.C.Disk.Disk in
    let before = held c.args.outside.now in
    let closed = c.close_journal-closing in
    let after = parts before.input c.tell.new.output closed.new.cabinet in
    book_told tells c.args.name.now before after c.args.topology IsDecidedAt c.open_journal.new.cabinet c.in-Ok.store closed.result.0 closed.result.1 (why_status c.tell.result) c.in-Ok.ensures.opens closed.ensures.closes closed.ensures.book (rw c.first_fault.ensures at c.tell.ensures.came)

pub returns-in-Err-clause-audits : goal.returns-in-Err-clause-audits
returns-in-Err-clause-audits g c = inr (c.in-Err.why, c.end.ensures.status, c.in-Err.ensures.refused, c.end.ensures.last_line)

pub returns-in-Ok-clause-alone : goal.returns-in-Ok-clause-alone
returns-in-Ok-clause-alone g c =
    let before = (held c.args.outside.now).cabinet in
    let opened = c.in-Ok.ensures in
    let closed = c.close_journal-closing in
    record {
      absent = closed.ensures.closes.absent ∙ opened.call.absent;
      others = others_then g.C.Cabinet c.args.name.now before c.open_journal.new.cabinet closed.new.cabinet opened.call.out c.open_journal.ensures.others closed.ensures.others;
    }

pub returns-in-Ok-clause-fails : goal.returns-in-Ok-clause-fails
returns-in-Ok-clause-fails g c =
    let tells = tellings g.I.Source g.O.Sink g.C.Cabinet g.C.Disk.Disk in
    let before = held c.args.outside.now in
    let closed = c.close_journal-closing in
    let after = parts before.input c.tell.new.output closed.new.cabinet in
    let has = audits_in tells c.args.name.now before after c.open_journal.new.cabinet c.args.topology c.in-Ok.store IsDecidedAt closed.result.0 c.in-Ok.ensures.opens closed.ensures.closes in
    closing_fails g.C.Cabinet before.cabinet closed.new.cabinet closed.result.0 has.met c.tell.result (rw c.first_fault.ensures at c.tell.ensures.is)

pub returns-in-Err-clause-fails : goal.returns-in-Err-clause-fails
returns-in-Err-clause-fails g c = rw c.end.ensures.is (unopened_fails g.C.Cabinet g.C.Disk.Disk c.args.name.now (held c.args.outside.now).cabinet c.open_journal.new.cabinet c.args.topology c.in-Err.why c.in-Err.ensures.refused)
