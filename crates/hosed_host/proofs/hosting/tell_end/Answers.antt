use Rattle.std.proofs.Common.{refl}
use Rattle.hose_audit.specs.Audit.{audit_text}
use Rattle.hose_outside.specs.Why.{why_status}
use Rattle.hosed_host.proofs.HostOutcomes.{asked_may, ends_asked}
use Rattle.hosed_host.proofs.hosting.tell_end.Goals as goal

pub returns-in-Asked-clause-came : goal.returns-in-Asked-clause-came
returns-in-Asked-clause-came g c =
    rw c.in-Asked.is (ends_asked g.O.Sink c.args.output.now c.tell.new.output (why_status c.tell.result) (audit_text c.args.end.book.network c.args.end.book.book) c.args.end.closing c.closed_as.result c.closed_as.ensures c.tell.ensures.came)

pub returns-in-Asked-clause-why : goal.returns-in-Asked-clause-why
returns-in-Asked-clause-why g c = asked_may c.args.end c.args.end.closing c.closed_as.result refl c.closed_as.ensures c.tell.result c.tell.ensures.is

pub returns-in-Told-clause-why : goal.returns-in-Told-clause-why
returns-in-Told-clause-why g c = rw c.tell-in-Told.ensures.is tt
