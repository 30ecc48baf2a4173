use Rattle.std.proofs.Common.{◌∙◌, inl, inr, refl, rules}
use Rattle.hose_outside.specs.steps.Parts.{held}
use Rattle.hose_outside.proofs.Lending.{others_then}
use Rattle.hosed_host.specs.steps.HostOutcome.{asked_of}
use Rattle.hose_outside.proofs.Failing.{unopened_fails}
use Rattle.hosed_host.proofs.HostOutcomes.{hosting_fails}
use Rattle.hosed_host.proofs.hosting.host_journal.Goals as goal

pub returns-in-Ok-clause-hosts : goal.returns-in-Ok-clause-hosts
returns-in-Ok-clause-hosts g c =
    let came = c.host_by_store-came in
    inl (record {
      mid = (held came.new.outside).output;
      came = came.result;
      hosts = came.ensures.hosts c.args.request.journal.now (held c.args.outside.now).cabinet c.args.topology (search rules) c.in-Ok.ensures.opens.0 c.in-Ok.ensures.opens.1;
      announces = came.ensures.announces;
      ends = c.tell_hosted.ensures.came;
    })

pub returns-in-Err-clause-hosts : goal.returns-in-Err-clause-hosts
returns-in-Err-clause-hosts g c = inr (c.in-Err.why, c.end.ensures.status, c.in-Err.ensures.refused, c.end.ensures.last_line, refl)

pub returns-in-Ok-clause-alone : goal.returns-in-Ok-clause-alone
returns-in-Ok-clause-alone g c =
    let before = (held c.args.outside.now).cabinet in
    let opened = c.in-Ok.ensures in
    let came = c.host_by_store-came in
    record {
      absent = came.ensures.absent ∙ opened.call.absent;
      others = others_then g.C.Cabinet c.args.request.journal.now before c.open_led.new.cabinet (held came.new.outside).cabinet opened.call.out c.open_led.ensures.others came.ensures.others;
    }

pub returns-in-Ok-clause-fails : goal.returns-in-Ok-clause-fails
returns-in-Ok-clause-fails g c =
    let came = c.host_by_store-came in
    let hosts = came.ensures.hosts c.args.request.journal.now (held c.args.outside.now).cabinet c.args.topology (search rules) c.in-Ok.ensures.opens.0 c.in-Ok.ensures.opens.1 in
    hosting_fails g.C.Cabinet g.D.Doors (asked_of c.args.request.doors) (held c.args.outside.now).cabinet (held came.new.outside).cabinet c.args.doors.now came.new.doors came.result (λ end same failed. (rw same at hosts).hosted.comes_to.met.failed failed) came.ensures.left c.tell_hosted.result c.tell_hosted.ensures.why

pub returns-in-Err-clause-fails : goal.returns-in-Err-clause-fails
returns-in-Err-clause-fails g c = rw c.end.ensures.is (unopened_fails g.C.Cabinet g.C.Disk.Disk c.args.request.journal.now (held c.args.outside.now).cabinet c.open_led.new.cabinet c.args.topology c.in-Err.why c.in-Err.ensures.refused)
