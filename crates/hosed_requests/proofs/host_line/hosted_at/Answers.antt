use Rattle.std.proofs.Common.{◌≡◌, Err, map, rules}
use Rattle.std.specs.String.{string_bytes}
use Rattle.hosed_requests.proofs.HostCommands.{no_hosted_doors, no_hosted_journal, no_hosted_topology}
use Rattle.hosed_requests.proofs.host_line.hosted_at.Goals as goal

pub returns-in_err-topology-clause-wrong : goal.returns-in_err-topology-clause-wrong
returns-in_err-topology-clause-wrong c =
    let is : c.from_residual.result ≡ Err c.in_err-topology.field-0.0 = search rules in
    rw is (no_hosted_topology (map string_bytes c.args.words.now) _ _ c.in_err-topology.ensures.wrong)

pub returns-in_err-journal-clause-wrong : goal.returns-in_err-journal-clause-wrong
returns-in_err-journal-clause-wrong c =
    let is : c.from_residual-in_err-journal.result ≡ Err c.in_err-journal.field-0.0 = search rules in
    rw is (no_hosted_journal (map string_bytes c.args.words.now) _ _ c.in_ok-topology.topology.now (record { took = c.in_ok-topology.ensures.ok; is = c.in_ok-topology.ensures.named }) c.in_err-journal.ensures.wrong)

pub returns-in_err-doors-clause-wrong : goal.returns-in_err-doors-clause-wrong
returns-in_err-doors-clause-wrong c =
    let is : c.from_residual-in_err-doors.result ≡ Err c.in_err-doors.field-0.0 = search rules in
    rw is (no_hosted_doors (map string_bytes c.args.words.now) _ _ c.in_ok-topology.topology.now c.in_ok-journal.journal.now (record { took = c.in_ok-topology.ensures.ok; is = c.in_ok-topology.ensures.named })
    (record { took = c.in_ok-journal.ensures.ok; is = c.in_ok-journal.ensures.named }) c.in_err-doors.ensures.wrong)
