use Rattle.std.proofs.Common.{◌≡◌, Err, arith, map, rules}
use Rattle.std.specs.String.{string_bytes}
use Rattle.hosed_requests.proofs.Commands.{moved_journal, moved_new, moved_topology, no_move_journal, no_move_topology, no_new_journal, no_new_topology}
use Rattle.hosed_requests.proofs.words.moved_at.Goals as goal

pub returns-in_err-topology-clause-wrong : goal.returns-in_err-topology-clause-wrong
returns-in_err-topology-clause-wrong c =
    let is : c.from_residual.result ≡ Err c.in_err-topology.field-0.0 = search rules in
    rw is (no_move_topology (map string_bytes c.args.words.now) _ _ c.in_err-topology.ensures.wrong)

pub returns-in_err-journal-clause-wrong : goal.returns-in_err-journal-clause-wrong
returns-in_err-journal-clause-wrong c =
    let words = map string_bytes c.args.words.now in
    let is : c.from_residual-in_err-journal.result ≡ Err c.in_err-journal.field-0.0 = search rules in
    rw is (moved_journal words _ _ c.in_ok-topology.topology.now (record { took = c.in_ok-topology.ensures.ok; is = c.in_ok-topology.ensures.named }) (no_move_journal words _ _ c.in_ok-topology.topology.now c.in_err-journal.ensures.wrong))

pub returns-in_err-new_topology-clause-wrong : goal.returns-in_err-new_topology-clause-wrong
returns-in_err-new_topology-clause-wrong c =
    let words = map string_bytes c.args.words.now in
    let is : c.from_residual-in_err-new_topology.result ≡ Err c.in_err-new_topology.field-0.0 = search rules in
    rw is (moved_journal words _ _ c.in_ok-topology.topology.now (record { took = c.in_ok-topology.ensures.ok; is = c.in_ok-topology.ensures.named })
    (moved_topology words _ _ _ c.in_ok-topology.topology.now c.in_ok-journal.journal.now (omega arith) (record { took = c.in_ok-journal.ensures.ok; is = c.in_ok-journal.ensures.named }) (no_new_topology words _ _ c.in_ok-journal.journal.now c.in_err-new_topology.ensures.wrong)))

pub returns-in_err-new_journal-clause-wrong : goal.returns-in_err-new_journal-clause-wrong
returns-in_err-new_journal-clause-wrong c =
    let words = map string_bytes c.args.words.now in
    let is : c.from_residual-in_err-new_journal.result ≡ Err c.in_err-new_journal.field-0.0 = search rules in
    rw is (moved_journal words _ _ c.in_ok-topology.topology.now (record { took = c.in_ok-topology.ensures.ok; is = c.in_ok-topology.ensures.named })
    (moved_topology words _ _ _ c.in_ok-topology.topology.now c.in_ok-journal.journal.now (omega arith) (record { took = c.in_ok-journal.ensures.ok; is = c.in_ok-journal.ensures.named })
    (moved_new words _ _ _ c.in_ok-journal.journal.now c.in_ok-new_topology.new_topology.now (omega arith) (record { took = c.in_ok-new_topology.ensures.ok; is = c.in_ok-new_topology.ensures.named }) (no_new_journal words _ _ c.in_ok-journal.journal.now c.in_ok-new_topology.new_topology.now c.in_err-new_journal.ensures.wrong))))
