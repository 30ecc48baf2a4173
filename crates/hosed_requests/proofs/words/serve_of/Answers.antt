use Rattle.std.proofs.Common.{◌≡◌, ℕ, ◌+◌, Err, arith, map, rules}
use Rattle.std.specs.String.{string_bytes}
use Rattle.hose_pool.specs.Limits.{most_workers}
use Rattle.hosed_requests.specs.Limits.{most_connections}
use Rattle.hosed_requests.specs.steps.Arguments.{Operands, number_operand, server_numbers}
use Rattle.hosed_requests.specs.steps.Arguments.Operand.{number_within}
use Rattle.hosed_requests.specs.steps.Arguments.Operands.{no_more}
use Rattle.hosed_requests.specs.declared.verb.ProgramVerb.TheVariants as command
use Rattle.hosed_requests.proofs.Commands.{journal_then, no_journal, no_number, took_to, value_then, verb_wrong}
use Rattle.hosed_requests.proofs.words.serve_of.Goals as goal

-- what stands after the connections of a server, and after its port
abbrev of_connections : ℕ → Operands
of_connections connections = number_operand 1 most_workers (λ workers. no_more)

abbrev of_port : ℕ → Operands
of_port port = number_operand 1 most_connections of_connections

pub returns-in_err-of-clause-wrong : goal.returns-in_err-of-clause-wrong
returns-in_err-of-clause-wrong g c =
    let is : c.from_residual.result ≡ Err c.in_err-of.field-0.0 = search rules in
    rw is (verb_wrong _ command.Serve (map string_bytes c.args.words.now) _ tt c.requires (no_journal _ _ _ server_numbers c.in_err-of.ensures.wrong))

pub returns-in_err-port-clause-wrong : goal.returns-in_err-port-clause-wrong
returns-in_err-port-clause-wrong g c =
    let words = map string_bytes c.args.words.now in
    let is : c.from_residual-in_err-port.result ≡ Err c.in_err-port.field-0.0 = search rules in
    rw is (verb_wrong _ command.Serve words _ tt c.requires (journal_then _ words _ c.in_ok-of.at _ server_numbers c.in_ok-of.ensures.ok (no_number 1 65535 of_port c.in_err-port.ensures.wrong)))

pub returns-in_err-connections-clause-wrong : goal.returns-in_err-connections-clause-wrong
returns-in_err-connections-clause-wrong g c =
    let words = map string_bytes c.args.words.now in
    let is : c.from_residual-in_err-connections.result ≡ Err c.in_err-connections.field-0.0 = search rules in
    rw is (verb_wrong _ command.Serve words _ tt c.requires (journal_then _ words _ c.in_ok-of.at _ server_numbers c.in_ok-of.ensures.ok
    (value_then (number_within 1 65535) of_port c.in_ok-port.port (c.in_ok-port.ensures.within, omega (arith, c.in_ok-port.ensures.within)) c.in_ok-port.ensures.ok (no_number 1 most_connections of_connections c.in_err-connections.ensures.wrong))))

pub returns-in_err-workers-clause-wrong : goal.returns-in_err-workers-clause-wrong
returns-in_err-workers-clause-wrong g c =
    let words = map string_bytes c.args.words.now in
    let is : c.from_residual-in_err-workers.result ≡ Err c.in_err-workers.field-0.0 = search rules in
    rw is (verb_wrong _ command.Serve words _ tt c.requires (journal_then _ words _ c.in_ok-of.at _ server_numbers c.in_ok-of.ensures.ok
    (value_then (number_within 1 65535) of_port c.in_ok-port.port (c.in_ok-port.ensures.within, omega (arith, c.in_ok-port.ensures.within)) c.in_ok-port.ensures.ok (value_then (number_within 1 most_connections) of_connections c.in_ok-connections.connections (c.in_ok-connections.ensures.within, omega (arith, c.in_ok-connections.ensures.within)) (took_to words (c.in_ok-of.at + 1 + 1) (c.in_ok-of.at + 2) (omega arith) c.in_ok-connections.ensures.ok) (no_number 1 most_workers (λ workers. no_more) c.in_err-workers.ensures.wrong)))))

pub returns-in_err-none_at-clause-wrong : goal.returns-in_err-none_at-clause-wrong
returns-in_err-none_at-clause-wrong g c =
    let words = map string_bytes c.args.words.now in
    let is : c.from_residual-in_err-none_at.result ≡ Err c.in_err-none_at.field-0.0 = search rules in
    rw is (verb_wrong _ command.Serve words _ tt c.requires (journal_then _ words _ c.in_ok-of.at _ server_numbers c.in_ok-of.ensures.ok
    (value_then (number_within 1 65535) of_port c.in_ok-port.port (c.in_ok-port.ensures.within, omega (arith, c.in_ok-port.ensures.within)) c.in_ok-port.ensures.ok (value_then (number_within 1 most_connections) of_connections c.in_ok-connections.connections (c.in_ok-connections.ensures.within, omega (arith, c.in_ok-connections.ensures.within)) (took_to words (c.in_ok-of.at + 1 + 1) (c.in_ok-of.at + 2) (omega arith) c.in_ok-connections.ensures.ok)
    (value_then (number_within 1 most_workers) (λ workers. no_more) c.in_ok-workers.workers (c.in_ok-workers.ensures.within, omega (arith, c.in_ok-workers.ensures.within)) (took_to words (c.in_ok-of.at + 2 + 1) (c.in_ok-of.at + 3) (omega arith) c.in_ok-workers.ensures.ok) c.in_err-none_at.ensures.wrong)))))
