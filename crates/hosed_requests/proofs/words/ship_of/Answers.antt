use Rattle.std.proofs.Common.{◌≡◌, Err, arith, map, rules}
use Rattle.std.specs.String.{string_bytes}
use Rattle.hosed_requests.specs.steps.Arguments.{Operands, number_operand}
use Rattle.hosed_requests.specs.steps.Arguments.Operand.{number_within}
use Rattle.hosed_requests.specs.steps.Arguments.Operands.{no_more}
use Rattle.hose_graph.specs.Limits.{most_epoch}
use Rattle.hosed_requests.specs.declared.verb.ProgramVerb.TheVariants as command
use Rattle.hosed_requests.proofs.Commands.{journal_then, no_journal, no_number, value_then, verb_wrong}
use Rattle.hosed_requests.proofs.words.ship_of.Goals as goal

-- the epoch from which on entries are shipped
abbrev from_epoch : Operands
from_epoch = number_operand 1 most_epoch (λ from. no_more)

pub returns-in_err-of : goal.returns-in_err-of
returns-in_err-of g c =
    let is : c.from_residual.result ≡ Err c.in_err-of.field-0.0 = search rules in
    rw is (verb_wrong _ command.Ship (map string_bytes c.args.words.now) _ tt c.requires (no_journal _ _ _ from_epoch c.in_err-of.ensures.wrong))

pub returns-in_err-from : goal.returns-in_err-from
returns-in_err-from g c =
    let is : c.from_residual-in_err-from.result ≡ Err c.in_err-from.field-0.0 = search rules in
    rw is (verb_wrong _ command.Ship (map string_bytes c.args.words.now) _ tt c.requires (journal_then _ _ _ c.in_ok-of.at _ from_epoch c.in_ok-of.ensures.ok (no_number 1 most_epoch (λ from. no_more) c.in_err-from.ensures.wrong)))

pub returns-in_err-none_at : goal.returns-in_err-none_at
returns-in_err-none_at g c =
    let is : c.from_residual-in_err-none_at.result ≡ Err c.in_err-none_at.field-0.0 = search rules in
    rw is (verb_wrong _ command.Ship (map string_bytes c.args.words.now) _ tt c.requires (journal_then _ _ _ c.in_ok-of.at _ from_epoch c.in_ok-of.ensures.ok
    (value_then (number_within 1 most_epoch) (λ from. no_more) c.in_ok-from.from (c.in_ok-from.ensures.within, omega (arith, c.in_ok-from.ensures.within)) c.in_ok-from.ensures.ok c.in_err-none_at.ensures.wrong)))
