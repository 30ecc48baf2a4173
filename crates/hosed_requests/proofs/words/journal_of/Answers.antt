use Rattle.std.proofs.Common.{◌≡◌, Err, rules}
use Rattle.hosed_requests.specs.steps.Arguments.Operands.{no_more}
use Rattle.hosed_requests.proofs.Commands.{ends_at_journal, journal_then, no_journal}
use Rattle.hosed_requests.proofs.words.journal_of.Goals as goal

pub returns-in_err-of-clause-wrong : goal.returns-in_err-of-clause-wrong
returns-in_err-of-clause-wrong g c =
    let is : c.from_residual.result ≡ Err c.in_err-of.field-0.0 = search rules in
    rw is (no_journal _ _ _ no_more c.in_err-of.ensures.wrong)

pub returns-in_err-none_at-clause-wrong : goal.returns-in_err-none_at-clause-wrong
returns-in_err-none_at-clause-wrong g c =
    let is : c.from_residual-in_err-none_at.result ≡ Err c.in_err-none_at.field-0.0 = search rules in
    rw is (journal_then _ _ _ c.in_ok-of.at _ no_more c.in_ok-of.ensures.ok c.in_err-none_at.ensures.wrong)

pub returns-clause-ok : goal.returns-clause-ok
returns-clause-ok g c = ends_at_journal _ _ _ c.in_ok-of.at c.in_ok-of.ensures.ok c.in_ok-none_at.ensures.ok
