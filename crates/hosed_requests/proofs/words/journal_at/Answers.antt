use Rattle.std.proofs.Common.{◌≡◌, Err, inl, inr, rules}
use Rattle.hosed_requests.proofs.words.journal_at.Goals as goal

pub returns-in_err-of-clause-wrong : goal.returns-in_err-of-clause-wrong
returns-in_err-of-clause-wrong g c =
    let is : c.from_residual.result ≡ Err c.in_err-of.field-0.0 = search rules in
    rw is (inl c.in_err-of.ensures.wrong)

pub returns-in_err-journal-clause-wrong : goal.returns-in_err-journal-clause-wrong
returns-in_err-journal-clause-wrong g c =
    let is : c.from_residual-in_err-journal.result ≡ Err c.in_err-journal.field-0.0 = search rules in
    rw is (inr (_, _, c.in_ok-of.ensures.ok, c.in_err-journal.ensures.wrong))
