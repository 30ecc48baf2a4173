use Rattle.hose_replies.proofs.Items.{ascending_go_on, numbers_spelled}
use Rattle.hose_replies.proofs.ListsUntil.{numbers_no_at}
use Rattle.hose_replies.proofs.lists.TheNumbersLineFields.read.Goals as goal

pub read_until-requires-clause-goes_on : goal.read_until-requires-clause-goes_on
read_until-requires-clause-goes_on g c = λ numbers are. ascending_go_on numbers_spelled are

pub read_until-requires-clause-apart : goal.read_until-requires-clause-apart
read_until-requires-clause-apart g c = λ numbers are. numbers_no_at numbers are.each
