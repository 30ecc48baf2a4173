use Rattle.hose_replies.proofs.Items.{amounts_spelled, ascending_go_on}
use Rattle.hose_replies.proofs.lists.TheAmountsLineFields.read.Goals as goal

pub read_items-requires-clause-goes_on : goal.read_items-requires-clause-goes_on
read_items-requires-clause-goes_on c = λ amounts are. ascending_go_on (amounts_spelled c.args.top.now c.requires) are
