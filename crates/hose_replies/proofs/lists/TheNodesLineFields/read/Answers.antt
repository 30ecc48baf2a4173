use Rattle.hose_replies.proofs.Items.{ascending_go_on}
use Rattle.hose_proto.proofs.ListItems.{nodes_spelled}
use Rattle.hose_replies.proofs.lists.TheNodesLineFields.read.Goals as goal

pub read_items-requires-clause-goes_on : goal.read_items-requires-clause-goes_on
read_items-requires-clause-goes_on c = λ nodes are. ascending_go_on (nodes_spelled c.args.top.now c.requires) are
