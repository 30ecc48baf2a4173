use Rattle.hose_pair.proofs.Lines.{heard}
use Rattle.hose_pair.proofs.law_heard.Goals as goal

pub returns : goal.returns
returns c = λ said from got unread answer written small all has. heard said from got unread answer written small all has
