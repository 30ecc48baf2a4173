use Rattle.hose_follow.proofs.Splits.{one_split}
use Rattle.hose_follow.proofs.laws.law_one_split.Goals as goal

pub returns : goal.returns
returns c = λ bytes one other rest left split split'. one_split bytes one other rest left split split'
