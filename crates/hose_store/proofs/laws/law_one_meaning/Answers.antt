use Rattle.hose_store.proofs.OneMeaning.{recovered_once}
use Rattle.hose_store.proofs.laws.law_one_meaning.Goals as goal

pub returns : goal.returns
returns c = λ image one other is_one is_other. recovered_once c.args.top.now image one other is_one is_other
