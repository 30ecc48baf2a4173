use Rattle.hose_move.proofs.Renumbered.{is_renumbered}
use Rattle.hose_move.proofs.laws.law_renumbered.Goals as goal

pub returns : goal.returns
returns c = λ book. is_renumbered c.args.top.now book
