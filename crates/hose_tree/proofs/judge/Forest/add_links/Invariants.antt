use Rattle.std.proofs.Common.{[], take}
use Rattle.hose_tree.specs.steps.Peeling.{IsForestOf}
use Rattle.hose_tree.proofs.judge.Forest.add_links.Given as goal

abbrev pub invariant-loop-number : goal.invariant-loop-number
invariant-loop-number l = IsForestOf l.top [] (take l.number-index l.pairs) l.self
