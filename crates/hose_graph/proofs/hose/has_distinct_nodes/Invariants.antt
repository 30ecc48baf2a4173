use Rattle.std.proofs.Common.{take}
use Rattle.hose_graph.specs.Hose.{HasDistinctNodes}
use Rattle.hose_graph.proofs.hose.has_distinct_nodes.Given as goal

abbrev pub invariant-loop-place : goal.invariant-loop-place
invariant-loop-place l = HasDistinctNodes (take l.place l.ends)
