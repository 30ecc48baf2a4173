use Rattle.std.proofs.Common.{take}
use Rattle.std.specs.List.{flat_map}
use Rattle.hose_topo.specs.Canonical.{link_line}
use Rattle.hose_topo.proofs.canonical.add_links.Given as goal

abbrev pub invariant-loop-number : goal.invariant-loop-number
invariant-loop-number g l = g.P.Pieces.adds l.fn.pieces l.pieces (flat_map (link_line l.top) (take l.number l.top.links))
