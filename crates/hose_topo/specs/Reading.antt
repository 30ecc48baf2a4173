-- Why no topology was read, and what a fault leaves.
use Rattle.std.specs.Prelude.{ℕ, List}
use Rattle.hose_graph.specs.Network.{Network}
use Rattle.hose_words.specs.Lines.{StopsAfterLines}
use Rattle.hose_words.specs.declared.lines.LineFault.{LineFault}
use Rattle.hose_topo.specs.TopologyText.{AddLines, no_network}

-- Reading stopped at a fault before the topology was refused or ended: whole lines that add to a
-- network were taken, and after them no line was taken whole.
abbrev pub StopsInTopology : LineFault → List ℕ → List ℕ → Type 0
StopsInTopology fault text left =
    (network : Network) × (count : ℕ) × (rest : List ℕ)
    × AddLines no_network text count network rest × StopsAfterLines fault text rest left
