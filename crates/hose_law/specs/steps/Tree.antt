-- Trees of links, the ways on them, and what a hose reserves on their links: steps of proofs.
use Rattle.std.specs.Prelude.{ℕ, List}
use Rattle.hose_graph.specs.declared.topology.Step.{Step}
use Rattle.hose_law.specs.Tree.{Growth}

-- the growth of a start node and steps
abbrev pub growth : ℕ → List Step → Growth
growth start steps = record { start = start; steps = steps }
