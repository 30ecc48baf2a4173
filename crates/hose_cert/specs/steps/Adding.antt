-- What was added of a certificate that is being written.
use Rattle.std.specs.Prelude.{ℕ, ◌<◌}
use Rattle.hose_io.specs.steps.Gather.{Gathered, IsAdded}
use Rattle.hose_io.specs.declared.sink.Sink.{Ghosts}
use Rattle.hose_graph.specs.Network.{Network}
use Rattle.hose_graph.specs.Row.{Distances}
use Rattle.hose_law.specs.Row.{IsRow}
use Rattle.hose_law.specs.Walk.{all_links}
use Rattle.hose_cert.specs.Written.{roots_lines, certificate_text}

-- The lines of so many roots were added, each by its row.
pub record AddsRoots {S : Type 0} (sink : Ghosts S) (network : Network) (most : ℕ)
    (old : Gathered) (was : S) (new : Gathered) (now : S) (made : ℕ) : Type 0 where
  pub row_of : ℕ → Distances
  pub rows : (root : ℕ) → root < made → IsRow network (all_links network) root (row_of root)
  pub added : IsAdded sink old was new now
      (certificate_text network (roots_lines network most row_of made))
