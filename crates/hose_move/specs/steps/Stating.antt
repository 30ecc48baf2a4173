-- What a journal states for one that it is moved into: all of its entries, or what is live: steps
-- of proofs.
use Rattle.std.specs.Prelude.{All, Result, Ok, Err}
use Rattle.hose_graph.specs.Network.{Network}
use Rattle.hose_graph.specs.steps.Ranges.{IsInRanges}
use Rattle.hose_disk.specs.declared.disk.Disk.{Ghosts}
use Rattle.hose_store.specs.steps.Becoming.{BeginsAtMost}
use Rattle.hose_store.specs.declared.fault.StoreFault.{StoreFault}
use Rattle.hose_move.specs.steps.Collecting.{IsReadNoFurther, KeepsContent}
use Rattle.hose_move.specs.declared.stating.Scope.{Scope}
use Rattle.hose_move.specs.declared.stating.Stated.{Stated}
use Rattle.hose_move.specs.Stating.{StatesHistory}

module _ {D : Type 0} (disk : Ghosts D) (was : D) where
  -- What reading a journal comes to, and that nothing was changed of one that was begun before.
  abbrev pub StatesAll : D → Network → Scope → Result Stated StoreFault → Type 0
  StatesAll left network scope (Ok stated) = StatesHistory disk was left network scope stated
      × All IsInRanges stated.entries.items × BeginsAtMost disk was left network
      × KeepsContent disk was left
  StatesAll left network scope (Err fault) = IsReadNoFurther disk was network left fault
