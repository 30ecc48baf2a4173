-- The entries that an image of a disk has.
use Rattle.std.specs.Prelude.{ℕ, List}
use mathlib.Core.List.{IsPrefix}
use Rattle.hose_graph.specs.Network.{Network}
use Rattle.hose_graph.specs.declared.entry.Entry.{Entry}
use Rattle.hose_store.specs.Recovery.{IsHistoryOf}

-- the image stands for a history that begins with these entries
pub record HasOrders (network : Network) (orders : List Entry) (image : List ℕ) : Type 0 where
  pub list : List Entry
  pub stands : IsHistoryOf network list image
  pub has : IsPrefix orders list
