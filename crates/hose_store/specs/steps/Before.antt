-- What stands before the damage of a journal that is read: steps of proofs.
use Rattle.std.specs.Prelude.{ℕ, List, Option, IfSome, ⊤}
use Rattle.hose_graph.specs.Network.{Network}
use Rattle.hose_graph.specs.declared.entry.Entry.{Entry}
use Rattle.hose_store.specs.Entries.{IsDamagedAfter}
use Rattle.hose_store.specs.declared.fault.StoreFault.{StoreFault}
use Rattle.hose_store.specs.declared.fault.StoreFault.TheVariants.{Disk, Other, Damaged, Memory}

-- Where it is damage that ends the reading of a disk, these entries are all that stand before it.
abbrev pub AreAllBefore : Network → Option (List ℕ) → List Entry → StoreFault → Type 0
AreAllBefore network content entries Disk = ⊤
AreAllBefore network content entries (Other kept given) = ⊤
AreAllBefore network content entries (Damaged at) =
    IfSome content (IsDamagedAfter network entries at)
AreAllBefore network content entries Memory = ⊤
