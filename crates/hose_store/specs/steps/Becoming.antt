-- What an opening leaves of a disk whose journal is only read, and what becomes of it as a store.
use Rattle.std.specs.Prelude.{◌≡◌, List, None}
use Rattle.hose_graph.specs.Network.{Network}
use Rattle.hose_graph.specs.declared.entry.Entry.{Entry}
use Rattle.hose_disk.specs.declared.disk.Disk.{Ghosts}
use Rattle.hose_journal.specs.Moments.{KeepsCount, LeavesOnly}
use Rattle.hose_journal.specs.Opening.{KeepsDisk}
use Rattle.hose_journal.specs.steps.Opening.{IsOpened}
use Rattle.hose_store.specs.Recovery.{digest_of}
use Rattle.hose_store.specs.Replaying.{IsOnlyOpened}
use Rattle.hose_store.specs.steps.Store.{HasHistory, KeptStore}

-- The store of a network has exactly these entries, which were read of a disk. Since then the disk
-- was only opened, and no call of it failed.
pub record IsStoreOf {D : Type 0} (disk : Ghosts D) (was : D) (network : Network)
    (entries : List Entry) (store : KeptStore D) : Type 0 where
  pub is_network : store.ledger.network ≡ network
  pub has : HasHistory disk store entries None
  pub count : KeepsCount disk was store.journal.disk
  pub opened : IsOnlyOpened disk was store.journal.disk network

-- What was done to a disk: at every moment an image is one of before, or a journal without an entry
-- where none was begun.
pub record BeginsAtMost {D : Type 0} (disk : Ghosts D) (was now : D) (network : Network) :
    Type 0 where
  pub run : LeavesOnly disk was now (IsOpened disk was (digest_of network))
  pub keeps : KeepsDisk disk was now
