-- What the opening of a store finds, and what it leaves: steps of proofs.
use Rattle.std.specs.Prelude.{◌≡◌, ℕ, List, [], ◌∷◌, ◌++◌, Option, Some, None, IfSome, IsTrue, Result, Ok, Err}
use Rattle.hose_graph.specs.Network.{Network}
use Rattle.hose_graph.specs.declared.entry.Entry.{Entry}
use Rattle.hose_graph.specs.steps.Ranges.{IsInRanges}
use Rattle.hose_law.specs.steps.Tracks.{Tracks}
use Rattle.hose_book.specs.Ledger.{HasBookOf, Ledger}
use Rattle.hose_disk.specs.declared.disk.Disk.{Ghosts}
use Rattle.hose_journal.specs.steps.Entries.{AreAllowed, IsListOf}
use Rattle.hose_journal.specs.Image.{damaged}
use Rattle.hose_journal.specs.Moments.{Images}
use Rattle.hose_journal.specs.Reading.{HasFailed}
use Rattle.hose_journal.specs.steps.Reading.{Reads}
use Rattle.hose_journal.specs.declared.reading.Reading.{Reading}
use Rattle.hose_store.specs.steps.Before.{AreAllBefore}
use Rattle.hose_store.specs.Recovery.{digest_of, IsHistoryOf, IsRecoveredAs, IsSoundAfter}
use Rattle.hose_store.specs.steps.Store.{KeptStore, HasHistory}
use Rattle.hose_store.specs.declared.fault.StoreFault.{StoreFault}
use Rattle.hose_store.specs.declared.fault.StoreFault.TheVariants.{Disk, Other, Damaged, Memory}

-- The store has the history for which the disk stood as it was read, and each image now stands for
-- it.
pub record IsOpenedOn {D : Type 0} (disk : Ghosts D) (old : D) (top : Network)
    (store : KeptStore D) : Type 0 where
  pub history : List Entry
  pub network : store.ledger.network ≡ top
  pub has : HasHistory disk store history None
  pub read : IfSome (disk.content old) (IsHistoryOf top history)
  pub images : Images disk store.journal.disk (IsHistoryOf top history)

-- ---- reading the entries

-- The reading has given these entries, which are sound; the book is that of them and tracks them.
pub record HasGiven {D : Type 0} (disk : Ghosts D) (ledger : Ledger) (reading : Reading D)
    (entries : List Entry) : Type 0 where
  pub reads : Reads disk reading (digest_of ledger.network) entries
  pub sound : AreAllowed (IsSoundAfter ledger.network) [] entries
  pub book : HasBookOf 0 entries ledger
  pub tracks : Tracks 0 entries ledger.recent
  pub fault : reading.fault ≡ None

-- the reading has given some entries
abbrev pub IsRecovering : {D : Type 0} → Ghosts D → Ledger → Reading D → Type 0
IsRecovering disk ledger reading = (entries : List Entry) × HasGiven disk ledger reading entries

-- The disk holds something else than a journal without an entry.
abbrev pub IsNotEmpty : Network → Option (List ℕ) → Type 0
IsNotEmpty top content = IfSome content (λ bytes. ¬ IsListOf (digest_of top) [] bytes)

-- why the entries are read no further
abbrev pub IsStopped : {D : Type 0} → Ghosts D → D → D → Network → StoreFault → Type 0
IsStopped disk old new top Disk = HasFailed disk old new
IsStopped disk old new top (Damaged at) =
    IfSome (disk.content old) (λ bytes. IsRecoveredAs top bytes (damaged at))
IsStopped disk old new top Memory = IsNotEmpty top (disk.content old)
IsStopped disk old new top (Other kept given) = ⊥

-- What a call that reads on gives, where these entries were given before: an entry that can be
-- spelled, with which the disk holds more than a journal without one; or all were given; or all
-- that stand before damage.
abbrev pub HasReadOn : {D : Type 0} → Ghosts D → Ledger → Reading D → List Entry
    → Result (Option Entry) StoreFault → Type 0
HasReadOn disk ledger reading entries (Ok (Some entry)) = IsInRanges entry
    × Reads disk reading (digest_of ledger.network) (entries ++ entry ∷ [])
    × (reading.fault ≡ None) × IsNotEmpty ledger.network (disk.content reading.disk)
HasReadOn disk ledger reading entries (Ok None) =
    HasGiven disk ledger reading entries × IsTrue reading.closed
HasReadOn disk ledger reading entries (Err fault) =
    AreAllBefore ledger.network (disk.content reading.disk) entries fault
