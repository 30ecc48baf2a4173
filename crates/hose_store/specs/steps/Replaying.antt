-- Reading the entries of a journal one after another, each judged by the book of those before it:
-- steps of proofs.
use Rattle.std.specs.Prelude.{◌≡◌, List, [], ◌∷◌, ◌++◌, Option, Some, None, IfSome, IsTrue, Result, Ok, Err}
use Rattle.hose_graph.specs.Network.{Network}
use Rattle.hose_graph.specs.declared.entry.Entry.{Entry}
use Rattle.hose_book.specs.Ledger.{Ledger}
use Rattle.hose_disk.specs.declared.disk.Disk.{Ghosts}
use Rattle.hose_journal.specs.steps.Journal.{IsReady}
use Rattle.hose_journal.specs.Moments.{KeepsCount, LeavesOnly}
use Rattle.hose_journal.specs.Opening.{KeepsDisk}
use Rattle.hose_journal.specs.steps.Opening.{IsOpened, KeepsList, KeepsOrBegins}
use Rattle.hose_journal.specs.steps.Reading.{OnlyRead}
use Rattle.hose_journal.specs.declared.prepared.Ready.{Ready}
use Rattle.hose_journal.specs.declared.reading.Reading.{Reading}
use Rattle.hose_store.specs.steps.Before.{AreAllBefore}
use Rattle.hose_store.specs.Opening.{IsRefusedStore}
use Rattle.hose_store.specs.steps.Opening.{HasGiven}
use Rattle.hose_store.specs.Recovery.{IsHistoryOf, digest_of}
use Rattle.hose_store.specs.declared.fault.StoreFault.{StoreFault}
use Rattle.hose_store.specs.declared.replay.Replay.{Replay}
use Rattle.hose_store.specs.Replaying.{IsOnlyOpened, KeepsRead}

-- The journal of a disk was opened for a network, begun where none was, and only read since; these
-- entries were given.
pub record IsReplaying {D : Type 0} (disk : Ghosts D) (was : D) (network : Network)
    (replay : Replay D) (entries : List Entry) : Type 0 where
  pub is_network : replay.book.network ≡ network
  pub given : HasGiven disk replay.book replay.reading entries
  pub opened : D
  pub run : LeavesOnly disk was opened (IsOpened disk was (digest_of network))
  pub keeps : KeepsDisk disk was opened
  pub count : KeepsCount disk was replay.reading.disk
  pub list : KeepsList (disk.content was) (disk.content opened) (digest_of network)
  pub version : KeepsOrBegins (disk.content was) (disk.content opened) (digest_of network)
  pub only : OnlyRead disk opened replay.reading.disk

-- What a call that reads on gives: an entry more, as its spelling; or all entries were given, and
-- the disk stood for them; or the disk is refused.
abbrev pub HasReplayed : {D : Type 0} → Ghosts D → D → Network → Replay D → List Entry
    → Result (Option Ready) StoreFault → Type 0
HasReplayed disk was network new entries (Ok (Some ready)) = (entry : Entry)
    × IsReady entry ready × IsReplaying disk was network new (entries ++ entry ∷ [])
HasReplayed disk was network new entries (Ok None) = IsReplaying disk was network new entries
    × IfSome (disk.content was) (IsHistoryOf network entries)
    × KeepsCount disk was new.reading.disk × IsOnlyOpened disk was new.reading.disk network
    × KeepsRead disk was new.reading.disk network
HasReplayed disk was network new entries (Err fault) =
    IsRefusedStore disk was new.reading.disk network fault
    × IsOnlyOpened disk was new.reading.disk network
    × KeepsRead disk was new.reading.disk network

-- what a call that reads on gives of the book and the reading, where the entries before were given
abbrev pub GivesNext : {D : Type 0} → Ghosts D → Ledger → Reading D → List Entry
    → Result (Option Ready) StoreFault → Type 0
GivesNext disk ledger reading entries (Ok (Some ready)) = (entry : Entry)
    × IsReady entry ready × HasGiven disk ledger reading (entries ++ entry ∷ [])
GivesNext disk ledger reading entries (Ok None) =
    HasGiven disk ledger reading entries × IsTrue reading.closed
GivesNext disk ledger reading entries (Err fault) =
    AreAllBefore ledger.network (disk.content reading.disk) entries fault
