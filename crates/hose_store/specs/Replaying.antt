-- Reading the entries of a journal one after another, each judged by the book of those before it.
use Rattle.std.specs.Prelude.{◌≡◌, ◌⊎◌, [], IfSome}
use Rattle.hose_graph.specs.Network.{Network}
use Rattle.hose_disk.specs.declared.disk.Disk.{Ghosts}
use Rattle.hose_journal.specs.Image.{IsClosed, IsUnbegun, front_of}
use Rattle.hose_journal.specs.Layout.{chained_version}
use Rattle.hose_journal.specs.Moments.{LeavesOnly}
use Rattle.hose_journal.specs.Opening.{KeepsDisk}
use Rattle.hose_store.specs.Opening.{IsAtOpening}
use Rattle.hose_store.specs.Recovery.{digest_of}

-- What is read of a disk is as before; or none was begun there, and it is a journal of the newest
-- version without a record. So no seal was written.
abbrev pub KeepsRead : {D : Type 0} → Ghosts D → D → D → Network → Type 0
KeepsRead disk was now network = (disk.content now ≡ disk.content was)
    ⊎ (IfSome (disk.content was) IsUnbegun
    × IfSome (disk.content now) (IsClosed (front_of chained_version (digest_of network) [])))

-- what was done to a disk: at every moment an image is one of before, or stands for what the disk
-- stood for, and its count did not fall
pub record IsOnlyOpened {D : Type 0} (disk : Ghosts D) (was now : D) (network : Network) :
    Type 0 where
  pub run : LeavesOnly disk was now (IsAtOpening disk was network)
  pub keeps : KeepsDisk disk was now
