-- Entries of a journal that were read one after another, to its end.
use Rattle.std.specs.Prelude.{◌≡◌, ◌≢◌, Bool, true, false, List, All, IfSome, Result, Ok, Err, ⊤}
use Rattle.hose_graph.specs.Network.{Network}
use Rattle.hose_graph.specs.declared.entry.Entry.{Entry}
use Rattle.hose_codec.specs.Spelling.{IsEntry}
use Rattle.hose_disk.specs.declared.disk.Disk.{Ghosts}
use Rattle.hose_journal.specs.Image.{IsUnbegun}
use Rattle.hose_journal.specs.Moments.{KeepsCount}
use Rattle.hose_store.specs.steps.Becoming.{BeginsAtMost}
use Rattle.hose_store.specs.Opening.{IsRefusedStore}
use Rattle.hose_store.specs.Recovery.{IsHistoryOf}
use Rattle.hose_store.specs.steps.Replaying.{IsReplaying}
use Rattle.hose_store.specs.declared.fault.StoreFault.{StoreFault}
use Rattle.hose_store.specs.declared.fault.StoreFault.TheVariants.{Memory}
use Rattle.hose_store.specs.declared.replay.Replay.{Replay}

-- what is read of a disk is as before, where a journal was begun there
abbrev pub KeepsContent : {D : Type 0} → Ghosts D → D → D → Type 0
KeepsContent disk was now = IfSome (disk.content was) (λ bytes. ¬ IsUnbegun bytes)
    → disk.content now ≡ disk.content was

module _ {D : Type 0} (disk : Ghosts D) (was : D) (network : Network) where
  -- these entries were read, and the format has each of them
  pub record HasPassed (replay : Replay D) (entries : List Entry) : Type 0 where
    pub replaying : IsReplaying disk was network replay entries
    pub spelled : All IsEntry entries

  -- these are all entries of the journal
  pub record HasPassedAll (replay : Replay D) (entries : List Entry) : Type 0 where
    pub passed : HasPassed replay entries
    pub read : IfSome (disk.content was) (IsHistoryOf network entries)
    pub count : KeepsCount disk was replay.reading.disk
    pub begins : BeginsAtMost disk was replay.reading.disk network
    pub kept : KeepsContent disk was replay.reading.disk

  -- The entries were read no further: the disk is refused, or there was too little memory. Where a
  -- journal was begun before, nothing was changed.
  pub record IsReadNoFurther (left : D) (fault : StoreFault) : Type 0 where
    pub refused : fault ≢ Memory → IsRefusedStore disk was left network fault
    pub begins : BeginsAtMost disk was left network
    pub kept : KeepsContent disk was left

  -- One entry more is in the list, or none was left, or a fault was met.
  abbrev pub CollectsNext : Replay D → List Entry → Result Bool StoreFault → Type 0
  CollectsNext replay entries (Ok true) = HasPassed replay entries
  CollectsNext replay entries (Ok false) = HasPassedAll replay entries
  CollectsNext replay entries (Err fault) = IsReadNoFurther replay.reading.disk fault

  -- All are in the list, or a fault was met.
  abbrev pub CollectsAll : Replay D → List Entry → Result ⊤ StoreFault → Type 0
  CollectsAll replay entries (Ok _) = HasPassedAll replay entries
  CollectsAll replay entries (Err fault) = IsReadNoFurther replay.reading.disk fault

  -- One entry more was read, or none was left, or a fault was met.
  abbrev pub PassesNext : Replay D → Result Bool StoreFault → Type 0
  PassesNext replay (Ok true) = (entries : List Entry) × HasPassed replay entries
  PassesNext replay (Ok false) = (entries : List Entry) × HasPassedAll replay entries
  PassesNext replay (Err fault) = IsReadNoFurther replay.reading.disk fault

  -- All were read, or a fault was met.
  abbrev pub PassesAll : Replay D → Result ⊤ StoreFault → Type 0
  PassesAll replay (Ok _) = (entries : List Entry) × HasPassedAll replay entries
  PassesAll replay (Err fault) = IsReadNoFurther replay.reading.disk fault
