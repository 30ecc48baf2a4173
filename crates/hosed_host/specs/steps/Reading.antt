-- Reading a journal to its end with its last packets at hand: steps of proofs.
use Rattle.std.specs.Prelude.{◌≡◌, ℕ, Bool, true, false, List, [], ◌∷◌, ◌++◌, IfSome, IsTrue, Result, Ok, Err, ⊤}
use Rattle.hose_graph.specs.Network.{Network}
use Rattle.hose_graph.specs.declared.entry.Entry.{Entry}
use Rattle.hose_codec.specs.Spelling.{IsEntry, spelling}
use Rattle.hose_disk.specs.declared.disk.Disk.{Ghosts}
use Rattle.hose_store.specs.Opening.{IsRefusedStore}
use Rattle.hose_store.specs.Recovery.{IsHistoryOf}
use Rattle.hose_store.specs.Replaying.{IsOnlyOpened}
use Rattle.hose_store.specs.steps.Becoming.{IsStoreOf}
use Rattle.hose_store.specs.steps.Replaying.{IsReplaying}
use Rattle.hose_store.specs.declared.fault.StoreFault.{StoreFault}
use Rattle.hose_store.specs.declared.replay.Replay.{Replay}
use Rattle.hose_lead.specs.LedStore.{LedState, RecentState}
use Rattle.hose_lead.specs.steps.History.{IsRecentOf}
use Rattle.hose_lead.specs.steps.LedStore.{IsLedOf}

module _ {D : Type 0} (disk : Ghosts D) (was : D) (network : Network) where
  -- these entries were read, and the packets at hand are the last ones of them
  pub record HasRead (replay : Replay D) (recent : RecentState) (entries : List Entry)
      : Type 0 where
    pub replaying : IsReplaying disk was network replay entries
    pub last : IsRecentOf network entries recent

  -- an entry more was read than those whose packets were taken in, and it is spelled so
  pub record IsNextOf (replay : Replay D) (recent : RecentState) (entries : List Entry)
      (entry : Entry) (body : List ℕ) : Type 0 where
    pub replaying : IsReplaying disk was network replay (entries ++ entry ∷ [])
    pub last : IsRecentOf network entries recent
    pub is_entry : IsEntry entry
    pub spelled : body ≡ spelling entry

  -- All entries were read.
  pub record HasReadAll (replay : Replay D) (recent : RecentState) (entries : List Entry)
      : Type 0 where
    pub has : HasRead replay recent entries
    pub read : IfSome (disk.content was) (IsHistoryOf network entries)
    pub closed : IsTrue replay.reading.closed

  -- The disk is refused, and was only opened.
  pub record IsReadInVain (left : D) (fault : StoreFault) : Type 0 where
    pub refused : IsRefusedStore disk was left network fault
    pub opened : IsOnlyOpened disk was left network

  -- One entry more was read, or none was left, or a fault was met.
  abbrev pub ReadsNext : Replay D → RecentState → Result Bool StoreFault → Type 0
  ReadsNext replay recent (Ok true) = (entries : List Entry) × HasRead replay recent entries
  ReadsNext replay recent (Ok false) = (entries : List Entry) × HasReadAll replay recent entries
  ReadsNext replay recent (Err fault) = IsReadInVain replay.reading.disk fault

  -- All were read, or a fault was met.
  abbrev pub ReadsAll : Replay D → RecentState → Result ⊤ StoreFault → Type 0
  ReadsAll replay recent (Ok _) = (entries : List Entry) × HasReadAll replay recent entries
  ReadsAll replay recent (Err fault) = IsReadInVain replay.reading.disk fault

  -- The store has these entries, which were read of the disk, and the packets at hand are the last
  -- ones of them.
  pub record HasReadStore (led : LedState D) : Type 0 where
    pub entries : List Entry
    pub store : IsStoreOf disk was network entries led.store
    pub read : IfSome (disk.content was) (IsHistoryOf network entries)
    pub is : IsLedOf disk led network entries

  -- The store was opened, or the disk is refused.
  abbrev pub ReadsStore : Result (LedState D) (StoreFault × D) → Type 0
  ReadsStore (Ok led) = HasReadStore led
  ReadsStore (Err refused) = IsReadInVain refused.1 refused.0
