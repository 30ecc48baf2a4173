-- Entries that are committed one after another, where a part of them stands.
use Rattle.std.specs.Prelude.{◌≡◌, ◌≢◌, ℕ, ◌+◌, ◌≤◌, List, length, take, None, Some, IfSome, Bool, true, false, Result, Ok, Err, slice_get, ⊤}
use Rattle.hose_graph.specs.Network.{Network}
use Rattle.hose_graph.specs.declared.entry.Entry.{Entry}
use Rattle.hose_law.specs.History.{IsSoundAt}
use Rattle.hose_book.specs.steps.Commit.{IsMet}
use Rattle.hose_book.specs.declared.books.Committed.TheVariants as committed
use Rattle.hose_codec.specs.Spelling.{IsSpelling}
use Rattle.hose_disk.specs.Disk.{object_frame}
use Rattle.hose_disk.specs.declared.disk.Disk.{Ghosts}
use Rattle.hose_journal.specs.Moments.{KeepsCount}
use Rattle.hose_store.specs.steps.Commit.{Went}
use Rattle.hose_store.specs.Recovery.{IsHistoryOf}
use Rattle.hose_store.specs.steps.Replaying.{IsReplaying}
use Rattle.hose_store.specs.steps.Store.{HasHistory, KeptStore}
use Rattle.hose_store.specs.declared.replay.Replay.{Replay}
use Rattle.hose_move.specs.Moving.{Moves, OnlyMoves, StandsForPart}
use Rattle.hose_move.specs.declared.fault.MoveFault.{MoveFault}
use Rattle.hose_move.specs.declared.fault.MoveFault.TheVariants.{Store, Differs, Unsound, Disk, Memory}

-- What comes of one entry that is to be committed: it is entered; or it is not, for this cause.
abbrev pub TakesEntry : {D : Type 0} → Ghosts D → KeptStore D → Entry → KeptStore D
    → Result ⊤ MoveFault → Type 0
TakesEntry disk old entry new (Ok _) = Went disk old entry committed.Done new
    × IsMet (object_frame (disk.frame old.journal.disk)) committed.Done
    (object_frame (disk.frame new.journal.disk))
TakesEntry disk old entry new (Err Disk) = Went disk old entry committed.Disk new
    × IsMet (object_frame (disk.frame old.journal.disk)) committed.Disk
    (object_frame (disk.frame new.journal.disk))
TakesEntry disk old entry new (Err Memory) = new ≡ old
TakesEntry disk old entry new (Err (Unsound epoch)) = (new ≡ old)
    × (¬ IsSoundAt old.ledger.network old.ledger.book entry)
    × (epoch ≡ old.ledger.book.epoch + 1)
TakesEntry disk old entry new (Err (Store fault)) = ⊥
TakesEntry disk old entry new (Err (Differs epoch)) = ⊥

-- What comes of bytes that are compared with the entry of a place: they are its spelling; or they
-- are that of another one, or memory was wanting.
abbrev pub ComparesEntry : List Entry → ℕ → List ℕ → Result Bool MoveFault → Type 0
ComparesEntry entries place bytes (Ok true) =
    (entry : Entry) → IsSpelling entry bytes → slice_get entries place ≡ Some entry
ComparesEntry entries place bytes (Ok false) = ⊥
ComparesEntry entries place bytes (Err (Differs epoch)) = (epoch ≡ place + 1)
    × ((entry : Entry) → IsSpelling entry bytes → slice_get entries place ≢ Some entry)
ComparesEntry entries place bytes (Err Memory) = ⊤
ComparesEntry entries place bytes (Err (Store fault)) = ⊥
ComparesEntry entries place bytes (Err (Unsound epoch)) = ⊥
ComparesEntry entries place bytes (Err Disk) = ⊥

module _ {D : Type 0} (disk : Ghosts D) (was : D) (network : Network) (entries : List Entry) where
  -- The store has the first entries, so many of them, and nothing in doubt.
  pub record IsMoving (store : KeptStore D) (place : ℕ) : Type 0 where
    pub is_network : store.ledger.network ≡ network
    pub few : place ≤ length entries
    pub has : HasHistory disk store (take place entries) None
    pub since : IfSome (disk.content was) (StandsForPart network (take place entries))
    pub only : OnlyMoves disk was network entries store.journal.disk
    pub count : KeepsCount disk was store.journal.disk

  -- The store has all entries; or why not.
  abbrev pub MovesAll : KeptStore D → Result ⊤ MoveFault → Type 0
  MovesAll store (Ok _) = IsMoving store (length entries)
  MovesAll store (Err fault) = Moves disk was network entries store.journal.disk (Err fault)
      × OnlyMoves disk was network entries store.journal.disk

  -- The journal has the first entries, so many of them, and no other; they were all read.
  pub record HasReadPart (replay : Replay D) (place : ℕ) : Type 0 where
    pub few : place ≤ length entries
    pub replaying : IsReplaying disk was network replay (take place entries)
    pub read : IfSome (disk.content was) (IsHistoryOf network (take place entries))

  -- The next entry of the journal is the one of this place; or none was left; or why it is not.
  abbrev pub ComparesNext : Replay D → ℕ → Result Bool MoveFault → Type 0
  ComparesNext replay place (Ok true) = (place + 1 ≤ length entries)
      × IsReplaying disk was network replay (take (place + 1) entries)
  ComparesNext replay place (Ok false) = HasReadPart replay place
  ComparesNext replay place (Err fault) =
      Moves disk was network entries replay.reading.disk (Err fault)
      × OnlyMoves disk was network entries replay.reading.disk

  -- The journal has a part of the entries, so many of them, and no other; or why not.
  abbrev pub Compares : Replay D → Result ℕ MoveFault → Type 0
  Compares replay (Ok place) = HasReadPart replay place
  Compares replay (Err fault) = Moves disk was network entries replay.reading.disk (Err fault)
      × OnlyMoves disk was network entries replay.reading.disk
