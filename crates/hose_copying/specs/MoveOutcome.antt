-- What stands after `move`, by what ended it.
use Rattle.std.specs.Prelude.{◌≡◌, ◌≢◌, ◌⊎◌, ℕ, List, length, take, IfSome, Some, Result, ⊤}
use Rattle.hose_graph.specs.Network.{Network}
use Rattle.hose_graph.specs.declared.entry.Entry.{Entry}
use Rattle.hose_law.specs.Book.{IsOversold}
use Rattle.hose_law.specs.Carried.{AreCarried}
use Rattle.hose_law.specs.History.{IsSound, book_of}
use Rattle.hose_disk.specs.Cabinet.{Has}
use Rattle.hose_disk.specs.declared.cabinet.Cabinet.{Ghosts as CabinetGhosts}
use Rattle.hose_disk.specs.declared.disk.Disk.{Ghosts as DiskGhosts}
use Rattle.hose_journal.specs.Moments.{Images}
use Rattle.hose_move.specs.Changing.{GoesOnFrom}
use Rattle.hose_move.specs.Moving.{StandsForPart}
use Rattle.hose_move.specs.Stating.{Suffice, stated_entries}
use Rattle.hose_store.specs.Recovery.{IsHistoryOf}
use Rattle.hose_outside.specs.Ending.{NoneFailed}
use Rattle.hose_outside.specs.CabinetText.{whole_text}
use Rattle.hose_copying.specs.MoveEnd.{EndsMoved}
use Rattle.hose_copying.specs.Moving.{MoveNames, MovedJournals, MovesNamed}
use Rattle.hose_outside.specs.OnDisk.{HadContent, JournalIsTold, OfHeld}
use Rattle.hose_outside.specs.Parts.{Parts, Tellings}
use Rattle.hose_outside.specs.TopologyTold.{IsFor, IsServable, TellsPriced, notation_of}
use Rattle.hose_outside.specs.declared.move_stop.MoveStop.{MoveStop}
use Rattle.hose_copying.specs.declared.move_end.Moved.{Moved}

-- The disk of a name was only read: it is held as it was, or what is read of it is as before, and
-- at each moment since its opening each image is one that it had.
abbrev pub IsOnlyRead : {C E : Type 0} → CabinetGhosts C E → DiskGhosts E → List ℕ → C → C
    → Type 0
IsOnlyRead cabinet disk name before after = (cabinet.held after name ≡ cabinet.held before name)
    ⊎ OfHeld cabinet name before after (λ was left. (disk.content left ≡ disk.content was)
    × ((image : List ℕ) →
    disk.left_since left (disk.moment was) image → disk.may_leave was image))

module _ {C E : Type 0} (cabinet : CabinetGhosts C E) (disk : DiskGhosts E) (names : MoveNames)
    (before after : C) where
  -- where the text of a name is told, it tells this network, at the prices
  abbrev pub IsNamed : List ℕ → Network → Type 0
  IsNamed name network = IfSome (whole_text cabinet before name) (λ text.
      TellsPriced (notation_of name) names.prices text.left network)

  -- The old journal stood for a history, as it was read, and each image of the new one stands for
  -- what is moved of it. Each entry of that is sound on the new network, which goes on from the old
  -- one, no link is oversold at any place of it, and each admission carries every matrix.
  pub record IsMoved : Type 0 where
    pub old : Network
    pub new : Network
    pub old_told : IsNamed names.topology old
    pub new_told : IsNamed names.new_topology new
    pub goes_on : GoesOnFrom old new
    pub history : List Entry
    pub had : HadContent cabinet disk before names.journals.old (IsHistoryOf old history)
    pub sound : IsSound old 0 history
    pub images : Has (cabinet.frame after).tells (cabinet.held after names.journals.new) (λ left.
        Images disk left (IsHistoryOf new (stated_entries names.journals.scope old history)))
    pub new_sound : IsSound new 0 (stated_entries names.journals.scope old history)
    pub none_oversold : (place l : ℕ)
        → ¬ IsOversold new
        (book_of 0 (take place (stated_entries names.journals.scope old history))) l
    pub carried : AreCarried new 0 (stated_entries names.journals.scope old history)

module _ {C E : Type 0} (cabinet : CabinetGhosts C E) (disk : DiskGhosts E)
    (journals : MovedJournals) (before : C) where
  -- What is moved of a history is as much as is asked for, and sound on the new network, and the
  -- new journal stands for a part of it, from the first entry on.
  abbrev pub FitsMoved : Network → Network → List Entry → Type 0
  FitsMoved old new history = IsSound new 0 (stated_entries journals.scope old history)
      × JournalIsTold cabinet disk before (Some journals.new)
      (StandsForPart new (stated_entries journals.scope old history))
      × Suffice journals.scope (length (stated_entries journals.scope old history))

  -- the old journal stands for a history of the old network, and what is moved of it fits
  abbrev pub CanTake : Network → Network → Type 0
  CanTake old new = JournalIsTold cabinet disk before (Some journals.old) (λ bytes.
      (history : List Entry) × IsHistoryOf old history bytes × FitsMoved old new history)

module _ {C E : Type 0} (cabinet : CabinetGhosts C E) (disk : DiskGhosts E) (names : MoveNames)
    (before : C) where
  -- the text of a name is told, and this holds of each network that it tells, at the prices
  abbrev pub EachNamed : List ℕ → (Network → Type 0) → Type 0
  EachNamed name Is = IsFor (notation_of name) names.prices (whole_text cabinet before name) Is

  -- Nothing of what is named stands in the way of a move: both texts tell networks and are not
  -- too long, the new network goes on from the old one, the journals are two, and the new one can
  -- take what is moved.
  pub record IsMovable : Type 0 where
    pub servable : IsServable (notation_of names.topology)
        (whole_text cabinet before names.topology)
    pub new_servable : IsServable (notation_of names.new_topology)
        (whole_text cabinet before names.new_topology)
    pub apart : names.journals.new ≢ names.journals.old
    pub moves : EachNamed names.topology (λ old. EachNamed names.new_topology (λ new.
        GoesOnFrom old new × CanTake cabinet disk names.journals before old new))

module _ {I O C E : Type 0} (tells : Tellings I O C E) (names : MoveNames)
    (before after : Parts I O C) where
  -- The topologies and the journals that were named were read and moved as far as that came, which
  -- left the output so, and then the last line was put. Nothing is taken of the input.
  pub record MoveOutcome (status : ℕ) : Type 0 where
    pub left : O
    pub done : Result Moved MoveStop
    pub moves : MovesNamed tells names before (record after { output = left }) done
    pub ends : EndsMoved tells.sink left after.output status done
    pub whole : status ≡ 0
        → IsMoved tells.cabinet tells.disk names before.cabinet after.cabinet
    pub old_kept :
        IsOnlyRead tells.cabinet tells.disk names.journals.old before.cabinet after.cabinet
    -- the disks of all other names are as they were, whatever ended the move
    pub others : (other : List ℕ) → other ≢ names.journals.old → other ≢ names.journals.new
        → tells.cabinet.held after.cabinet other ≡ tells.cabinet.held before.cabinet other
    -- what can be moved is moved, but for want of memory and where a call failed
    pub complete : IsMovable tells.cabinet tells.disk names before.cabinet
        → NoneFailed tells before after ⊤ → (status ≡ 0) ⊎ (status ≡ 7)
    pub input : after.input ≡ before.input
