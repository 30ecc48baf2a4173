-- What stands after `cut`, by what ended it.
use Rattle.std.specs.Prelude.{◌≡◌, ◌≢◌, ◌⊎◌, ℕ, ◌<◌, ◌≤◌, List, length, take, IfSome, Result, Ok, Err, ⊤}
use Rattle.hose_graph.specs.Network.{Network}
use Rattle.hose_graph.specs.declared.entry.Entry.{Entry}
use Rattle.hose_law.specs.History.{IsSound}
use Rattle.hose_disk.specs.Cabinet.{Has}
use Rattle.hose_disk.specs.declared.cabinet.Cabinet.{Ghosts as CabinetGhosts}
use Rattle.hose_disk.specs.declared.disk.Disk.{Ghosts as DiskGhosts}
use Rattle.hose_journal.specs.Moments.{Images}
use Rattle.hose_move.specs.declared.stating.Scope.TheVariants.{First}
use Rattle.hose_store.specs.Recovery.{IsHistoryOf}
use Rattle.hose_outside.specs.Reading.{PricedNames, ReadsTopology}
use Rattle.hose_outside.specs.CabinetText.{whole_text}
use Rattle.hose_outside.specs.Ending.{NoneFailed}
use Rattle.hose_copying.specs.MoveEnd.{EndsMoved}
use Rattle.hose_copying.specs.MoveOutcome.{CanTake, IsOnlyRead}
use Rattle.hose_copying.specs.Moving.{MovedJournals, MovesApart}
use Rattle.hose_outside.specs.OnDisk.{HadContent}
use Rattle.hose_outside.specs.Parts.{Parts, Tellings}
use Rattle.hose_outside.specs.TopologyTold.{IsFor, IsServable, TellsPriced, notation_of}
use Rattle.hose_outside.specs.declared.fault.Fault.{Fault}
use Rattle.hose_outside.specs.declared.move_stop.MoveStop.{MoveStop}
use Rattle.hose_outside.specs.declared.move_stop.MoveStop.TheVariants.{Old}
use Rattle.hose_copying.specs.declared.move_end.Moved.{Moved}

-- what a cut names: a topology and a journal of it, how many entries the new journal is to have,
-- and its name
pub record CutNames : Type 1 where
  pub of : PricedNames
  pub count : ℕ
  pub new : List ℕ

-- what a cut names, of its parts
abbrev pub cut_names : PricedNames → ℕ → List ℕ → CutNames
cut_names of count new = record { of = of; count = count; new = new }

-- what is moved by a cut: the first entries, to another journal
abbrev pub cut_journals : CutNames → MovedJournals
cut_journals names =
    record { scope = First names.count; old = names.of.journal; new = names.new }

module _ {C E : Type 0} (cabinet : CabinetGhosts C E) (disk : DiskGhosts E) (names : CutNames)
    (before : C) where
  -- The journal stood for a history of the network, as it was read.
  pub record HadHistory (network : Network) (history : List Entry) : Type 0 where
    pub told : IfSome (whole_text cabinet before names.of.topology) (λ text.
        TellsPriced (notation_of names.of.topology) names.of.prices text.left network)
    pub had : HadContent cabinet disk before names.of.journal (IsHistoryOf network history)
    pub sound : IsSound network 0 history

  -- It had at least so many entries, and each image of the new journal stands for exactly these.
  pub record IsCut (after : C) : Type 0 where
    pub network : Network
    pub history : List Entry
    pub stood : HadHistory network history
    pub enough : names.count ≤ length history
    pub images : Has (cabinet.frame after).tells (cabinet.held after names.new) (λ left.
        Images disk left (IsHistoryOf network (take names.count history)))

  -- it had fewer
  pub record HadLess : Type 0 where
    pub network : Network
    pub history : List Entry
    pub stood : HadHistory network history
    pub less : length history < names.count

  -- Nothing of what is named stands in the way of a cut: the text tells a network and is not too
  -- long, the journals are two, and the new one can take what is cut off.
  pub record IsCuttable : Type 0 where
    pub servable : IsServable (notation_of names.of.topology)
        (whole_text cabinet before names.of.topology)
    pub apart : names.new ≢ names.of.journal
    pub takes : IsFor (notation_of names.of.topology) names.of.prices
        (whole_text cabinet before names.of.topology) (λ network.
        CanTake cabinet disk (cut_journals names) before network network)

module _ {I O C E : Type 0} (tells : Tellings I O C E) (names : CutNames)
    (before after : Parts I O C) where
  -- The topology was read, and the first entries of its journal were moved into the new one; or it
  -- was not read, and nothing is out.
  abbrev pub CutsNamed : Result Moved MoveStop → Type 0
  CutsNamed result = ((why : Fault) × (result ≡ Err (Old why))
      × ReadsTopology tells.cabinet before.cabinet after.cabinet names.of.prices names.of.topology
      (Err why) × (after.output ≡ before.output))
      ⊎ ((network : Network) × (read : C)
      × ReadsTopology tells.cabinet before.cabinet read names.of.prices names.of.topology
      (Ok network)
      × MovesApart tells (cut_journals names) (record before { cabinet = read }) after network
      network result)

module _ {I O C E : Type 0} (tells : Tellings I O C E) (names : CutNames)
    (before after : Parts I O C) where
  -- The topology and the journals that were named were read and cut as far as that came, which left
  -- the output so, and then the last line was put. Nothing is taken of the input.
  pub record CutOutcome (status : ℕ) : Type 0 where
    pub left : O
    pub done : Result Moved MoveStop
    pub cuts : CutsNamed tells names before (record after { output = left }) done
    pub ends : EndsMoved tells.sink left after.output status done
    pub whole : status ≡ 0
        → IsCut tells.cabinet tells.disk names before.cabinet after.cabinet
    pub less : status ≡ 15 → HadLess tells.cabinet tells.disk names before.cabinet
    pub old_kept :
        IsOnlyRead tells.cabinet tells.disk names.of.journal before.cabinet after.cabinet
    -- the disks of all other names are as they were, whatever ended the cut
    pub others : (other : List ℕ) → other ≢ names.of.journal → other ≢ names.new
        → tells.cabinet.held after.cabinet other ≡ tells.cabinet.held before.cabinet other
    -- what can be cut off is, but for want of memory and where a call failed
    pub complete : IsCuttable tells.cabinet tells.disk names before.cabinet
        → NoneFailed tells before after ⊤ → (status ≡ 0) ⊎ (status ≡ 7)
    pub input : after.input ≡ before.input
