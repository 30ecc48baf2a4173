-- How a move ends: never with the status of wrong words.
use Rattle.std.proofs.Common.{◌≡◌, ◌≢◌, ◌∙◌, inl, inr, ℕ, List, length, Result, Ok, Err, sym, ap, arith}
use Rattle.hose_io.specs.declared.sink.Sink.{Ghosts as SinkGhosts}
use Rattle.hose_graph.specs.Network.{Network}
use Rattle.hose_graph.specs.declared.entry.Entry.{Entry}
use Rattle.hose_disk.specs.declared.cabinet.Cabinet.{Ghosts as CabinetGhosts}
use Rattle.hose_disk.specs.declared.disk.Disk.{Ghosts as DiskGhosts}
use Rattle.hose_move.specs.declared.fault.MoveFault.{MoveFault}
use Rattle.hose_move.specs.declared.fault.MoveFault.TheVariants as moving
use Rattle.hose_move.specs.declared.stating.Scope.{Scope}
use Rattle.hose_move.specs.declared.stating.Stated.{Stated}
use Rattle.hose_move.specs.declared.changing.NetworkChange.TheVariants as change
use Rattle.hose_store.specs.declared.fault.StoreFault.{StoreFault}
use Rattle.hose_store.specs.declared.fault.StoreFault.TheVariants as store
use Rattle.hose_outside.specs.Fault.{of_store, status_of}
use Rattle.hose_copying.specs.MoveEnd.{EndsMoved, moved_done}
use Rattle.hose_outside.specs.MoveStop.{stop_status}
use Rattle.hose_copying.specs.MoveOutcome.{MoveOutcome}
use Rattle.hose_copying.specs.Moving.{EntersEnough, EntersNew, EntersStated, MoveNames, MovedJournals, MovesApart, MovesBetween, MovesFrom, MovesNamed, MovesStated, ReadsOld, read_done}
use Rattle.hose_outside.specs.Parts.{Parts, Tellings}
use Rattle.hose_outside.specs.declared.fault.Fault.{Fault}
use Rattle.hose_outside.specs.declared.move_stop.MoveStop.{MoveStop}
use Rattle.hose_copying.specs.declared.move_end.Moved.{Moved}
use Rattle.hose_outside.proofs.Outcomes.{topology_not_1}

-- the status of what a move came to, before its last line
abbrev pub done_status : Result Moved MoveStop → ℕ
done_status (Ok moved) = 0
done_status (Err stop) = stop_status stop

-- the status of reading a journal
abbrev read_status : Result Stated Fault → ℕ
read_status (Ok stated) = 0
read_status (Err why) = status_of why

store_not_1 : (fault : StoreFault) → status_of (of_store fault) ≡ 1 → ⊥
store_not_1 store.Disk one = omega (arith, one)
store_not_1 (store.Other kept given) one = omega (arith, one)
store_not_1 (store.Damaged at) one = omega (arith, one)
store_not_1 store.Memory one = omega (arith, one)

read_not_1 : (read : Result Stated StoreFault) → read_status (read_done read) ≡ 1 → ⊥
read_not_1 (Ok stated) one = omega (arith, one)
read_not_1 (Err fault) one = store_not_1 fault one

moved_not_1 : (entries : ℕ) (moved : Result ℕ MoveFault) → done_status (moved_done entries moved) ≡ 1 → ⊥
moved_not_1 entries (Ok live) one = omega (arith, one)
moved_not_1 entries (Err (moving.Store fault)) one = store_not_1 fault one
moved_not_1 entries (Err (moving.Differs epoch)) one = omega (arith, one)
moved_not_1 entries (Err (moving.Unsound epoch)) one = omega (arith, one)
moved_not_1 entries (Err moving.Disk) one = omega (arith, one)
moved_not_1 entries (Err moving.Memory) one = omega (arith, one)

module _ {C E : Type 0} (cabinet : CabinetGhosts C E) (disk : DiskGhosts E) where
  old_not_1 : (name : List ℕ) (which : Scope) (old new : C) (network : Network) (result : Result Stated Fault) → ReadsOld cabinet disk network which name old new result → read_status result ≡ 1 → ⊥
  old_not_1 name which old new network result (inl (same, none)) one = omega (arith, sym (ap read_status same) ∙ one)
  old_not_1 name which old new network result (inr (found, looked, inl (same, none))) one = omega (arith, sym (ap read_status same) ∙ one)
  old_not_1 name which old new network result (inr (found, looked, inr (read, same, lent))) one = read_not_1 read (sym (ap read_status same) ∙ one)

  new_not_1 : (name : List ℕ) (old new : C) (network : Network) (entries : List Entry) (result : Result Moved MoveStop) → EntersNew cabinet disk network entries name old new result → done_status result ≡ 1 → ⊥
  new_not_1 name old new network entries result (inl (same, none)) one = omega (arith, sym (ap done_status same) ∙ one)
  new_not_1 name old new network entries result (inr (moved, same, lent)) one = moved_not_1 (length entries) moved (sym (ap done_status same) ∙ one)

module _ {I O C E : Type 0} (tells : Tellings I O C E) where
  enters_not_1 : (name : List ℕ) (before after : Parts I O C) (network : Network) (stated : Stated) (result : Result Moved MoveStop) → EntersStated tells name before after network stated result → done_status result ≡ 1 → ⊥
  enters_not_1 name before after network stated result (inl (same, rose, part, cabinet)) one = omega (arith, sym (ap done_status same) ∙ one)
  enters_not_1 name before after network stated result (inr (out, worked, moves)) one = new_not_1 tells.cabinet tells.disk name before.cabinet after.cabinet network stated.entries.items result moves one

  enough_not_1 : (journals : MovedJournals) (before after : Parts I O C) (network : Network) (stated : Stated) (result : Result Moved MoveStop) → EntersEnough tells journals before after network stated result → done_status result ≡ 1 → ⊥
  enough_not_1 journals before after network stated result (inl (few, same, out, cabinet)) one = omega (arith, sym (ap done_status same) ∙ one)
  enough_not_1 journals before after network stated result (inr (enough, enters)) one = enters_not_1 journals.new before after network stated result enters one

  stated_not_1 : (journals : MovedJournals) (before after : Parts I O C) (old new : Network) (result : Result Moved MoveStop) → MovesStated tells journals before after old new result → done_status result ≡ 1 → ⊥
  stated_not_1 journals before after old new result (inl (why, same, reads, out)) one = old_not_1 tells.cabinet tells.disk journals.old journals.scope before.cabinet after.cabinet old (Err why) reads (sym (ap done_status same) ∙ one)
  stated_not_1 journals before after old new result (inr (stated, read, reads, enters)) one = enough_not_1 journals (record before { cabinet = read }) after new stated result enters one

  pub apart_not_1 : (journals : MovedJournals) (before after : Parts I O C) (old new : Network) (result : Result Moved MoveStop) → MovesApart tells journals before after old new result → done_status result ≡ 1 → ⊥
  apart_not_1 journals before after old new result (inl (same, none, out)) one = omega (arith, sym (ap done_status same) ∙ one)
  apart_not_1 journals before after old new result (inr (seen, apart, moves)) one = stated_not_1 journals (record before { cabinet = seen }) after old new result moves one

  on_not_1 : (journals : MovedJournals) (before after : Parts I O C) (old new : Network) (result : Result Moved MoveStop) → MovesBetween tells journals before after old new result → done_status result ≡ 1 → ⊥
  on_not_1 journals before after old new result (inl (change.Node node, same, first, out, cabinet)) one = omega (arith, sym (ap done_status same) ∙ one)
  on_not_1 journals before after old new result (inl (change.Link link, same, first, out, cabinet)) one = omega (arith, sym (ap done_status same) ∙ one)
  on_not_1 journals before after old new result (inr (goes_on, moves)) one = apart_not_1 journals before after old new result moves one

  from_not_1 : (names : MoveNames) (before after : Parts I O C) (old : Network) (result : Result Moved MoveStop) → MovesFrom tells names before after old result → done_status result ≡ 1 → ⊥
  from_not_1 names before after old result (inl (why, same, reads, out)) one = topology_not_1 tells.cabinet before.cabinet after.cabinet names.prices names.new_topology why reads (sym (ap done_status same) ∙ one)
  from_not_1 names before after old result (inr (new, read, reads, moves)) one = on_not_1 names.journals (record before { cabinet = read }) after old new result moves one

  named_not_1 : (names : MoveNames) (before after : Parts I O C) (result : Result Moved MoveStop) → MovesNamed tells names before after result → done_status result ≡ 1 → ⊥
  named_not_1 names before after result (inl (why, same, reads, out)) one = topology_not_1 tells.cabinet before.cabinet after.cabinet names.prices names.topology why reads (sym (ap done_status same) ∙ one)
  named_not_1 names before after result (inr (old, read, reads, moves)) one = from_not_1 names (record before { cabinet = read }) after old result moves one

-- the status of a move, by its last line
pub ends_not_1 : {O : Type 0} (sink : SinkGhosts O) (was now : O) (status : ℕ) (result : Result Moved MoveStop) → EndsMoved sink was now status result → (done_status result ≡ 1 → ⊥) → status ≡ 1 → ⊥
ends_not_1 sink was now status (Ok moved) (inl whole) never one = omega (arith, sym whole.0 ∙ one)
ends_not_1 sink was now status (Ok moved) (inr part) never one = omega (arith, sym part.0 ∙ one)
ends_not_1 sink was now status (Err stop) ends never one = never (sym ends.0 ∙ one)

pub move_not_1 : {I O C E : Type 0} (tells : Tellings I O C E) (names : MoveNames) (before after : Parts I O C) (status : ℕ) → MoveOutcome tells names before after status → status ≢ 1
move_not_1 tells names before after status outcome one =
    ends_not_1 tells.sink outcome.left after.output status outcome.done outcome.ends (named_not_1 tells names before (record after { output = outcome.left }) outcome.done outcome.moves) one
