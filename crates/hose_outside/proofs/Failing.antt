-- Which file is told as the one at which the cabinet failed, from what was read and what was done.
use Rattle.std.proofs.Common.{◌≡◌, inl, inr, List, ℕ, Result, Ok, Err, refl, subst, sym}
use Rattle.std.specs.Prelude.{⊤}
use Rattle.hose_io.specs.Frame.{Met}
use Rattle.hose_io.specs.declared.Failed.{Failed}
use Rattle.hose_graph.specs.Network.{Network}
use Rattle.hose_disk.specs.Cabinet.{object_of}
use Rattle.hose_disk.specs.declared.cabinet.Cabinet.{Ghosts as CabinetGhosts}
use Rattle.hose_disk.specs.declared.disk.Disk.{Ghosts as DiskGhosts}
use Rattle.hose_outside.specs.Reading.{PricedNames, ReadsTopology}
use Rattle.hose_outside.specs.Failing.{FailsNamed}
use Rattle.hose_outside.specs.OnDisk.{OthersStay}
use Rattle.hose_outside.specs.Parts.{Parts, Tellings}
use Rattle.hose_outside.specs.Unopened.{OpensNoJournal, first_of}
use Rattle.hose_outside.specs.declared.fault.Fault.{Fault}
use Rattle.hose_outside.specs.declared.fault.Fault.TheVariants.{Cabinet, Text}
use Rattle.hose_outside.specs.declared.why.Why.{Why}
use Rattle.hose_outside.specs.declared.why.Why.TheVariants.{Stopped}
use Rattle.hose_outside.specs.steps.Ending.{IsWhyAfter}
use Rattle.hose_outside.specs.steps.Failing.{FailsOpened}

-- ---- once the topology was read

module _ {C E : Type 0} (cabinet : CabinetGhosts C E) (disk : DiskGhosts E) where
  -- no store was opened
  pub unopened_fails : (name : List ℕ) (old new : C) (network : Network) (why : Fault) → OpensNoJournal cabinet disk name old new network (Err why) → FailsOpened cabinet old new (Stopped why)
  unopened_fails name old new network Text not = absurd not
  unopened_fails name old new network Cabinet not = not.1
  unopened_fails name old new network another not = tt

-- a text was told, and closing came to this before
pub closing_fails : {C E : Type 0} (cabinet : CabinetGhosts C E) (old new : C) (closing : Result ⊤ Failed) → Met (object_of (cabinet.frame old)) (object_of (cabinet.frame new)) closing → (why : Why) → IsWhyAfter (first_of (Ok tt) closing) why → FailsOpened cabinet old new why
closing_fails cabinet old new (Ok done) met why (inl is) = subst (FailsOpened cabinet old new) (sym is) tt
closing_fails cabinet old new (Ok done) met why (inr is) = subst (FailsOpened cabinet old new) (sym is) tt
closing_fails cabinet old new (Err failed) met why is = subst (FailsOpened cabinet old new) (sym is) (met.failed refl)

-- ---- a command that names a topology and a journal

module _ {I O C E : Type 0} (tells : Tellings I O C E) (names : PricedNames) (before after : Parts I O C) where
  -- no topology was read
  reading : (why : Fault) → ReadsTopology tells.cabinet before.cabinet after.cabinet names.prices names.topology (Err why) → FailsNamed tells names before after (Stopped why)
  reading Text reads = reads
  reading Cabinet reads = absurd reads.text
  reading another reads = tt

  pub fails_reading : (why : Fault) → ReadsTopology tells.cabinet before.cabinet after.cabinet names.prices names.topology (Err why) → (told : Why) → told ≡ Stopped why → FailsNamed tells names before after told
  fails_reading why reads told is = subst (FailsNamed tells names before after) (sym is) (reading why reads)

  -- one was
  pub fails_then : (read : C) (network : Network) → ReadsTopology tells.cabinet before.cabinet read names.prices names.topology (Ok network) → OthersStay tells.cabinet names.journal read after.cabinet → (why : Why) → FailsOpened tells.cabinet read after.cabinet why → FailsNamed tells names before after why
  fails_then read network reads others (Stopped Text) fails = absurd fails
  fails_then read network reads others (Stopped Cabinet) fails = (network, read, reads, fails, others)
  fails_then read network reads others (Stopped another) fails = tt
  fails_then read network reads others another fails = tt
