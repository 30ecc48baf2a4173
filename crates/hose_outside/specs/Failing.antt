-- Which of the files that a command names is told as the one at which the cabinet failed.
use Rattle.std.specs.Prelude.{Ok, Err, ⊤}
use Rattle.hose_graph.specs.Network.{Network}
use Rattle.hose_outside.specs.Reading.{PricedNames, ReadsTopology}
use Rattle.hose_outside.specs.OnDisk.{CabinetFailed, OthersStay}
use Rattle.hose_outside.specs.Parts.{Parts, Tellings}
use Rattle.hose_outside.specs.declared.fault.Fault.TheVariants.{Cabinet, Text}
use Rattle.hose_outside.specs.declared.why.Why.{Why}
use Rattle.hose_outside.specs.declared.why.Why.TheVariants.{Stopped}

module _ {I O C E : Type 0} (tells : Tellings I O C E) (names : PricedNames)
    (before after : Parts I O C) where
  -- Where the text of the topology is told, no topology was read of it, and nothing but texts was
  -- asked for. Where the journal is, the topology was read first, with no call that failed, and
  -- then one did; the disks of other names than the journal's are as they were.
  abbrev pub FailsNamed : Why → Type 0
  FailsNamed (Stopped Text) = ReadsTopology tells.cabinet before.cabinet after.cabinet
      names.prices names.topology (Err Text)
  FailsNamed (Stopped Cabinet) = (network : Network) × (read : C)
      × ReadsTopology tells.cabinet before.cabinet read names.prices names.topology (Ok network)
      × CabinetFailed tells.cabinet read after.cabinet
      × OthersStay tells.cabinet names.journal read after.cabinet
  FailsNamed _ = ⊤
