-- Which file is told as the one at which the cabinet failed: steps of proofs.
use Rattle.std.specs.Prelude.{⊤}
use Rattle.hose_disk.specs.declared.cabinet.Cabinet.{Ghosts as CabinetGhosts}
use Rattle.hose_outside.specs.OnDisk.{CabinetFailed}
use Rattle.hose_outside.specs.declared.fault.Fault.TheVariants.{Cabinet, Text}
use Rattle.hose_outside.specs.declared.why.Why.{Why}
use Rattle.hose_outside.specs.declared.why.Why.TheVariants.{Stopped}

module _ {C E : Type 0} (cabinet : CabinetGhosts C E) (old new : C) where
  -- where the journal is told, a call failed since the topology was read; no text is told
  abbrev pub FailsOpened : Why → Type 0
  FailsOpened (Stopped Text) = ⊥
  FailsOpened (Stopped Cabinet) = CabinetFailed cabinet old new
  FailsOpened _ = ⊤
