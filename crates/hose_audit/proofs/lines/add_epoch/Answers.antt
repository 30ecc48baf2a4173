use Rattle.hose_io.proofs.Gathering.{IsAdded-next}
use Rattle.hose_audit.proofs.lines.add_epoch.Goals as goal

pub returns : goal.returns
returns g c = IsAdded-next (rw c.epoch.ensures.value at c.add_numbered.ensures) c.add.ensures
