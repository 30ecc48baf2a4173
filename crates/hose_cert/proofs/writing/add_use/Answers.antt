use Rattle.hose_io.proofs.Gathering.{IsAdded-next}
use Rattle.hose_cert.proofs.writing.add_use.Goals as goal

pub returns : goal.returns
returns g c = IsAdded-next (IsAdded-next (rw c.from.ensures at c.add_numbered.ensures) c.add_numbered-2.ensures) c.add.ensures
