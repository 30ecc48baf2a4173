use Rattle.hose_io.proofs.Gathering.{IsAdded-next}
use Rattle.hose_cert.proofs.writing.add_hose.Goals as goal

pub returns : goal.returns
returns g c = IsAdded-next (IsAdded-next c.add.ensures c.add_ends.ensures) c.add-2.ensures
