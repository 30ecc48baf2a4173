use Rattle.hose_io.proofs.Gathering.{IsAdded-next}
use Rattle.hose_outside.proofs.fault.add_element.Goals as goal

pub returns : goal.returns
returns g c = IsAdded-next c.add.ensures c.add_number.ensures
