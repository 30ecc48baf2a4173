use Rattle.hose_io.proofs.Gathering.{IsAdded-next}
use Rattle.hose_clerk.proofs.figures.add_heard.Goals as goal

pub returns : goal.returns
returns g c = IsAdded-next c.add_numbered.ensures c.add_numbered-2.ensures
