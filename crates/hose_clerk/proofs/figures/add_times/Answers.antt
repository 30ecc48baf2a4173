use Rattle.hose_io.proofs.Gathering.{IsAdded-next}
use Rattle.hose_clerk.proofs.figures.add_times.Goals as goal

pub returns : goal.returns
returns g c = IsAdded-next (IsAdded-next (IsAdded-next (IsAdded-next (IsAdded-next (IsAdded-next (IsAdded-next c.add_numbered.ensures c.add_numbered-2.ensures) c.add_numbered-3.ensures) c.add_numbered-4.ensures) c.add_numbered-5.ensures) c.add_numbered-6.ensures) c.add_numbered-7.ensures) c.add_numbered-8.ensures
