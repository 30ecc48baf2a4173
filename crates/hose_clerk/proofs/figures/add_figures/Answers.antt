use Rattle.hose_io.proofs.Gathering.{IsAdded-next}
use Rattle.hose_clerk.proofs.figures.add_figures.Goals as goal

pub returns : goal.returns
returns g c = IsAdded-next (IsAdded-next (IsAdded-next (IsAdded-next (IsAdded-next (IsAdded-next c.add_comers.ensures c.add_orders.ensures) c.add_failures.ensures) c.add_times.ensures) c.add_numbered.ensures) c.add_numbered-2.ensures) c.add_standby.ensures
