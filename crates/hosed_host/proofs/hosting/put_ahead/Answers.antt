use Rattle.hose_io.proofs.Gathering.{IsAdded-next, IsPut-finished}
use Rattle.hosed_host.proofs.hosting.put_ahead.Goals as goal

pub returns : goal.returns
returns g c = IsPut-finished c.finish.result (rw c.new-gather.ensures at (IsAdded-next c.add_numbered.ensures c.add.ensures)) c.finish.ensures
