use Rattle.hose_io.proofs.Gathering.{IsAdded-next, IsPut-finished}
use Rattle.hose_outside.proofs.fault.put_refusal.Goals as goal

pub returns : goal.returns
returns g c =
    let place = IsAdded-next (IsAdded-next c.add.ensures c.add_refusal.ensures) c.add-2.ensures in
    IsPut-finished c.finish.result (rw c.new-gather.ensures at place) c.finish.ensures
