use Rattle.hose_io.proofs.Gathering.{IsAdded-next, IsPut-finished}
use Rattle.hose_outside.proofs.fault.put_numbered.Goals as goal

pub returns : goal.returns
returns g c =
    let words = IsAdded-next (IsAdded-next c.add.ensures c.add_number.ensures) c.add-2.ensures in
    IsPut-finished c.finish.result (rw c.new-gather.ensures at words) c.finish.ensures
