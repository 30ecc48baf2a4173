use Rattle.hose_io.proofs.Gathering.{IsAdded-next, IsPut-finished}
use Rattle.hose_clerk.proofs.replies.put_ending.Goals as goal

pub returns : goal.returns
returns g c =
    let line = IsAdded-next c.add_numbered.ensures c.add.ensures in
    IsPut-finished c.finish.result (rw c.new-gather.ensures at line) c.finish.ensures
