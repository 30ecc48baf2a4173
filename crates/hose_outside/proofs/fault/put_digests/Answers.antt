use Rattle.hose_io.proofs.Gathering.{IsAdded-next, IsPut-finished}
use Rattle.hose_outside.proofs.fault.put_digests.Goals as goal

pub returns : goal.returns
returns g c =
    let kept = IsAdded-next c.add.ensures c.add_digest.ensures in
    let given = IsAdded-next (IsAdded-next kept c.add-2.ensures) c.add_digest-2.ensures in
    let line = IsAdded-next given c.add-3.ensures in
    IsPut-finished c.finish.result (rw c.new-gather.ensures at line) c.finish.ensures
