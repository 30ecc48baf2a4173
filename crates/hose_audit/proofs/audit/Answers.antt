use Rattle.hose_io.proofs.Gathering.{IsAdded-next, IsPut-finished}
use Rattle.hose_audit.proofs.audit.Goals as goal

pub returns : goal.returns
returns g c =
    let links = rw c.new-gather.ensures at (IsAdded-next c.add_epoch.ensures c.add_links.ensures) in
    let vpns = rw (c.topology.ensures.value, c.live.ensures.value) at c.add_vpns.ensures in
    IsPut-finished c.finish.result (IsAdded-next (IsAdded-next links vpns) c.add_live.ensures) c.finish.ensures
