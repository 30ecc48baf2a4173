use Rattle.hose_io.proofs.Gathering.{IsAdded-next, IsPut-finished}
use Rattle.hose_offline.proofs.tally.Tally.put.Goals as goal

pub returns : goal.returns
returns g c =
    let start = IsAdded-next (rw c.new-gather.ensures at c.add_told.ensures) (rw c.from.ensures at c.add_told-2.ensures) in
    let counts = IsAdded-next (IsAdded-next (IsAdded-next start c.add_told-3.ensures) c.add_told-4.ensures) c.add_told-5.ensures in
    let all = IsAdded-next (IsAdded-next (IsAdded-next counts c.add_told-6.ensures) c.add_cost.ensures) c.add.ensures in
    IsPut-finished c.finish.result all c.finish.ensures
