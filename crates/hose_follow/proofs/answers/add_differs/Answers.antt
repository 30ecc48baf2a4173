use Rattle.hose_io.proofs.Gathering.{IsAdded-next}
use Rattle.hose_follow.proofs.answers.add_differs.Goals as goal

pub returns : goal.returns
returns g c =
    let own = IsAdded-next (IsAdded-next c.add_numbered.ensures c.add.ensures) c.add_value.ensures in
    IsAdded-next (IsAdded-next own c.add-2.ensures) c.add_value-2.ensures
