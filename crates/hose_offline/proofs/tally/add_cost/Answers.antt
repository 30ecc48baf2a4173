use Rattle.std.proofs.Common.{◌≡◌, ◌∙◌, decimal}
use Rattle.hose_io.proofs.Gathering.{IsAdded-next}
use Rattle.hose_offline.proofs.tally.add_cost.Goals as goal

pub returns : goal.returns
returns g c =
    let text : c.as_bytes.result.now ≡ decimal c.args.cost = c.as_bytes.ensures.value ∙ c.format.ensures.text in
    IsAdded-next c.add.ensures (rw text at c.add-2.ensures)
