use Rattle.std.proofs.Common.{sym}
use Rattle.hose_io.proofs.Gathering.{IsAdded-next}
use Rattle.hose_offline.proofs.sheet_answer.add_priced.Goals as goal

pub returns : goal.returns
returns g c =
    let customer = IsAdded-next c.add.ensures c.add-2.ensures in
    let prices = IsAdded-next customer c.add_prices.ensures in
    let best = IsAdded-next (IsAdded-next prices c.add-3.ensures) c.add_name.ensures in
    rw (sym c.bytes.ensures.value, sym c.prices.ensures, sym c.best.ensures.value) best
