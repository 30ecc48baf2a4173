use Rattle.hose_io.proofs.Gathering.{IsAdded-next}
use Rattle.hose_offline.proofs.Sheets.{prices_split}
use Rattle.hose_offline.proofs.sheet_answer.+add_prices.Goals as goal

pub returns : goal.returns
returns g t c =
    rw (prices_split (λ tariff. tariff.name) c.args.tariffs.now c.args.prices.now c.tariff-item.result (record { cost = 0; low = 0; high = 0 }) c.in-len1-up.len_at_least c.in-len1-up-prices.len_at_least c.tariff-item.is)
    (IsAdded-next c.add_price.ensures c.add_prices.ensures)
