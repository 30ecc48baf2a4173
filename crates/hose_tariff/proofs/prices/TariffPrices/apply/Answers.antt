use Rattle.hose_tariff.proofs.PricedNetworks.{priced_result}
use Rattle.hose_tariff.proofs.prices.TariffPrices.apply.Goals as goal

pub returns-clause-network : goal.returns-clause-network
returns-clause-network g c =
    let tariff = c.args.self.now in
    priced_result _ tariff.base tariff.per (λ length cost within answered. (tariff.keeps length within).1 cost answered) c.args.top c.price.result c.price.ensures.priced c.price.ensures.network
