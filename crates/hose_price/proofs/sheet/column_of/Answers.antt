-- Each cost is within the tariff's bounds, since its rule keeps them.
use Rattle.hose_tariff.specs.Fact.{IsPrice, IsPricedBy}
use Rattle.hose_price.proofs.Weaker.{priced_weaker}
use Rattle.hose_price.proofs.sheet.column_of.Goals as goal

pub returns-clause-column : goal.returns-clause-column
returns-clause-column g c =
    let tariff = c.args.tariff.now in
    let top : IsPricedBy (IsPrice tariff.base tariff.per) c.args.top.now c.in_ok-price.field-0 =
    priced_weaker _ (IsPrice tariff.base tariff.per) (λ length cost within answered. (tariff.keeps length within).1 cost answered) c.args.top.now c.in_ok-price.field-0 c.in_ok-price.ensures.network c.in_ok-price.ensures.priced in
    record {
      base = c.base.ensures.within;
      per = c.per.ensures.within;
      top = rw (c.base.ensures.value, c.per.ensures.value) top;
    }
