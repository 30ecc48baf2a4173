-- A cost of at least 1 and at most 1 is 1.
use Rattle.std.proofs.Common.{ℕ, ◌*◌, ap, arith}
use Rattle.hose_price.specs.Sheet.{costs_one}
use Rattle.hose_price.proofs.Weaker.{result_weaker}
use Rattle.hose_price.proofs.sheet.with_hops.Goals as goal

pub returns : goal.returns
returns c =
    result_weaker _ costs_one
    (λ length cost within answered.
    let price = (c.new-tariff.result.keeps length within).1 cost answered in
    let none = ap (λ (n : ℕ). n * length) c.new-tariff.ensures.per in
    omega (arith, price.some, price.most, c.new-tariff.ensures.base, none))
    c.args.top.now c.price.result c.price.ensures.priced c.price.ensures.network
