-- Each cost is the rule's answer, which is the length.
use Rattle.std.proofs.Common.{arith}
use Rattle.hose_price.specs.Sheet.{costs_length}
use Rattle.hose_price.proofs.Weaker.{result_weaker}
use Rattle.hose_price.proofs.sheet.priced_by_length.Goals as goal

pub new-tariff-requires-clause-keeps : goal.new-tariff-requires-clause-keeps
new-tariff-requires-clause-keeps g c length within = (
  (c.requires length within).0,
  λ cost answered.
      let is = (c.requires length within).1 cost answered in
      record {
        some = omega (arith, is, within.0);
        least = omega arith;
        most = omega (arith, is);
        within = omega (arith, is, within.1);
      },
)

pub returns : goal.returns
returns g c =
    result_weaker _ costs_length (λ length cost within answered. (c.requires length within).1 cost answered)
    c.args.top.now c.price.result (rw c.new-tariff.ensures.rule at c.price.ensures.priced) c.price.ensures.network
