use Rattle.std.proofs.Common.{arith, subst}
use Rattle.hose_tree.specs.steps.Peeling.{Question}
use Rattle.hose_tree.specs.steps.Rates.{AreRatesOf}
use Rattle.hose_tree.proofs.Asking.{answer, reserved_are_few, reserved_are_possible, starts}
use Rattle.hose_tree.proofs.judge.is_reservation.Goals as goal
use Rattle.hose_tree.proofs.judge.is_reservation.Goals.{then-pairs-via-then-pairs, then-pairs-via-else-pairs+then-not-are_possible}

pub returns-then-pairs : goal.returns-then-pairs
returns-then-pairs c = (
  λ wrong. absurd (cc wrong),
  λ reserved. elim c.then-pairs.branch [
    | then-pairs-via-then-pairs w ↦ absurd (omega (arith, reserved_are_few c.args.top.now c.links-links.ensures.network c.args.hose.now c.args.amounts.now c.pairs-pairs.result.now c.pairs-pairs.ensures.value reserved))
    | then-pairs-via-else-pairs+then-not-are_possible w ↦
        let possible = w.are_possible.ensures.1 (reserved_are_possible c.args.top.now c.links-links.ensures.network c.args.hose.now c.args.amounts.now c.pairs-pairs.result.now c.pairs-pairs.ensures.value
        c.links-links.result c.total-total.result c.links-links.ensures.count c.total-total.ensures.sum reserved) in
        cc (possible, w.if-not-are_possible.true)
  ],
)

pub add_links-requires-clause-none : goal.add_links-requires-clause-none
add_links-requires-clause-none c = c.new-forest.ensures c.args.top.now

pub is_one_tree-requires : goal.is_one_tree-requires
is_one_tree-requires c =
    let stands = starts c.args.top.now c.links-links.ensures.network c.args.hose.now c.args.amounts.now c.pairs-pairs.result.now c.pairs-pairs.ensures.value
    c.links-links.result c.total-total.result c.links-links.ensures.count c.total-total.ensures.sum (c.are_possible.ensures.0 c.if-not-are_possible.false) c.ends.ensures.hose c.pairs-pairs.ensures.ascending
    c.add_links.new.self c.add_links.ensures c.add_rates.new.rates (subst (λ ends. AreRatesOf ends c.add_rates.new.rates) c.ends.ensures.value c.add_rates.ensures) in
    (record { ends = c.args.hose.now; pairs = c.pairs-pairs.result.now }, stands)

pub returns : goal.returns
returns c =
    let asked : Question = record { ends = c.args.hose.now; pairs = c.pairs-pairs.result.now } in
    let stands = starts c.args.top.now c.links-links.ensures.network c.args.hose.now c.args.amounts.now c.pairs-pairs.result.now c.pairs-pairs.ensures.value
    c.links-links.result c.total-total.result c.links-links.ensures.count c.total-total.ensures.sum (c.are_possible.ensures.0 c.if-not-are_possible.false) c.ends.ensures.hose c.pairs-pairs.ensures.ascending
    c.add_links.new.self c.add_links.ensures c.add_rates.new.rates (subst (λ ends. AreRatesOf ends c.add_rates.new.rates) c.ends.ensures.value c.add_rates.ensures) in
    let says = answer c.args.top.now c.links-links.ensures.network c.args.hose.now c.args.amounts.now c.pairs-pairs.result.now c.pairs-pairs.ensures.value
    c.links-links.result c.total-total.result c.links-links.ensures.count c.total-total.ensures.sum (c.are_possible.ensures.0 c.if-not-are_possible.false) c.pairs-pairs.ensures.ascending in
    let tree = c.is_one_tree.ensures asked stands in
    (λ is_tree. says.0 (tree.0 is_tree), λ reserved. tree.1 (says.1 reserved))
