use Rattle.std.proofs.Common.{◌∙◌, arith, sym}
use Rattle.hose_tree.proofs.Forests.{amount_part, degree_part, leaf_joins, leaf_left, leaf_possible, leaves_still, link_part, other-lt, rate-le, rates_fit, stands_less, wrong_amount}
use Rattle.hose_tree.proofs.judge.Forest.peel_leaf.Goals as goal

pub overflow_sub-total : goal.overflow_sub-total
overflow_sub-total c =
    rate-le c.args.top.now c.args.total c.requires.stands.0 c.args.self.now c.requires.stands.1 c.args.leaf c.requires.leaf (omega arith)

pub returns-then-amount-min-clause-no : goal.returns-then-amount-min-clause-no
returns-then-amount-min-clause-no c = λ none question stands.
    wrong_amount c.args.top.now c.args.total question c.args.self.now stands c.args.leaf c.requires.leaf (omega arith)
    (λ same. c.if-amount-min.true (same ∙ sym c.min.ensures))

pub other_end-other-requires-clause-link : goal.other_end-other-requires-clause-link
other_end-other-requires-clause-link c =
    (leaf_possible c.args.top.now c.args.total c.requires.stands.0 c.args.self.now c.requires.stands.1 c.args.leaf c.requires.leaf).link

pub other_end-other-requires-clause-joins : goal.other_end-other-requires-clause-joins
other_end-other-requires-clause-joins c =
    leaf_joins c.args.top.now c.args.total c.requires.stands.0 c.args.self.now c.requires.stands.1 c.args.leaf c.requires.leaf

pub link-requires : goal.link-requires
link-requires c =
    (leaf_possible c.args.top.now c.args.total c.requires.stands.0 c.args.self.now c.requires.stands.1 c.args.leaf c.requires.leaf).link

pub take_link-requires-clause-degrees : goal.take_link-requires-clause-degrees
take_link-requires-clause-degrees c =
    degree_part c.args.top.now c.args.total c.requires.stands.0 c.args.self.now c.requires.stands.1 c.args.leaf c.requires.leaf c.link.result c.link.ensures.value

pub take_link-requires-clause-links : goal.take_link-requires-clause-links
take_link-requires-clause-links c =
    link_part c.args.top.now c.args.total c.requires.stands.0 c.args.self.now c.requires.stands.1 c.args.leaf c.requires.leaf c.link.result c.link.ensures.value

pub take_link-requires-clause-amounts : goal.take_link-requires-clause-amounts
take_link-requires-clause-amounts c =
    amount_part c.args.top.now c.args.total c.requires.stands.0 c.args.self.now c.requires.stands.1 c.args.leaf c.requires.leaf c.link.result c.link.ensures.value

pub take_link-requires-clause-left : goal.take_link-requires-clause-left
take_link-requires-clause-left c =
    leaf_left c.args.top.now c.args.total c.requires.stands.0 c.args.self.now c.requires.stands.1 c.args.leaf c.requires.leaf

pub move_rate-requires-clause-old : goal.move_rate-requires-clause-old
move_rate-requires-clause-old c = rw (← c.take_link.ensures.rates)
    (other-lt c.args.top.now c.args.total c.requires.stands.0 c.args.self.now c.requires.stands.1 c.args.leaf c.requires.leaf (omega arith) c.other_end-other.result c.other_end-other.ensures (omega arith))

pub move_rate-requires-clause-fits : goal.move_rate-requires-clause-fits
move_rate-requires-clause-fits c =
    let place = other-lt c.args.top.now c.args.total c.requires.stands.0 c.args.self.now c.requires.stands.1 c.args.leaf c.requires.leaf (omega arith)
    c.other_end-other.result c.other_end-other.ensures (omega arith) in
    let fits = rates_fit c.args.top.now c.args.total c.requires.stands.0 c.args.self.now c.requires.stands.1 c.args.leaf c.requires.leaf (omega arith)
    c.other_end-other.result c.other_end-other.ensures place in
    rw (← c.take_link.ensures.rates) (omega (arith, fits))

pub returns-clause-stands : goal.returns-clause-stands
returns-clause-stands c = λ question stands.
    let place = other-lt c.args.top.now c.args.total question c.args.self.now stands c.args.leaf c.requires.leaf (omega arith)
    c.other_end-other.result c.other_end-other.ensures (omega arith) in
    stands_less c.args.top.now c.args.total question c.args.self.now stands c.args.leaf c.requires.leaf (omega arith) c.other_end-other.result c.other_end-other.ensures
    c.link.result c.link.ensures.value c.take_link.new.self c.take_link.ensures (c.if-amount-min.false ∙ c.min.ensures)
    c.move_rate.new.rates (omega arith) (rw (← c.take_link.ensures.rates) place) (omega arith) c.move_rate.ensures.new c.move_rate.ensures.others

pub returns-clause-leaves : goal.returns-clause-leaves
returns-clause-leaves c =
    leaves_still c.args.top.now c.args.total c.requires.stands.0 c.args.self.now c.requires.stands.1 c.args.leaf c.requires.leaf (omega arith) c.other_end-other.result c.other_end-other.ensures
    c.link.result c.link.ensures.value c.take_link.new.self c.take_link.ensures
