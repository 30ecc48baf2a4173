use Rattle.std.proofs.Common.{refl, inl, inr}
use Rattle.std.proofs.lemmas.Bool.{false≢true}
use Rattle.hose_cert.proofs.Judged.{all_met, broken, five_broken, four_broken, six_broken}
use Rattle.hose_cert.proofs.judging.judge.Goals as goal

pub returns-then-not-is_reservation : goal.returns-then-not-is_reservation
returns-then-not-is_reservation c = λ lines is all.
    broken c.args.top.now lines c.args.body is c.from_vec-amounts.result c.from_vec-amounts.ensures 2
    (inl (refl, λ tree. false≢true (c.if-not-is_reservation.ensures.1 tree)))

pub returns-then-cost-body : goal.returns-then-cost-body
returns-then-cost-body c = λ lines is all.
    broken c.args.top.now lines c.args.body is c.from_vec-amounts.result c.from_vec-amounts.ensures 3
    (inr (inl (refl, c.if-not-is_reservation.ensures.0 refl, λ cost. c.if-cost-body.true (cc (cost, c.cost.ensures)))))

pub returns-then-not-body : goal.returns-then-not-body
returns-then-not-body c = λ lines is all.
    four_broken c.args.top.now lines c.args.body is c.from_vec-amounts.result c.from_vec-amounts.ensures all (c.if-not-is_reservation.ensures.0 refl) (cc (c.if-cost-body.false, c.cost.ensures))
    c.if-not-body.true

pub returns-then-not-body-2 : goal.returns-then-not-body-2
returns-then-not-body-2 c = λ lines is all.
    five_broken c.args.top.now lines c.args.body is c.from_vec-amounts.result c.from_vec-amounts.ensures all (c.if-not-is_reservation.ensures.0 refl) (cc (c.if-cost-body.false, c.cost.ensures))
    c.if-not-body.false c.if-not-body-2.true

pub returns-then-not-body-3 : goal.returns-then-not-body-3
returns-then-not-body-3 c = λ lines is all.
    six_broken c.args.top.now lines c.args.body is c.from_vec-amounts.result c.from_vec-amounts.ensures all (c.if-not-is_reservation.ensures.0 refl) (cc (c.if-cost-body.false, c.cost.ensures))
    c.if-not-body.false c.if-not-body-2.false c.if-not-body-3.true

pub returns : goal.returns
returns c = λ lines is all.
    all_met c.args.top.now lines c.args.body is c.from_vec-amounts.result c.from_vec-amounts.ensures all (c.if-not-is_reservation.ensures.0 refl) (cc (c.if-cost-body.false, c.cost.ensures))
    c.if-not-body.false c.if-not-body-2.false c.if-not-body-3.false
