use Rattle.std.proofs.Common.{◌∙◌, ◌++◌, ℕ, List, refl, ap, arith}
use Rattle.std.proofs.lemmas.Bool.{false≢true}
use Rattle.hose_cert.specs.CertLine.{pot_line}
use Rattle.hose_cert.proofs.Drafting.{body_judged, body_pot, pot_next, refused}
use Rattle.hose_cert.proofs.draft.take_pot.Goals as goal

pub returns-then-not-may_number-clause-takes : goal.returns-then-not-may_number-clause-takes
returns-then-not-may_number-clause-takes c = λ lines is.
    refused c.args.top.now lines (pot_line c.args.pot.root c.args.pot.from c.args.pot.numbers.items)
    (λ may. false≢true (c.if-not-may_number.ensures.1 (pot_next c.args.top.now lines c.args.body c.args.body.last c.args.pot.root c.args.pot.from c.args.pot.numbers.items is.last may).0))

pub returns-then-pot-body-clause-takes : goal.returns-then-pot-body-clause-takes
returns-then-pot-body-clause-takes c = λ lines is.
    refused c.args.top.now lines (pot_line c.args.pot.root c.args.pot.from c.args.pot.numbers.items)
    (λ may. c.if-pot-body.true (pot_next c.args.top.now lines c.args.body c.args.body.last c.args.pot.root c.args.pot.from c.args.pot.numbers.items is.last may).1)

pub returns-then-pot-len-clause-takes : goal.returns-then-pot-len-clause-takes
returns-then-pot-len-clause-takes c = λ lines is.
    refused c.args.top.now lines (pot_line c.args.pot.root c.args.pot.from c.args.pot.numbers.items)
    (λ may. omega (arith, c.if-pot-len.true, (pot_next c.args.top.now lines c.args.body c.args.body.last c.args.pot.root c.args.pot.from c.args.pot.numbers.items is.last may).2))

pub returns-then-len-nodes-clause-takes : goal.returns-then-len-nodes-clause-takes
returns-then-len-nodes-clause-takes c = λ lines is.
    body_pot c.args.top.now lines c.args.body is c.args.pot.root c.args.pot.from c.args.pot.numbers.items c.requires.said (c.if-not-may_number.ensures.0 refl) (omega (arith, c.if-pot-body.false)) (omega (arith, c.if-pot-len.false))
    (record { root = c.args.body.rows.root; row = c.extend_from_slice.new.self; starts = c.args.body.rows.starts; changes = c.args.body.rows.changes; weighs = c.args.body.rows.weighs })
    refl (c.in_ok-extend_from_slice.ensures.items ∙ ap (λ (ns : List ℕ). c.args.body.rows.row.items ++ ns) c.deref.ensures.value) refl refl refl
    _ refl refl refl refl refl refl (omega (arith, c.if-len-nodes.true, c.nodes.ensures.count))

pub returns-clause-takes : goal.returns-clause-takes
returns-clause-takes c = λ lines is.
    body_judged c.args.top.now lines c.args.body is c.args.pot.root c.args.pot.from c.args.pot.numbers.items c.requires.said (c.if-not-may_number.ensures.0 refl) (omega (arith, c.if-pot-body.false)) (omega (arith, c.if-pot-len.false))
    (record { root = c.args.body.rows.root; row = c.extend_from_slice.new.self; starts = c.args.body.rows.starts; changes = c.args.body.rows.changes; weighs = c.args.body.rows.weighs })
    refl (c.in_ok-extend_from_slice.ensures.items ∙ ap (λ (ns : List ℕ). c.args.body.rows.row.items ++ ns) c.deref.ensures.value) refl refl refl
    _ refl refl refl refl refl c.judge_row.ensures (omega (arith, c.if-len-nodes.false, c.nodes.ensures.count))
