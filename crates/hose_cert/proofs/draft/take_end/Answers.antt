use Rattle.std.proofs.Common.{◌∙◌, refl, sym, arith}
use Rattle.std.proofs.lemmas.Bool.{false≢true}
use Rattle.hose_cert.specs.CertLine.{end_line}
use Rattle.hose_cert.proofs.Drafting.{body_end, end_next, refused}
use Rattle.hose_cert.proofs.draft.take_end.Goals as goal

pub returns-then-not-is_pot : goal.returns-then-not-is_pot
returns-then-not-is_pot c = λ lines is.
    refused c.args.top.now lines end_line (λ may. false≢true (c.if-not-is_pot.ensures.1 (end_next c.args.top.now lines c.args.body c.args.body.last is.last may).0))

pub returns-then-body-nodes : goal.returns-then-body-nodes
returns-then-body-nodes c = λ lines is.
    refused c.args.top.now lines end_line (λ may. c.if-body-nodes.true ((end_next c.args.top.now lines c.args.body c.args.body.last is.last may).1 ∙ sym c.nodes.ensures.count))

pub returns-then-len-gt0 : goal.returns-then-len-gt0
returns-then-len-gt0 c = λ lines is.
    refused c.args.top.now lines end_line (λ may. omega (arith, c.if-len-gt0.true, (end_next c.args.top.now lines c.args.body c.args.body.last is.last may).2))

pub returns : goal.returns
returns c = λ lines is.
    body_end c.args.top.now lines c.args.body is _ (c.if-not-is_pot.ensures.0 refl) (omega (arith, c.if-body-nodes.false, c.nodes.ensures.count)) (omega (arith, c.if-len-gt0.false))
    refl refl refl refl refl refl
