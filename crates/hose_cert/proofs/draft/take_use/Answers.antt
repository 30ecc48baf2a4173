use Rattle.std.proofs.Common.{refl, arith}
use Rattle.std.proofs.lemmas.Bool.{false≢true}
use Rattle.hose_cert.specs.CertLine.{use_line}
use Rattle.hose_cert.proofs.Drafting.{body_use, refused, too_many, use_next}
use Rattle.hose_cert.proofs.draft.take_use.Goals as goal

pub returns-then-not-may_use-clause-takes : goal.returns-then-not-may_use-clause-takes
returns-then-not-may_use-clause-takes c = λ lines is.
    refused c.args.top.now lines (use_line c.args.pair) (λ may. false≢true (c.if-not-may_use.ensures.1 (use_next c.args.top.now lines c.args.body c.args.body.last c.args.pair is.last may)))

pub returns-then-len-clause-takes : goal.returns-then-len-clause-takes
returns-then-len-clause-takes c = λ lines is. too_many c.args.top.now lines c.args.body is c.args.pair (omega (arith, c.if-len.true))

pub returns-clause-takes : goal.returns-clause-takes
returns-clause-takes c = λ lines is.
    body_use c.args.top.now lines c.args.body is _ c.args.pair (record { link = c.requires.said.1.1; amount = c.requires.said.1.2 }) (c.if-not-may_use.ensures.0 refl) (omega (arith, c.if-len.false))
    refl refl refl c.in_ok-push.ensures.items refl refl
