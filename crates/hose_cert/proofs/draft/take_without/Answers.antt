use Rattle.std.proofs.Common.{◌≡◌, ℕ, refl, sym, subst}
use Rattle.std.specs.List.{Any}
use Rattle.std.proofs.lemmas.Bool.{false≢true}
use Rattle.hose_cert.specs.CertLine.{without_line}
use Rattle.hose_cert.proofs.Drafting.{body_without, refused, used_twice, without_next}
use Rattle.hose_cert.proofs.draft.take_without.Goals as goal

pub returns-then-not-may_leave_out : goal.returns-then-not-may_leave_out
returns-then-not-may_leave_out c = λ lines is.
    refused c.args.top.now lines (without_line c.args.link)
    (λ may. false≢true (c.if-not-may_leave_out.ensures.1 (without_next c.args.top.now lines c.args.body c.args.body.last c.args.link is.last may)))

pub returns-then-has_link : goal.returns-then-has_link
returns-then-has_link c = λ lines is.
    used_twice c.args.top.now lines c.args.body is c.args.link (subst (Any (λ (p : ℕ × ℕ). p.0 ≡ c.args.link)) c.deref.ensures.value (c.if-has_link.ensures.0 refl))

pub returns : goal.returns
returns c = λ lines is.
    body_without c.args.top.now lines c.args.body is _ c.args.link c.requires.said.1.1 (c.if-not-may_leave_out.ensures.0 refl)
    (λ there. false≢true (c.if-has_link.ensures.1 (subst (Any (λ (p : ℕ × ℕ). p.0 ≡ c.args.link)) (sym c.deref.ensures.value) there)))
    refl refl refl refl c.put.ensures refl
