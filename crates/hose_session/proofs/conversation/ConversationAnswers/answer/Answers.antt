use Rattle.std.proofs.Common.{◌∙◌, ap, subst, sym}
use Rattle.hose_session.specs.steps.Exchanges.{IsPhaseAt, Progress}
use Rattle.hose_session.specs.declared.phase.Phase.{Phase}
use Rattle.hose_session.proofs.Conversing.{comes_then, fits_then}
use Rattle.hose_session.proofs.Exchanging.{of_greeted, of_served, serves_him, waits}
use Rattle.hose_session.proofs.conversation.ConversationAnswers.answer.Goals as goal

pub serve-requires-clause-phase : goal.serve-requires-clause-phase
serve-requires-clause-phase g c = serves_him c.args.self.now.phase c.in-Some.name (sym c.customer.ensures ∙ c.in-Some.is)

pub serve-requires-clause-quotes : goal.serve-requires-clause-quotes
serve-requires-clause-quotes g c =
    let was = c.args.self.now in
    let is = serves_him was.phase c.in-Some.name (sym c.customer.ensures ∙ c.in-Some.is) in
    let here = subst (λ (p : Phase). IsPhaseAt was.seat.shared.now.network was.seat.pass.seen p was.seat.quotes c.requires.fits.1.1) is c.requires.fits.1.2 in
    (here.0, here.2)

pub returns-in-Some-clause-answers : goal.returns-in-Some-clause-answers
returns-in-Some-clause-answers g c = λ first lines replies came.
    let was = c.args.self.now in
    let now = c.serve.new.self in
    let network = was.seat.shared.now.network in
    let new : Progress = record { pass = now.seat.pass; phase = now.phase; quotes = now.seat.quotes } in
    let is = serves_him was.phase c.in-Some.name (sym c.customer.ensures ∙ c.in-Some.is) in
    comes_then network now.seat.shared.now.network (ap (λ s. s.now.network) c.serve.ensures.shared) (record { pass = was.seat.pass; phase = was.phase; quotes = was.seat.quotes }) new c.args.line c.serve.result
    (of_served network was.seat.pass was.phase was.seat.quotes new c.args.line c.serve.result c.in-Some.name is c.serve.ensures.answers) first lines replies came

pub returns-in-Some-clause-fits : goal.returns-in-Some-clause-fits
returns-in-Some-clause-fits g c =
    let was = c.args.self.now in
    let now = c.serve.new.self in
    let network = was.seat.shared.now.network in
    let new : Progress = record { pass = now.seat.pass; phase = now.phase; quotes = now.seat.quotes } in
    let is = serves_him was.phase c.in-Some.name (sym c.customer.ensures ∙ c.in-Some.is) in
    let then = fits_then network now.seat.shared.now.network (ap (λ s. s.now.network) c.serve.ensures.shared) (record { pass = was.seat.pass; phase = was.phase; quotes = was.seat.quotes }) new c.args.line c.serve.result
    (of_served network was.seat.pass was.phase was.seat.quotes new c.args.line c.serve.result c.in-Some.name is c.serve.ensures.answers) c.requires.fits.1.1 c.requires.fits.1.2 in
    (ap (λ t. t.now) c.serve.ensures.top ∙ c.requires.fits.0 ∙ sym (ap (λ s. s.now.network) c.serve.ensures.shared), (c.serve.ensures.of, then.0, then.1))

pub greet-requires-clause-quotes : goal.greet-requires-clause-quotes
greet-requires-clause-quotes g c =
    let was = c.args.self.now in
    let is = waits was.phase c.requires.goes_on (sym c.customer.ensures ∙ c.in-None.is) in
    (subst (λ (p : Phase). IsPhaseAt was.seat.shared.now.network was.seat.pass.seen p was.seat.quotes c.requires.fits.1.1) is c.requires.fits.1.2).1

pub returns-in-None-clause-answers : goal.returns-in-None-clause-answers
returns-in-None-clause-answers g c = λ first lines replies came.
    let was = c.args.self.now in
    let now = c.greet.new.self in
    let network = was.seat.shared.now.network in
    let new : Progress = record { pass = now.seat.pass; phase = now.phase; quotes = now.seat.quotes } in
    let is = waits was.phase c.requires.goes_on (sym c.customer.ensures ∙ c.in-None.is) in
    comes_then network now.seat.shared.now.network (ap (λ s. s.now.network) c.greet.ensures.shared) (record { pass = was.seat.pass; phase = was.phase; quotes = was.seat.quotes }) new c.args.line c.greet.result
    (of_greeted network was.seat.pass was.phase was.seat.quotes new c.args.line c.greet.result is c.greet.ensures.answers) first lines replies came

pub returns-in-None-clause-fits : goal.returns-in-None-clause-fits
returns-in-None-clause-fits g c =
    let was = c.args.self.now in
    let now = c.greet.new.self in
    let network = was.seat.shared.now.network in
    let new : Progress = record { pass = now.seat.pass; phase = now.phase; quotes = now.seat.quotes } in
    let is = waits was.phase c.requires.goes_on (sym c.customer.ensures ∙ c.in-None.is) in
    let then = fits_then network now.seat.shared.now.network (ap (λ s. s.now.network) c.greet.ensures.shared) (record { pass = was.seat.pass; phase = was.phase; quotes = was.seat.quotes }) new c.args.line c.greet.result
    (of_greeted network was.seat.pass was.phase was.seat.quotes new c.args.line c.greet.result is c.greet.ensures.answers) c.requires.fits.1.1 c.requires.fits.1.2 in
    (ap (λ t. t.now) c.greet.ensures.top ∙ c.requires.fits.0 ∙ sym (ap (λ s. s.now.network) c.greet.ensures.shared), (c.greet.ensures.of, then.0, then.1))
