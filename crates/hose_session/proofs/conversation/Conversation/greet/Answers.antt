use Rattle.std.proofs.Common.{◌∙◌, List, Option, subst, sym}
use Rattle.hose_core.specs.declared.quotes.Quote.{Quote}
use Rattle.hose_core.specs.steps.Holding.{AreHeld}
use Rattle.hose_core.proofs.HeldQuotes.{none_are_held}
use Rattle.hose_law.specs.Quotes.{none_held}
use Rattle.hose_shared.proofs.Passes.{more_same}
use Rattle.hose_greeting.specs.steps.Shown.{IsGreetedBy}
use Rattle.hose_session.proofs.Exchanging.{greeted_at, greeted_exchange, refused_at, refused_exchange}
use Rattle.hose_session.proofs.conversation.Conversation.greet.Goals as goal

pub returns-in-Ok-clause-answers : goal.returns-in-Ok-clause-answers
returns-in-Ok-clause-answers g c =
    let seat = c.args.self.now.seat in
    let new = c.now-at.new.self in
    let network = seat.shared.now.network in
    let greets = subst (IsGreetedBy c.args.line) c.in-Ok.is c.greeting_of.ensures in
    let exchange = greeted_exchange network seat.pass new.pass c.in-Ok.name c.now-at.result c.now-at.ensures.epoch c.now-at.ensures.more in
    let none = subst (λ (q : List (Option Quote)). AreHeld network 0 new.pass.seen none_held q) (sym (c.now-at.ensures.quotes ∙ c.requires.quotes)) (none_are_held network 0 new.pass.seen) in
    greeted_at network seat.pass new.pass c.args.line _ new.quotes c.in-Ok.name none greets exchange

pub returns-in-Err-clause-answers : goal.returns-in-Err-clause-answers
returns-in-Err-clause-answers g c =
    let seat = c.args.self.now.seat in
    let network = seat.shared.now.network in
    let refused = subst (IsGreetedBy c.args.line) c.in-Err.is c.greeting_of.ensures in
    let exchange = refused_exchange network seat.pass (more_same seat.pass c.requires.of.places).same refused.0 c.in-Err.reply refused.2 in
    refused_at network seat.pass seat.pass c.args.line _ seat.quotes refused.0 refused.1 exchange
