use Rattle.std.proofs.Common.{subst, sym}
use Rattle.hose_net.specs.Happening.{Gave}
use Rattle.hose_net.specs.Story.{link_after}
use Rattle.hose_clerk.specs.declared.tally.Tally.{Tally}
use Rattle.hose_clerk.specs.steps.Answering.{HasHosted}
use Rattle.hose_clerk.specs.steps.Linking.{is_required, link_state}
use Rattle.hose_clerk.proofs.Linked.{given_more}
use Rattle.hose_clerk.proofs.clerk.ClerkHostAnswers.take_in.Goals as goal

pub returns-clause-comes : goal.returns-clause-comes
returns-clause-comes g c = λ from exchanges link has.
    let now = c.args.self.now in
    let required = is_required from.1.awaited in
    let at_link = link_state now.awaited now.standby now.fence in
    let network = (g.K.Books.ledger from.1.desk.core.books).network in
    let history = has.hosted.state.history in
    let new = link_state now.awaited c.take_in.new.self c.hear.new.self in
    let is = subst (λ (k : g.row.K.Denot). g.K.History.is_of k network history) (sym c.books.ensures) has.history in
    subst (λ (t : Tally). HasHosted g.K.Books g.K.History.is_of required from.0 from.1.desk.core.books now.desk.core.books now.sessions.items now.desk.is_ending t new exchanges (link_after link (Gave c.args.bytes.now))) (sym c.hear-2.ensures)
    (given_more g.K.Books g.K.History.is_of required from.0 from.1.desk.core.books now.desk.core.books now.sessions.items now.desk.is_ending now.desk.figures.tally at_link exchanges link has c.args.bytes.now c.take_in.new.self c.hear.new.self
    (c.take_in.ensures.led network history link.given link.sent is has.led) c.hear.ensures)
