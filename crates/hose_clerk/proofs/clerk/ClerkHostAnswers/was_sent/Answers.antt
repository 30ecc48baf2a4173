use Rattle.std.proofs.Common.{refl, take}
use Rattle.hose_clerk.specs.steps.Linking.{is_required, link_state}
use Rattle.hose_clerk.proofs.Linked.{resent}
use Rattle.hose_clerk.proofs.clerk.ClerkHostAnswers.was_sent.Goals as goal

pub returns-clause-comes : goal.returns-clause-comes
returns-clause-comes g c = λ from exchanges link has.
    let now = c.args.self.now in
    let required = is_required from.1.awaited in
    let at_link = link_state now.awaited now.standby now.fence in
    let new = link_state now.awaited c.was_sent.new.self now.fence in
    resent g.K.Books g.K.History.is_of required from.0 from.1.desk.core.books now.desk.core.books now.sessions.items now.desk.is_ending now.desk.figures.tally at_link exchanges link has (take c.args.sent now.standby.unsent) new
    (c.was_sent.ensures.led (g.K.Books.ledger from.1.desk.core.books).network has.hosted.state.history link.given link.sent has.led) refl refl
