use Rattle.std.proofs.Common.{ap, refl, ◌∙◌}
use Rattle.std.specs.Prelude.{not}
use Rattle.hose_clerk.specs.steps.Linking.{is_required, link_state}
use Rattle.hose_clerk.proofs.Linked.{reopened}
use Rattle.hose_clerk.proofs.clerk.ClerkHostAnswers.link_opened.Goals as goal

pub returns-clause-comes : goal.returns-clause-comes
returns-clause-comes g c = λ from exchanges link path has.
    let now = c.args.self.now in
    let required = is_required from.1.awaited in
    let at_link = link_state now.awaited now.standby now.fence in
    reopened g.K.Books g.K.History.is_of required from.0 from.1.desk.core.books now.desk.core.books now.sessions.items now.desk.is_ending now.desk.figures.tally at_link exchanges link has path (link_state now.awaited c.new.result c.open.new.self)
    (c.new.ensures.led (g.K.Books.ledger from.1.desk.core.books).network has.hosted.state.history) refl c.open.ensures.mark c.open.ensures.passed

pub returns-clause-waits : goal.returns-clause-waits
returns-clause-waits g c = λ may open_now. c.waits_at-waits.ensures (c.is_required.ensures ∙ ap not may) open_now
