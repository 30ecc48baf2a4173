use Rattle.std.proofs.Common.{refl, subst, sym}
use Rattle.hose_clerk.specs.declared.fence.Mark.{Mark}
use Rattle.hose_clerk.specs.steps.Linking.{is_required, link_state}
use Rattle.hose_clerk.proofs.Linked.{gathered}
use Rattle.hose_clerk.proofs.clerk.ClerkHostAnswers.gather.Goals as goal

pub returns-clause-comes : goal.returns-clause-comes
returns-clause-comes g c = λ from exchanges link has.
    let now = c.args.self.now in
    let required = is_required from.1.awaited in
    let at_link = link_state now.awaited now.standby now.fence in
    let network = (g.K.Books.ledger from.1.desk.core.books).network in
    let history = has.hosted.state.history in
    let mark : Mark = record { lines = now.desk.figures.tally.lines; entries = c.entries_of.result; packets = c.handed.result } in
    let is = subst (λ (k : g.row.K.Denot). g.K.History.is_of k network history) (sym c.books.ensures) has.history in
    gathered g.K.Books g.K.History.is_of required from.0 from.1.desk.core.books now.desk.core.books now.sessions.items now.desk.is_ending now.desk.figures.tally at_link exchanges link has mark c.fill-filled.new.self c.set_if-marks.new.fence
    (c.fill-filled.ensures.hands.led network history link.given link.sent is (c.ask_if.ensures network history link.given link.sent has.led)) c.set_if-marks.ensures refl c.entries_of.ensures c.handed.ensures
