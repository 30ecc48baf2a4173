use Rattle.std.proofs.Common.{List, ℕ, None, take, subst, sym}
use Rattle.hose_net.specs.Happening.{Took}
use Rattle.hose_net.specs.Story.{link_after}
use Rattle.hose_clerk.specs.Hosting.{LeadsBy}
use Rattle.hose_clerk.specs.steps.Linking.{is_required, link_state}
use Rattle.hose_clerk.proofs.Linked.{sends_by}
use Rattle.hose_clerk.proofs.clerk.ClerkHostAnswers.unsent.Goals as goal

pub returns-clause-leads : goal.returns-clause-leads
returns-clause-leads g c = λ from exchanges link many has.
    let now = c.args.self.now in
    let required = is_required from.1.awaited in
    let at_link = link_state now.awaited now.standby now.fence in (
      None,
      subst (λ (bytes : List ℕ). LeadsBy (g.K.Books.ledger from.1.desk.core.books).network required from.0 exchanges (link_after link (Took (take many bytes))) None) (sym c.unsent.ensures)
          (sends_by g.K.Books g.K.History.is_of required from.0 from.1.desk.core.books now.desk.core.books now.sessions.items now.desk.is_ending now.desk.figures.tally at_link exchanges link has many),
    )
