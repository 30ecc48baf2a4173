use Rattle.std.proofs.Common.{◌∙◌, sym, arith}
use Rattle.hose_clerk.specs.steps.Linking.{is_required, link_state}
use Rattle.hose_clerk.proofs.Linked.{ahead_by}
use Rattle.hose_clerk.proofs.clerk.ClerkHostAnswers.ahead.Goals as goal

pub returns : goal.returns
returns g c = λ from exchanges link has.
    let now = c.args.self.now in
    let required = is_required from.1.awaited in
    let at_link = link_state now.awaited now.standby now.fence in
    ahead_by g.K.Books g.K.History.is_of required from.0 from.1.desk.core.books now.desk.core.books now.sessions.items now.desk.is_ending now.desk.figures.tally at_link exchanges link has c.in_ok-count.count (sym c.stage.ensures ∙ c.in_ok-count.ensures)
    (omega (arith, c.entries_of.ensures))
