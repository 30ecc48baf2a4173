use Rattle.std.proofs.Common.{◌∙◌, sym, rules}
use Rattle.hose_clerk.specs.steps.Linking.{is_required, link_state}
use Rattle.hose_clerk.proofs.Linked.{heard_by, passed_by}
use Rattle.hose_clerk.proofs.clerk.ClerkHostAnswers.heard.Goals as goal

pub returns-then-is_required : goal.returns-then-is_required
returns-then-is_required g c = λ from exchanges link has.
    let now = c.args.self.now in
    let required = is_required from.1.awaited in
    let at_link = link_state now.awaited now.standby now.fence in
    passed_by g.K.Books g.K.History.is_of required from.0 from.1.desk.core.books now.desk.core.books now.sessions.items now.desk.is_ending now.desk.figures.tally at_link exchanges link has c.lines_passed.result c.answered.result c.heard-heard.result
    (sym c.is_required.ensures ∙ search rules) c.answered.ensures c.heard-heard.ensures c.lines_passed.ensures

pub returns : goal.returns
returns g c = λ from exchanges link has.
    let now = c.args.self.now in
    let required = is_required from.1.awaited in
    let at_link = link_state now.awaited now.standby now.fence in
    heard_by g.K.Books g.K.History.is_of required from.0 from.1.desk.core.books now.desk.core.books now.sessions.items now.desk.is_ending now.desk.figures.tally at_link exchanges link has c.heard-heard.result (sym c.is_required.ensures ∙ search rules) c.heard-heard.ensures
