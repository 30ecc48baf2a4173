use Rattle.std.proofs.Common.{inl, refl, subst, sym}
use Rattle.hose_clerk.specs.declared.sessions.Session.TheVariants.{Over}
use Rattle.hose_clerk.specs.declared.tally.Tally.{Tally}
use Rattle.hose_clerk.specs.steps.Answering.{HasHosted}
use Rattle.hose_clerk.specs.steps.Linking.{is_required, link_state}
use Rattle.hose_clerk.proofs.Hosted.{hosted_put, kept_put}
use Rattle.hose_clerk.proofs.clerk.ClerkHostAnswers.leave.Goals as goal

pub returns-clause-fits : goal.returns-clause-fits
returns-clause-fits g c =
    let ledger = g.K.Books.ledger c.args.self.now.desk.core.books in
    (kept_put ledger ledger c.args.place Over c.args.self.now.sessions.items c.take-gone.new.sessions.items (inl refl) c.requires.0 c.take-gone.ensures.left tt, c.requires.1)

pub returns-clause-comes : goal.returns-clause-comes
returns-clause-comes g c = λ from exchanges link has.
    let now = c.args.self.now in
    let required = is_required from.1.awaited in
    let at_link = link_state now.awaited now.standby now.fence in
    let after = c.take-gone.new.sessions.items in
    subst (λ (t : Tally). HasHosted g.K.Books g.K.History.is_of required from.0 from.1.desk.core.books now.desk.core.books after now.desk.is_ending t at_link exchanges link) (sym c.leave.ensures)
    (hosted_put g.K.Books g.K.History.is_of required from.0 from.1.desk.core.books now.desk.core.books c.args.place Over now.sessions.items after now.desk.is_ending now.desk.figures.tally at_link exchanges link (λ network history stage. tt) c.take-gone.ensures.left has)
