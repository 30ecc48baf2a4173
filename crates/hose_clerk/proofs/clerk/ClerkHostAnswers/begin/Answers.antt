use Rattle.std.proofs.Common.{subst, sym}
use Rattle.hose_clerk.specs.declared.sessions.Session.TheVariants.{New}
use Rattle.hose_clerk.specs.declared.tally.Tally.{Tally}
use Rattle.hose_clerk.specs.steps.Answering.{HasHosted}
use Rattle.hose_clerk.specs.steps.Linking.{is_required, link_state}
use Rattle.hose_clerk.proofs.Hosted.{hosted_left, hosted_put}
use Rattle.hose_clerk.proofs.Placed.{put_after}
use Rattle.hose_clerk.proofs.clerk.ClerkHostAnswers.begin.Goals as goal

pub returns-in_err-make_room-clause-comes : goal.returns-in_err-make_room-clause-comes
returns-in_err-make_room-clause-comes g c = λ from exchanges link has.
    let now = c.args.self.now in
    let required = is_required from.1.awaited in
    let at_link = link_state now.awaited now.standby now.fence in
    hosted_left g.K.Books g.K.History.is_of required from.0 from.1.desk.core.books now.desk.core.books now.sessions.items c.make_room.new.sessions.items now.desk.is_ending now.desk.figures.tally at_link exchanges link c.make_room.ensures.left has

pub returns-clause-comes : goal.returns-clause-comes
returns-clause-comes g c = λ from exchanges link has.
    let now = c.args.self.now in
    let required = is_required from.1.awaited in
    let at_link = link_state now.awaited now.standby now.fence in
    let middle = c.make_room.new.sessions.items in
    let after = c.put.new.sessions.items in
    subst (λ (t : Tally). HasHosted g.K.Books g.K.History.is_of required from.0 from.1.desk.core.books now.desk.core.books after now.desk.is_ending t at_link exchanges link) (sym c.come.ensures)
    (hosted_put g.K.Books g.K.History.is_of required from.0 from.1.desk.core.books now.desk.core.books c.args.place New now.sessions.items after now.desk.is_ending now.desk.figures.tally at_link exchanges link
    (λ network history stage. tt) (put_after now.sessions.items middle after c.args.place New c.make_room.ensures.left c.put.ensures) has)
