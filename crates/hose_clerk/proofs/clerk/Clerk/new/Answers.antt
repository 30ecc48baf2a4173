use Rattle.std.proofs.Common.{[], List, false, subst, sym}
use Rattle.hose_net.specs.Story.{no_link}
use Rattle.hose_clerk.specs.Tally.{no_tally}
use Rattle.hose_clerk.specs.declared.sessions.Session.{Session}
use Rattle.hose_clerk.specs.steps.Answering.{HasHosted}
use Rattle.hose_clerk.specs.steps.Linking.{is_required, link_state}
use Rattle.hose_clerk.proofs.Hosted.{hosted_none}
use Rattle.hose_clerk.proofs.clerk.Clerk.new.Goals as goal

pub returns-clause-hosted : goal.returns-clause-hosted
returns-clause-hosted g c = λ since sound book history.
    let books = c.args.core.books in
    let required = is_required c.args.awaited in
    let standby = c.new-2.result in
    let fence = c.new-3.result in
    subst (λ (sessions : List Session). HasHosted g.K.Books g.K.History.is_of required since books books sessions false no_tally (link_state c.args.awaited standby fence) [] no_link) (sym c.new.ensures.items)
    (hosted_none g.K.Books g.K.History.is_of required since books standby fence sound book history (c.new-2.ensures.led (g.K.Books.ledger books).network since) c.new-3.ensures.mark c.new-3.ensures.passed)
