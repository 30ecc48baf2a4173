use Rattle.std.proofs.Common.{refl}
use Rattle.hose_graph.specs.declared.command.Command.TheVariants.{Release}
use Rattle.hose_graph.specs.declared.command.Reply.TheVariants.{Memory}
use Rattle.hose_core.proofs.Earlier.{kept_on, table_on}
use Rattle.hose_core.proofs.SteppedOn.{keeps_answered, memory_on, stays_answered}
use Rattle.hose_core.proofs.stepping.Core.release.Goals as goal

pub returns-in_default : goal.returns-in_default
returns-in_default g c =
    let customer = c.args.customer.now in
    let asked = Release c.args.id in
    stays_answered g.K.Books c.args.self.now customer asked Memory (λ epoch history holdings fits. memory_on g.K.Books c.args.self.now epoch history holdings customer fits asked tt) refl tt

pub invariant_of-self : goal.invariant_of-self
invariant_of-self g c =
    let ledger = g.K.Books.ledger c.self.inside.books in
    let goes = c.release_now.ensures.answered.ledger in
    (λ customer. kept_on ledger _ goes _ (c.self.invariant.0 customer), table_on ledger _ goes c.self.inside.table c.self.invariant.1)

pub returns : goal.returns
returns g c =
    let customer = c.args.customer.now in
    keeps_answered customer (Release c.args.id) (λ changes. changes) c.self.view_is c.release_now.ensures.answered (c.release_now.ensures.step customer c.args.id c.in-Ok.ensures)
