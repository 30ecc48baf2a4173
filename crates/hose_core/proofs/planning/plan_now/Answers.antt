use Rattle.std.proofs.Common.{subst}
use Rattle.hose_graph.specs.Network.{IsNetwork}
use Rattle.hose_book.specs.Ledger.{Ledger}
use Rattle.hose_core.proofs.Decided.{planned_there}
use Rattle.hose_core.proofs.planning.plan_now.Goals as goal

pub returns-clause-planned : goal.returns-clause-planned
returns-clause-planned g c = planned_there c.book-book.result.now (g.K.Books.ledger c.args.books.now) c.book-book.ensures c.topology-top.result.now c.service-service.result.now c.loads-loads.result.now c.epoch.result c.args.hose c.plan_beside.result
    c.topology-top.ensures.value c.service-service.ensures.value c.loads-loads.ensures.value c.epoch.ensures.value c.plan_beside.ensures.planned

pub returns-clause-network : goal.returns-clause-network
returns-clause-network g c = subst (λ (l : Ledger). IsNetwork l.network) c.book-book.ensures (subst IsNetwork c.topology-top.ensures.value c.plan_beside.ensures.network)
