use Rattle.std.proofs.Common.{Bool, ℕ, subst, sym}
use Rattle.hose_graph.specs.Limits.{operator}
use Rattle.hose_graph.specs.Network.{IsLinkOf}
use Rattle.hose_law.specs.steps.Service.{service_entry}
use Rattle.hose_core.specs.steps.Service.{service_command}
use Rattle.hose_core.specs.steps.Stepping.{StepsAtEach}
use Rattle.hose_core.proofs.ServiceEntries.{as_ordered}
use Rattle.hose_core.proofs.service.service_now.Goals as goal

pub enter_order-requires-clause-link : goal.enter_order-requires-clause-link
enter_order-requires-clause-link g c =
    let claim = c.requires.claim in
    subst (IsLinkOf (g.K.Books.ledger c.args.books.now).network) (sym claim.2.of) claim.3

pub enter_order-requires-clause-ready : goal.enter_order-requires-clause-ready
enter_order-requires-clause-ready g c =
    let claim = c.requires.claim in
    subst (g.K.Books.fits c.args.claim.ready) (sym c.entry-entry.ensures)
    (as_ordered (λ (down : Bool) (link : ℕ). g.K.Books.fits c.args.claim.ready (service_entry down link)) c.args.claim.down claim.0 c.args.claim.link claim.1 (sym claim.2.kind) (sym claim.2.of) claim.2.ready)

pub returns-clause-step : goal.returns-clause-step
returns-clause-step g c = λ down link claim.
    as_ordered (λ (d : Bool) (l : ℕ). StepsAtEach g.K.Books c.args.books.now c.enter_order.new.books operator (service_command d l) c.enter_order.result) down c.args.claim.down link c.args.claim.link claim.kind claim.of c.enter_order.ensures.step
