use Rattle.std.proofs.Common.{◌≤◌, ℕ, Bool, List, arith, subst, sym}
use Rattle.hose_graph.specs.Network.{Network}
use Rattle.hose_law.specs.Book.{loads_of}
use Rattle.hose_law.specs.Room.{room_of}
use Rattle.hose_law.proofs.Serving.{length-links_in_service}
use Rattle.hose_plan.specs.steps.Planning.{AreMade, AreMadeSince}
use Rattle.hose_book.specs.Ledger.{Ledger}
use Rattle.hose_core.proofs.Earlier.{grounds_by_last}
use Rattle.hose_core.specs.steps.Holding.{HasGroundsSince, IsMade}
use Rattle.hose_core.proofs.TakenQuotes.{holds_beside, holds_there}
use Rattle.hose_core.proofs.taking.still_holds.Goals as goal

pub grounds_hold_since-requires-clause-made : goal.grounds_hold_since-requires-clause-made
grounds_hold_since-requires-clause-made g c =
    let ledger = c.book-book.result.now in
    let quote = c.args.quote.now in
    let changes = ledger.recent.changes in
    let top = c.topology-top.result.now in
    let service = c.service-service.result.now in
    let loads = c.loads-loads.result.now in
    let above : ledger.recent.floor ≤ quote.seen = omega (arith, c.if-seen-floor.true, c.floor.ensures.value) in
    let served = subst (λ (s : List Bool). AreMadeSince ledger.network s (loads_of ledger.network ledger.book) quote.grounds changes quote.seen) (sym c.service-service.ensures.value) (subst (λ (l : Ledger). HasGroundsSince l quote) (sym c.book-book.ensures) c.requires.since above) in
    let beside = subst (λ (l : List ℕ). AreMadeSince ledger.network service l quote.grounds changes quote.seen) (sym c.loads-loads.ensures.value) served in
    let here = subst (λ (n : Network). AreMadeSince n service loads quote.grounds changes quote.seen) (sym c.topology-top.ensures.value) beside in
    grounds_by_last top service loads quote.grounds changes c.changes_since-changes.result.now quote.seen c.changes_since-changes.ensures.all here

pub returns-then-seen-floor-clause-holds : goal.returns-then-seen-floor-clause-holds
returns-then-seen-floor-clause-holds g c =
    let ledger = c.book-book.result.now in
    let quote = c.args.quote.now in
    holds_there ledger (g.K.Books.ledger c.args.books.now) c.book-book.ensures quote c.grounds_hold_since.result (holds_beside c.topology-top.result.now ledger.network c.service-service.result.now c.loads-loads.result.now ledger.book quote c.grounds_hold_since.result c.topology-top.ensures.value c.service-service.ensures.value c.loads-loads.ensures.value c.grounds_hold_since.ensures.books)

pub grounds_hold-requires-clause-made : goal.grounds_hold-requires-clause-made
grounds_hold-requires-clause-made g c =
    let network = c.book-book.result.now.network in
    let quote = c.args.quote.now in
    let made = subst (λ (l : Ledger). IsMade l.network quote) (sym c.book-book.ensures) c.requires.made in
    subst (λ (n : Network). AreMade n quote.grounds) (sym c.topology-top.ensures.value) (quote.hose, room_of network made.0, length-links_in_service network made.0.out, made.1.decision.2)

pub returns-clause-holds : goal.returns-clause-holds
returns-clause-holds g c =
    let ledger = c.book-book.result.now in
    let quote = c.args.quote.now in
    holds_there ledger (g.K.Books.ledger c.args.books.now) c.book-book.ensures quote c.grounds_hold.result (holds_beside c.topology-top.result.now ledger.network c.service-service.result.now c.loads-loads.result.now ledger.book quote c.grounds_hold.result c.topology-top.ensures.value c.service-service.ensures.value c.loads-loads.ensures.value c.grounds_hold.ensures.books)
