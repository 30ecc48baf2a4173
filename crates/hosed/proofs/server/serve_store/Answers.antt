use Rattle.std.proofs.Common.{ap, refl, subst, sym, rules}
use Rattle.hose_turn.specs.declared.view.Origin.{Origin}
use Rattle.hose_crew.specs.Crew.{AreServed}
use Rattle.hosed.specs.ServerDoor.{seen_of}
use Rattle.hosed.specs.steps.ServerDoor.{OpensAt}
use Rattle.hosed.proofs.Sharing.{closed_at_once, gave_up, given_up, is_opening, just_opened, opens_at, serves_shared, stays_shared}
use Rattle.hosed.proofs.server.serve_store.Goals as goal

pub returns-in_default-clause-serves : goal.returns-in_default-clause-serves
returns-in_default-clause-serves g c =
    let asked = c.requires.opened in
    let network = c.args.opening.store.ledger.network in
    let was = c.args.opening.was.value in
    let up = c.give_up.ensures in
    given_up network _ _ _ c.give_up.result.came _ up.came
    (closed_at_once g.D.Disk was c.give_up.result.disk network up.closed.0 asked.just.opened.history c.args.opening.store (just_opened g.D.Disk was network c.args.opening.store asked.just) up.closed.1)

pub returns-in_default-clause-speaks : goal.returns-in_default-clause-speaks
returns-in_default-clause-speaks g c = rw (c.give_up.ensures.came, c.give_up.ensures.door) (refl, refl)

pub returns-in-Err-clause-serves : goal.returns-in-Err-clause-serves
returns-in-Err-clause-serves g c =
    let asked = c.requires.opened in
    let network = c.args.opening.store.ledger.network in
    let was = c.args.opening.was.value in
    let up = c.give_up-in-Err.ensures in
    given_up network _ _ _ c.give_up-in-Err.result.came _ up.came
    (closed_at_once g.D.Disk was c.give_up-in-Err.result.disk network up.closed.0 asked.just.opened.history c.in-Err.store (rw c.in-Err.ensures.back (just_opened g.D.Disk was network c.args.opening.store asked.just)) up.closed.1)

pub returns-in-Err-clause-speaks : goal.returns-in-Err-clause-speaks
returns-in-Err-clause-speaks g c = rw (c.give_up-in-Err.ensures.came, c.give_up-in-Err.ensures.door) (refl, refl)

pub returns-in-Err-announce-clause-serves : goal.returns-in-Err-announce-clause-serves
returns-in-Err-announce-clause-serves g c =
    let network = c.args.opening.store.ledger.network in
    let was = c.args.opening.was.value in
    let up = c.give_up-in-Err-announce.ensures in
    let made = c.in-Ok-share.ensures in
    given_up network _ _ _ c.give_up-in-Err-announce.result.came _ up.came (stays_shared g.D.Disk was c.give_up-in-Err-announce.result.disk network up.closed.0
    _ (λ since store opens. is_opening g.D.Disk g.N.AtOpening.opened was c.args.opening.store c.requires.opened since store opens) c.in-Ok-share.made.1 made.stands.first c.close.result (search rules)
    made.stands.begins c.close.ensures.history c.close.ensures.faults up.closed.1 (search rules) (search rules))

pub returns-in-Err-announce-clause-speaks : goal.returns-in-Err-announce-clause-speaks
returns-in-Err-announce-clause-speaks g c =
    let given = c.give_up-in-Err-announce in
    gave_up g.O.Sink c.args.request.port _ _ _ _ _ given.result.came c.in-Err-announce.why given.ensures.came
    (ap (λ (door : _). seen_of (g.L.Door.frame door) (g.L.Door.told door) (g.L.Door.opened_at door)) given.ensures.door)
    (rw c.in-Err-announce.is at c.announce.ensures.announced)

pub returns-clause-serves : goal.returns-clause-serves
returns-clause-serves g c =
    let network = c.args.opening.store.ledger.network in
    let was = c.args.opening.was.value in
    let closed = c.close_store-closing in
    let made = c.in-Ok-share.ensures in
    let served = c.serve-accepting in
    serves_shared g.D.Disk was closed.result.1 network closed.result.0
    _ (λ since store opens. is_opening g.D.Disk g.N.AtOpening.opened was c.args.opening.store c.requires.opened since store opens) served.result.pass made.stands.first c.close-2.result (search rules)
    (subst (λ (origin : Origin). OpensAt g.D.Disk g.N.AtOpening.opened origin.since made.stands.first) (sym served.ensures.same.origin) made.stands.begins) c.close-2.ensures.history c.close-2.ensures.faults closed.ensures.closed
    (AreServed (g.L.Door.told c.args.door) (g.L.Door.told served.result.door) c.args.request.connections) closed.result.2 served.result.accepting (search rules)
    (rw c.in-Ok.ensures.crew at (rw c.announce.ensures.told at served.ensures.served))

pub share-requires-clause-stands : goal.share-requires-clause-stands
share-requires-clause-stands g c =
    let asked = c.requires.opened in
    let was = c.args.opening.was.value in
    let store = c.args.opening.store in
    let since = asked.just.opened.history in (
      since,
      opens_at g.D.Disk g.N.AtOpening.opened was store asked since store (just_opened g.D.Disk was store.ledger.network store asked.just),
      asked.just.stands.has.book,
      asked.just.stands.has.tracks,
    )
