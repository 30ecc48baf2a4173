use Rattle.std.proofs.Common.{Some, ap}
use Rattle.hose_core.specs.steps.Bound.{HasNewest, TellsNewest, is_stale}
use Rattle.hose_core.proofs.Claimed.{claimed_admits, not_stale, stale_differs}
use Rattle.hose_core.proofs.Decided.{enters_newest, newest_admits, newest_not_memory}
use Rattle.hose_core.proofs.admitting.admit_claimed_now.Goals as goal

pub returns-in-Some-clause-admits : goal.returns-in-Some-clause-admits
returns-in-Some-clause-admits g c =
    let old = c.args.books.now in
    let customer = c.args.customer.now in
    let quote = c.args.quote.now in
    let told : TellsNewest (g.K.Books.ledger old).book customer c.args.known c.in-Some.told = rw c.in-Some.is at c.newest_now.ensures in
    let enters = enters_newest g.K.Books old customer c.args.known quote.hose quote.amounts quote.cost c.in-Some.told told c.args.claim.entry c.requires.claim.entry in
    newest_admits g.K.Books old customer c.args.known quote.hose c.in-Some.told told (Some c.args.claim.entry) enters

pub returns-in-Some-clause-memory : goal.returns-in-Some-clause-memory
returns-in-Some-clause-memory g c =
    let customer = c.args.customer.now in
    let book = (g.K.Books.ledger c.args.books.now).book in
    let here : TellsNewest book customer c.args.known c.in-Some.told = rw c.in-Some.is at c.newest_now.ensures in
    newest_not_memory book customer c.args.known c.in-Some.told here

pub take_now-requires-clause-claim : goal.take_now-requires-clause-claim
take_now-requires-clause-claim g c = (c.args.customer.now, c.requires.claim)

pub returns-in-Stale-clause-admits : goal.returns-in-Stale-clause-admits
returns-in-Stale-clause-admits g c =
    let called = c.take_now.ensures in
    let made = c.requires.made in
    let takes = called.takes c.args.customer.now made.0 c.requires.claim made.1 in
    (stale_differs g.K.Books c.args.books.now _ c.args.customer.now c.args.quote.now made.0 c.take_now.result takes (ap is_stale c.in-Stale.is)).0

pub returns-in-Stale-clause-stale : goal.returns-in-Stale-clause-stale
returns-in-Stale-clause-stale g c = λ none earlier made.
    let takes = c.take_now.ensures.takes c.args.customer.now earlier c.requires.claim made in
    (stale_differs g.K.Books c.args.books.now _ c.args.customer.now c.args.quote.now earlier c.take_now.result takes (ap is_stale c.in-Stale.is)).1

pub returns-in-Stale-clause-newest : goal.returns-in-Stale-clause-newest
returns-in-Stale-clause-newest g c = λ none. rw c.in_default.is at c.newest_now.ensures

pub returns-in_default-take_now : goal.returns-in_default-take_now
returns-in_default-take_now g c =
    let customer = c.args.customer.now in
    let quote = c.args.quote.now in
    let newest : HasNewest (g.K.Books.ledger c.args.books.now).book customer c.args.known = rw c.in_default.is at c.newest_now.ensures in
    let called = c.take_now.ensures in
    let made = c.requires.made in
    let takes = called.takes customer made.0 c.requires.claim made.1 in
    let fresh = not_stale c.take_now.result c.in_default-take_now.not-Stale in
    record {
      admits = claimed_admits g.K.Books c.args.books.now _ customer quote made.0 c.take_now.result takes c.args.known c.args.claim newest c.requires.claim fresh called.cheapest called.told called.answered;
      stale = λ none. absurd (cc none);
      newest = λ none. absurd (cc none);
      memory = called.memory;
    }
