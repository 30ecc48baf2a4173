use Rattle.std.proofs.Common.{false, rules, sym, true}
use Rattle.hose_plan.proofs.EqualGrounds.{hold_at_books, safe_places}
use Rattle.hose_plan.proofs.holding.grounds_hold.Goals as goal

pub fits_as_before-requires-clause-same : goal.fits_as_before-requires-clause-same
fits_as_before-requires-clause-same c = sym (c.same.ensures.0 c.if-not-same.false)

pub are_safe-requires-clause-places : goal.are_safe-requires-clause-places
are_safe-requires-clause-places c = safe_places c.args.top.now c.args.grounds.now c.requires.made

pub returns-then-not-same-clause-books : goal.returns-then-not-same-clause-books
returns-then-not-same-clause-books c = hold_at_books c.args.top.now c.args.service.now c.args.loads.now c.args.grounds.now false (λ hose earlier are. search rules)

pub returns-then-not-fits_as_before-clause-books : goal.returns-then-not-fits_as_before-clause-books
returns-then-not-fits_as_before-clause-books c = hold_at_books c.args.top.now c.args.service.now c.args.loads.now c.args.grounds.now false (λ hose earlier are. search rules)

pub returns-then-grounds-clause-books : goal.returns-then-grounds-clause-books
returns-then-grounds-clause-books c = hold_at_books c.args.top.now c.args.service.now c.args.loads.now c.args.grounds.now true (λ hose earlier are. search rules)

pub returns-clause-books : goal.returns-clause-books
returns-clause-books c = hold_at_books c.args.top.now c.args.service.now c.args.loads.now c.args.grounds.now c.are_safe.result (λ hose earlier are. search rules)
