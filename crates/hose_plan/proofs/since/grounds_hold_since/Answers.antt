use Rattle.std.proofs.Common.{false, rules, true}
use Rattle.hose_plan.proofs.EqualGrounds.{hold_at_books, safe_places, service_places}
use Rattle.hose_plan.proofs.NamedLinks.{made_before, others_settled, served_before}
use Rattle.hose_plan.proofs.since.grounds_hold_since.Goals as goal

pub is_service_since-requires-clause-served : goal.is_service_since-requires-clause-served
is_service_since-requires-clause-served c = service_places c.args.top.now c.args.grounds.now (made_before c.args.top.now c.args.service.now c.args.loads.now c.args.changes.now c.args.seen c.args.grounds.now c.requires.made)

pub is_service_since-requires-clause-others : goal.is_service_since-requires-clause-others
is_service_since-requires-clause-others c = served_before c.args.top.now c.args.service.now c.args.loads.now c.args.changes.now c.args.seen c.args.grounds.now c.requires.made

pub fits_as_before-requires-clause-made : goal.fits_as_before-requires-clause-made
fits_as_before-requires-clause-made c = made_before c.args.top.now c.args.service.now c.args.loads.now c.args.changes.now c.args.seen c.args.grounds.now c.requires.made

pub are_safe_since-requires-clause-places : goal.are_safe_since-requires-clause-places
are_safe_since-requires-clause-places c = safe_places c.args.top.now c.args.grounds.now (made_before c.args.top.now c.args.service.now c.args.loads.now c.args.changes.now c.args.seen c.args.grounds.now c.requires.made)

pub are_safe_since-requires-clause-others : goal.are_safe_since-requires-clause-others
are_safe_since-requires-clause-others c = others_settled c.args.top.now c.args.service.now c.args.loads.now c.args.changes.now c.args.seen c.args.grounds.now c.requires.made c.if-grounds.false

pub returns-then-not-is_service_since-clause-books : goal.returns-then-not-is_service_since-clause-books
returns-then-not-is_service_since-clause-books c = hold_at_books c.args.top.now c.args.service.now c.args.loads.now c.args.grounds.now false (λ hose earlier are. search rules)

pub returns-then-not-fits_as_before-clause-books : goal.returns-then-not-fits_as_before-clause-books
returns-then-not-fits_as_before-clause-books c = hold_at_books c.args.top.now c.args.service.now c.args.loads.now c.args.grounds.now false (λ hose earlier are. search rules)

pub returns-then-grounds-clause-books : goal.returns-then-grounds-clause-books
returns-then-grounds-clause-books c = hold_at_books c.args.top.now c.args.service.now c.args.loads.now c.args.grounds.now true (λ hose earlier are. search rules)

pub returns-clause-books : goal.returns-clause-books
returns-clause-books c = hold_at_books c.args.top.now c.args.service.now c.args.loads.now c.args.grounds.now c.are_safe_since.result (λ hose earlier are. search rules)
