-- A claim is on the entry of the quote that is taken, which was made before.
use Rattle.hose_core.proofs.Earlier.{grounds_since}
use Rattle.cases_plans.proofs.cores.tell_taken.Goals as goal

pub claim_take-requires : goal.claim_take-requires
claim_take-requires c = c.requires.made.ranges

pub take_now-requires-clause-made : goal.take_now-requires-clause-made
take_now-requires-clause-made c = (c.requires.book, c.requires.made)

pub take_now-requires-clause-since : goal.take_now-requires-clause-since
take_now-requires-clause-since c = grounds_since c.args.books.now.book c.args.quote.now c.requires
