-- The quote is as old as the book at first, and then older by an entry.
use Rattle.hose_core.proofs.Earlier.{before_on, made_now}
use Rattle.cases_plans.proofs.cores.tell_take.Goals as goal

pub tell_taken-requires : goal.tell_taken-requires
tell_taken-requires c =
    let quote = c.in_ok-quote.quote in
    before_on _ _ c.in_ok-admitted.ensures.ledger quote (made_now _ quote c.in_ok-quote.ensures)
