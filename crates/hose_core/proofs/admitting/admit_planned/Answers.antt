use Rattle.std.proofs.Common.{◌∙◌, List, ap, sym, ℕ, subst}
use Rattle.hose_law.specs.Plan.{plan_cost}
use Rattle.hose_core.specs.steps.Stepping.{TellsPlan}
use Rattle.hose_core.proofs.Decided.{admit_step}
use Rattle.hose_core.proofs.PlannedEntries.{admits_cheapest, made_entry}
use Rattle.hose_core.proofs.admitting.admit_planned.Goals as goal

pub enter_planned-requires-clause-planned : goal.enter_planned-requires-clause-planned
enter_planned-requires-clause-planned g c =
    let customer = c.args.customer.now in
    let quote = c.args.quote in
    (customer, quote.hose, made_entry (g.K.Books.ledger c.args.books.now) c.requires.network customer quote _ c.in-Ok.ensures c.requires.made)

pub enter_planned-requires-clause-cost : goal.enter_planned-requires-clause-cost
enter_planned-requires-clause-cost g c = c.requires.made.decision.1 ∙ ap (plan_cost (g.K.Books.ledger c.args.books.now).network) (sym c.in-Ok.ensures)

pub returns : goal.returns
returns g c =
    let old = c.args.books.now in
    let new = c.enter_planned.new.books in
    let customer = c.args.customer.now in
    let quote = c.args.quote in
    let answer = c.enter_planned.result in
    let entered = c.enter_planned.ensures in
    let answers = entered.answers customer quote.hose (made_entry (g.K.Books.ledger old) c.requires.network customer quote _ c.in-Ok.ensures c.requires.made) in
    record {
      step = λ epoch history held at. admit_step g.K.Books old new epoch history customer held c.args.known quote.hose at c.requires.newest answer answers;
      cheapest = admits_cheapest g.K.Books old new customer quote.hose c.requires.network answer answers;
      answered = entered.answered;
      none = tt;
      enters = record {
        plan = quote.amounts;
        cost = quote.cost;
        tells = subst (λ (plan : List (ℕ × ℕ)). TellsPlan plan quote.cost answer) c.in-Ok.ensures entered.told;
        enters = c.of-entered.ensures;
      };
    }
