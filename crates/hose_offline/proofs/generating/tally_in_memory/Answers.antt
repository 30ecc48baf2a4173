use Rattle.std.proofs.Common.{◌∙◌, [], sym, ap, subst}
use Rattle.std.specs.Prelude.{IfOk}
use Rattle.std.proofs.lemmas.Result.{IfOk-weaker}
use Rattle.std.specs.List.{All}
use Rattle.hose_graph.specs.steps.Naming.{AsksOf}
use Rattle.hose_graph.specs.Network.{IsNetwork, Network}
use Rattle.hose_book.specs.Ledger.{Ledger}
use Rattle.hose_book.specs.declared.books.Plain.{Plain}
use Rattle.hose_gen.specs.Generated.{Order}
use Rattle.hose_offline.specs.steps.Generating.{IsTallyOf}
use Rattle.hose_offline.proofs.generating.tally_in_memory.Goals as goal

pub tally_orders-requires-clause-asks : goal.tally_orders-requires-clause-asks
tally_orders-requires-clause-asks c =
    let network = ap (λ (p : Plain). p.book.network) c.with_rows-core.ensures.books ∙ ap (λ (l : Ledger). l.network) c.in_ok-book.ensures.value in
    subst (λ (n : Network). All (λ (order : Order). AsksOf n order.1) c.args.made.script.items) (sym network) c.requires

pub tally_orders-requires-clause-fits : goal.tally_orders-requires-clause-fits
tally_orders-requires-clause-fits c = c.with_rows-core.ensures.fits 0 [] (ap (λ (l : Ledger). l.book) c.in_ok-book.ensures.value)

pub returns-clause-tally : goal.returns-clause-tally
returns-clause-tally c =
    let network = ap (λ (p : Plain). p.book.network) c.with_rows-core.ensures.books ∙ ap (λ (l : Ledger). l.network) c.in_ok-book.ensures.value in
    subst (λ (n : Network). IfOk c.tally_orders.result (IsTallyOf n c.args.made.script.items)) network c.tally_orders.ensures.tally

-- the call that lends the book's network tells that it is one
pub returns-clause-network : goal.returns-clause-network
returns-clause-network c =
    let network = subst IsNetwork (c.topology.ensures.value ∙ ap (λ (l : Ledger). l.network) c.in_ok-book.ensures.value) c.topology.ensures.network in
    IfOk-weaker c.tally_orders.result _ _ (λ _ _. network) (returns-clause-tally c)
