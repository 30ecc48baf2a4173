use Rattle.std.proofs.Common.{◌∙◌, refl, ap}
use Rattle.hose_book.specs.Ledger.{Ledger}
use Rattle.hose_book.specs.declared.books.Plain.{Plain}
use Rattle.hose_offline.proofs.OrdersAnswered.{tally_told}
use Rattle.hose_offline.proofs.generating.tally_orders.Goals as goal

pub returns-clause-tally : goal.returns-clause-tally
returns-clause-tally g c =
    let epoch = c.epoch.ensures.value ∙ ap (λ (l : Ledger). l.book.epoch) (c.book.ensures ∙ ap (λ (p : Plain). p.book) c.books.ensures) in
    tally_told c.args.core.now.books.book.network c.args.core.now c.answer_orders.new.core c.args.orders.items c.in_ok-tally.tally c.epoch.result (c.in_ok-tally.ensures.answered c.requires.fits) refl epoch
