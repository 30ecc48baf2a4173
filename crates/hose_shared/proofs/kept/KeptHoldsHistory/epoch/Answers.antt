use Rattle.std.proofs.Common.{◌∙◌, ap, arith}
use Rattle.hose_law.specs.Book.{Book}
use Rattle.hose_book.specs.Ledger.{Ledger}
use Rattle.hose_law.proofs.Epochs.{epoch_of}
use Rattle.hose_shared.proofs.kept.KeptHoldsHistory.epoch.Goals as goal

pub returns : goal.returns
returns g c = λ origin history tries stood.
    let is = c.epoch.ensures.value ∙ ap (λ (l : Ledger). l.book.epoch) c.book.ensures ∙ ap (λ (b : Book). b.epoch) stood.book ∙ epoch_of history in
    let first = stood.epoch in omega arith
