use Rattle.std.proofs.Common.{◌∙◌, ap, sym, length}
use Rattle.hose_law.specs.Book.{Book}
use Rattle.hose_book.specs.Ledger.{Ledger}
use Rattle.hose_turn.specs.steps.Held.{holder}
use Rattle.hose_turn.specs.Known.{Known}
use Rattle.hose_law.proofs.Epochs.{epoch_of}
use Rattle.hose_shared.proofs.Passes.{locked_more, unlocked_more}
use Rattle.hose_shared.proofs.shared.Shared.now.Goals as goal

pub returns-clause-epoch : goal.returns-clause-epoch
returns-clause-epoch g c =
    let seen = (holder c.lock-held.result).seen in
    c.epoch-epoch.ensures.value ∙ ap (λ (l : Ledger). l.book.epoch) (c.book.ensures ∙ ap (λ (k : _). k.store.ledger) c.value.ensures) ∙ ap (λ (b : Book). b.epoch) c.lock-held.ensures.stands.book ∙ epoch_of seen
    ∙ ap (λ (k : Known). length k.seen) (sym c.unlock.ensures.passed)

pub returns-clause-more : goal.returns-clause-more
returns-clause-more g c =
    let known = holder c.lock-held.result in
    unlocked_more c.args.pass known c.unlock.result _ (locked_more c.args.pass known c.lock-held.ensures.kept c.lock-held.ensures.seen c.lock-held.ensures.places) c.unlock.ensures.passed
