use Rattle.std.proofs.Common.{◌∙◌, ap}
use Rattle.hose_law.specs.Book.{Book}
use Rattle.hose_law.proofs.Epochs.{epoch_of}
use Rattle.hose_store.proofs.replay.Replay.epoch.Goals as goal

pub returns-clause-given : goal.returns-clause-given
returns-clause-given g c = λ was network entries replaying. c.epoch.ensures.value ∙ ap (λ (book : Book). book.epoch) replaying.given.book ∙ epoch_of entries
