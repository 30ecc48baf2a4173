use Rattle.std.proofs.Common.{◌∙◌, ap}
use Rattle.hose_law.specs.Book.{loads_of}
use Rattle.hose_law.proofs.Rooms.{loads_of-from}
use Rattle.hose_book.specs.Ledger.{Ledger}
use Rattle.hose_book.proofs.Book.loads.Goals as goal

pub returns-clause-value : goal.returns-clause-value
returns-clause-value c =
    let network = c.self.inside.topology in
    let kept = c.self.invariant.1 in
    c.deref.ensures.value ∙ loads_of-from network (record { epoch = c.self.inside.epoch; live = c.self.inside.live; out = c.self.inside.served.out }) c.self.inside.loads.items kept.places kept.each ∙ ap (λ (s : Ledger). loads_of s.network s.book) c.self.view_is
