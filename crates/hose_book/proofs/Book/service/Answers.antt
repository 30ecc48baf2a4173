use Rattle.std.proofs.Common.{◌∙◌, length, ap}
use Rattle.hose_law.proofs.Serving.{length-links_in_service}
use Rattle.hose_book.specs.Ledger.{Ledger}
use Rattle.hose_book.proofs.Book.service.Goals as goal

pub returns-clause-places : goal.returns-clause-places
returns-clause-places c =
    ap length (ap (λ (s : _). s.served.links) c.self-inside.view_is ∙ c.self.invariant.7) ∙ length-links_in_service c.self.inside.topology c.self.inside.served.out
    ∙ ap (λ (s : Ledger). length s.network.links) c.self.view_is
