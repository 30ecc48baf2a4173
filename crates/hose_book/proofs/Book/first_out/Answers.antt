use Rattle.std.proofs.Common.{length, ap, subst, arith}
use Rattle.hose_law.specs.Room.{first_links}
use Rattle.hose_book.specs.Ledger.{Ledger}
use Rattle.hose_book.specs.steps.Refusal.{AreInService}
use Rattle.hose_book.proofs.Served.{all_served}
use Rattle.hose_book.proofs.Book.first_out.Goals as goal

pub returns-then-are_all-clause-none : goal.returns-then-are_all-clause-none
returns-then-are_all-clause-none c =
    subst (λ (s : Ledger). AreInService (first_links s.network s.book) c.args.amounts.now) c.self.view_is
    (all_served c.self.inside.topology c.self.inside.served.out c.args.amounts.now (c.are_all.ensures c.if-are_all.true)
    (λ k d inside. omega (arith, c.requires k d inside, ap (λ (s : Ledger). length s.network.links) c.self.view_is)))
