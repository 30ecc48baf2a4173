use Rattle.std.proofs.Common.{subst}
use Rattle.std.proofs.lemmas.Result.{on_ok_weaker}
use Rattle.hose_store.specs.steps.Commit.{Closes}
use Rattle.hose_store.specs.steps.Store.{KeptStore}
use Rattle.hose_store.proofs.Commits.{closing_amid, closing_images}
use Rattle.hose_store.proofs.store.Store.close.Goals as goal

pub returns-clause-closes : goal.returns-clause-closes
returns-clause-closes g c =
    let result = c.settle_or_sync-result.result.0 in
    let new = c.settle_or_sync-result.result.1 in
    let inside : KeptStore g.row.D.Denot = record { ledger = c.self.inside.book; journal = c.self.inside.journal } in
    subst (λ (old : KeptStore g.row.D.Denot). Closes g.D.Disk old new result) c.self.view_is (record {
      any_moment = closing_amid g.D.Disk inside new c.settle_or_sync-result.ensures.any_moment;
      closed = on_ok_weaker result (closing_images g.D.Disk inside new) c.settle_or_sync-result.ensures.settled;
      tells = c.settle_or_sync-result.ensures.tells;
    })
