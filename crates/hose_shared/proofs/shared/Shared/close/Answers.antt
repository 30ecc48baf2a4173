use Rattle.std.proofs.Common.{subst, sym}
use Rattle.hose_graph.specs.Network.{Network}
use Rattle.hose_book.specs.steps.GoingOn.{GoesOn}
use Rattle.hose_store.specs.steps.Commit.{store_books}
use Rattle.hose_store.proofs.Standing.{run_stands}
use Rattle.hose_shared.specs.Trying.{IsTried}
use Rattle.hose_shared.proofs.shared.Shared.close.Goals as goal

pub returns-clause-history : goal.returns-clause-history
returns-clause-history g c =
    let told = c.close.ensures.history in
    let whole = told.2 in
    let stood = whole.stood in
    record {
      history = told.0;
      tries = told.1;
      whole = record { stood = stood; since = whole.since; seen = whole.seen; own = whole.own; tried = whole.tried };
      stands = λ beginning was since network begun.
          run_stands g.D.Disk (IsTried told.0 told.1) (g.D.Disk.may_leave was) beginning c.args.pass.origin.since stood.first told.0 c.close.result.store (begun stood.first stood.begins)
          (subst (λ (n : Network). GoesOn (store_books g.D.Disk) (IsTried told.0 told.1) n c.args.pass.origin.since stood.first told.0 c.close.result.store) (sym network) stood.goes_on);
    }
