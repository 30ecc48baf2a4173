use Rattle.std.specs.Prelude.{⊤}
use Rattle.hose_shared.specs.Trying.{IsTried}
use Rattle.hose_store.proofs.Standing.{closed_left}
use Rattle.hosed.proofs.server.close_store.Goals as goal

pub returns-clause-closed : goal.returns-clause-closed
returns-clause-closed g c = record {
  call = c.close.ensures.call;
  leaves = λ was beginning history tries stands. closed_left g.D.Disk (IsTried history tries) (g.D.Disk.may_leave was) beginning ⊤ c.args.store c.close.result.1 history c.close.result.0 (g.met.D.Disk.counts_now c.close.result.1) stands c.close.ensures.closes;
}
