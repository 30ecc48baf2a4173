use Rattle.std.specs.Prelude.{⊤}
use Rattle.hose_store.proofs.Standing.{closed_left}
use Rattle.hose_store.proofs.laws.law_closed.Goals as goal

pub returns : goal.returns
returns g c = λ beginning was left history store result stood closes.
    closed_left g.D.Disk g.P.Premises.kind (g.D.Disk.may_leave was) beginning ⊤ store left history result (g.met.D.Disk.counts_now left) stood closes
