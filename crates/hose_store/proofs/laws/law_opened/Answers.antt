use Rattle.hose_store.proofs.Standing.{opened_stands}
use Rattle.hose_store.proofs.laws.law_opened.Goals as goal

pub returns : goal.returns
returns g c = λ beginning was old store opened same run kept tells later had.
    opened_stands g.D.Disk g.P.Premises.kind (g.D.Disk.may_leave was) beginning old store opened same run kept tells (g.met.D.Disk.counts_now old) (g.met.D.Disk.untold store.journal.disk) later had
