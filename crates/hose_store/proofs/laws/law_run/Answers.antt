use Rattle.hose_store.proofs.Standing.{run_stands}
use Rattle.hose_store.proofs.laws.law_run.Goals as goal

pub returns : goal.returns
returns g c = λ beginning was first last old new stood run. run_stands g.D.Disk g.P.Premises.kind (g.D.Disk.may_leave was) beginning first old last new stood run
