use Rattle.hose_law.specs.History.{IsDecidedAt}
use Rattle.hose_offline.specs.Talking.{IsAskedBy}
use Rattle.hose_outside.proofs.Journals.{leaves_for}
use Rattle.hose_offline.proofs.answering.core_over.Goals as goal

pub returns-clause-leaves : goal.returns-clause-leaves
returns-clause-leaves g c = λ lines replies old network opens. leaves_for g.D.Disk g.met.D.Disk.counts_now g.met.D.Disk.untold g.met.D.Disk.only_now IsDecidedAt (IsAskedBy opens.opened.history lines replies) network old c.args.store opens
