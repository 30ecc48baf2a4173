use Rattle.hose_law.proofs.Tracked.{loads_stay, service_stays}
use Rattle.hose_law.proofs.law_tracks.Goals as goal

pub returns-clause-loads : goal.returns-clause-loads
returns-clause-loads c = loads_stay c.args.e0 c.args.h.now (record { floor = c.args.floor; changes = c.args.changes.now }) c.requires

pub returns-clause-service : goal.returns-clause-service
returns-clause-service c = service_stays c.args.e0 c.args.h.now (record { floor = c.args.floor; changes = c.args.changes.now }) c.requires
