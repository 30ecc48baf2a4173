use Rattle.std.proofs.Common.{rules}
use Rattle.hose_io.proofs.Gathering.{IsAdded-next}
use Rattle.hose_io.proofs.gather.Gather.add_numbered.Goals as goal

pub returns : goal.returns
returns g c = IsAdded-next c.add.ensures (search rules)
