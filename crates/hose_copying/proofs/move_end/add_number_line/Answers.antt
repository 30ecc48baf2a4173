use Rattle.std.proofs.Common.{codes}
use Rattle.hose_io.proofs.Gathering.{IsAdded-next, IsAdded-two}
use Rattle.hose_copying.proofs.move_end.add_number_line.Goals as goal

pub returns : goal.returns
returns g c = IsAdded-next (IsAdded-two (codes " is ") _ c.add_numbered.ensures c.add_numbered-2.ensures) c.add.ensures
