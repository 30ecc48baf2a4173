use Rattle.std.proofs.Common.{codes}
use Rattle.hose_io.proofs.Gathering.{IsAdded-next, IsAdded-two, IsPut-finished}
use Rattle.hose_copying.proofs.move_end.put_moved.Goals as goal

pub returns : goal.returns
returns g c =
    let line = IsAdded-next (IsAdded-two (codes " live ") _ c.add_numbered.ensures c.add_numbered-2.ensures) c.add.ensures in
    IsPut-finished c.finish.result (rw c.new-gather.ensures at line) c.finish.ensures
