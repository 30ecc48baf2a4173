use Rattle.hose_io.proofs.Gathering.{IsPut-finished}
use Rattle.hose_copying.proofs.move_end.put_numbers.Goals as goal

pub returns : goal.returns
returns g c = IsPut-finished c.finish.result (rw c.new-gather.ensures at c.add_numbers.ensures) c.finish.ensures
