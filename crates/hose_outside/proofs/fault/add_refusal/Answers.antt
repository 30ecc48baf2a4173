use Rattle.hose_io.proofs.Gathering.{IsAdded-next}
use Rattle.hose_outside.proofs.fault.add_refusal.Goals as goal

pub returns-in-Word : goal.returns-in-Word
returns-in-Word g c = rw c.in-Word.is (IsAdded-next (IsAdded-next c.add_number.ensures c.add.ensures) c.add_number-in-Word.ensures)
