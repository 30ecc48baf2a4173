use Rattle.std.proofs.Common.{sym}
use Rattle.hose_io.proofs.Gathering.{IsAdded-next}
use Rattle.hose_offline.proofs.sheet_answer.add_answer.Goals as goal

pub returns-in-NoPlan : goal.returns-in-NoPlan
returns-in-NoPlan g c =
    rw (c.in-NoPlan.is, sym c.bytes.ensures.value) (IsAdded-next (IsAdded-next c.add.ensures c.add-in-NoPlan.ensures) c.add-in-NoPlan-2.ensures)

pub returns-in-Bad : goal.returns-in-Bad
returns-in-Bad g c = rw c.in-Bad.is (IsAdded-next c.add-in-Bad.ensures c.add_number.ensures)
