use Rattle.hose_io.proofs.Gathering.{IsAdded-next}
use Rattle.hose_cert.proofs.writing.add_block.Goals as goal

pub returns : goal.returns
returns g c =
    let first = IsAdded-next (rw c.from.ensures at c.add_numbered.ensures) (rw c.from-2.ensures at c.add_numbered-2.ensures) in
    IsAdded-next (IsAdded-next first c.add_numbers.ensures) c.add.ensures
