use Rattle.std.proofs.Common.{codes}
use Rattle.hose_io.proofs.Gathering.{IsAdded-next, IsAdded-two}
use Rattle.hose_audit.proofs.Numbers.{load_told}
use Rattle.hose_audit.proofs.lines.add_link_line.Goals as goal

pub returns : goal.returns
returns g c =
    let ledger = c.args.book.now in
    let load = load_told ledger.network ledger.book c.loads.result.now c.args.number c.loads.ensures.value c.requires in
    let link = IsAdded-next (rw c.from.ensures at c.add_numbered.ensures) (rw c.topology-top.ensures.value at c.add_link.ensures) in
    let loaded = IsAdded-two (codes " load ") _ link (rw load at c.add_numbered-2.ensures) in
    let there = rw c.topology-top.ensures.value at c.link.ensures.value in
    rw there (IsAdded-next loaded c.add.ensures)
