use Rattle.std.proofs.Common.{◌<◌, ◌≤◌, [], length, arith}
use Rattle.hose_io.proofs.Gathering.{IsAdded-item}
use Rattle.hose_audit.specs.Audit.{load_line, link_numbers}
use Rattle.hose_audit.proofs.Numbers.{number_at, number_inside, numbers_taken}
use Rattle.hose_audit.proofs.lines.add_links.Goals as goal

pub loop-number-preserved : goal.loop-number-preserved
loop-number-preserved g c =
    let ledger = c.args.book.now in
    let links = length ledger.network.links in
    let number = c.loop-number.number in
    let below : number < links = omega (arith, c.loop-number-test.true, rw c.topology.ensures.value at c.links-number-end.ensures.count) in
    IsAdded-item [] (load_line ledger.network ledger.book) (link_numbers ledger.network) number 0 (number_inside links number below) c.loop-number.invariant
    (rw (number_at links number below) c.add_link_line.ensures)

pub returns : goal.returns
returns g c =
    let links = length c.args.book.now.network.links in
    let past : links ≤ c.loop-number.number = omega (arith, c.loop-number-test.false, rw c.topology.ensures.value at c.links-number-end.ensures.count) in
    rw (numbers_taken links c.loop-number.number past) at c.loop-number.invariant
