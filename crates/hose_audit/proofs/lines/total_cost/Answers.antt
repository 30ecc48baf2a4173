use Rattle.std.proofs.Common.{◌<◌, ◌≤◌, ◌∙◌, ap, length, arith}
use Rattle.std.specs.List.{sum_by}
use Rattle.hose_audit.specs.Audit.{load_cost}
use Rattle.hose_audit.proofs.Numbers.{numbers_taken}
use Rattle.hose_audit.proofs.Totals.{little_cost, total_more}
use Rattle.hose_audit.proofs.lines.total_cost.Goals as goal

pub overflow_mul-total : goal.overflow_mul-total
overflow_mul-total c =
    let top = c.topology-top.ensures.value in
    let network = c.args.book.now.network in
    let below : c.loop-number.number < length network.links = omega (arith, c.loop-number-test.true, rw top at c.links-links.ensures.count) in
    omega (arith, little_cost network c.loads-loads.result.now c.loads-loads.ensures.carried c.loop-number.number below c.link.result (rw top at c.link.ensures.value) (rw top at c.link.ensures.is_link))

pub overflow_add-total : goal.overflow_add-total
overflow_add-total c =
    let top = c.topology-top.ensures.value in
    let network = c.args.book.now.network in
    let below : c.loop-number.number < length network.links = omega (arith, c.loop-number-test.true, rw top at c.links-links.ensures.count) in
    let little = little_cost network c.loads-loads.result.now c.loads-loads.ensures.carried c.loop-number.number below c.link.result (rw top at c.link.ensures.value) (rw top at c.link.ensures.is_link) in
    omega (arith, little, c.loop-number.invariant.small, c.loop-number-test.true, c.links-links.ensures.count, c.links-links.ensures.network.few_links)

pub loop-number-preserved : goal.loop-number-preserved
loop-number-preserved c =
    let top = c.topology-top.ensures.value in
    let ledger = c.args.book.now in
    let loads = c.loads-loads.result.now in
    let number = c.loop-number.number in
    let below : number < length ledger.network.links = omega (arith, c.loop-number-test.true, rw top at c.links-links.ensures.count) in
    let there = rw top at c.link.ensures.value in
    let little = little_cost ledger.network loads c.loads-loads.ensures.carried number below c.link.result there (rw top at c.link.ensures.is_link) in
    record {
      so_far = total_more ledger.network ledger.book loads c.loads-loads.ensures.value number below c.link.result there c.loop-number.total c.loop-number.invariant.so_far;
      small = omega (arith, little, c.loop-number.invariant.small);
    }

pub returns : goal.returns
returns c =
    let ledger = c.args.book.now in
    let past : length ledger.network.links ≤ c.loop-number.number = omega (arith, c.loop-number-test.false, rw c.topology-top.ensures.value at c.links-links.ensures.count) in
    c.loop-number.invariant.so_far
    ∙ ap (sum_by (load_cost ledger.network ledger.book)) (numbers_taken (length ledger.network.links) c.loop-number.number past)
