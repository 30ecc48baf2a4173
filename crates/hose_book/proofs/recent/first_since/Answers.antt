use Rattle.std.proofs.Common.{leb, leb-true, leb-false, arith, rules}
use Rattle.std.proofs.lemmas.List.Sorted.{IsPartitionPoint-from_clause, IsPartitionedBy-leb}
use Rattle.hose_law.specs.Recent.{Change}
use Rattle.hose_book.proofs.Tracking.{rise_in_order, up_to_front}
use Rattle.hose_book.proofs.recent.first_since.Goals as goal

pub returns-clause-before : goal.returns-clause-before
returns-clause-before c =
    let parted = IsPartitionedBy-leb (λ (change : Change). change.0) c.args.changes.now c.args.seen (rise_in_order c.args.changes.now c.requires) in
    let point = IsPartitionPoint-from_clause (λ (change : Change). leb change.0 c.args.seen) _ _ c.partition_point.ensures.partitioned parted (λ a r q k. search rules) in
    up_to_front c.args.changes.now c.args.seen c.partition_point.result (search rules) (λ k d within. leb-true _ _ (point.0 k d (omega arith) within))

pub returns-clause-after : goal.returns-clause-after
returns-clause-after c =
    let parted = IsPartitionedBy-leb (λ (change : Change). change.0) c.args.changes.now c.args.seen (rise_in_order c.args.changes.now c.requires) in
    let point = IsPartitionPoint-from_clause (λ (change : Change). leb change.0 c.args.seen) _ _ c.partition_point.ensures.partitioned parted (λ a r q k. search rules) in
    λ k d from within. omega (arith, leb-false _ _ (point.1 k d from within))
