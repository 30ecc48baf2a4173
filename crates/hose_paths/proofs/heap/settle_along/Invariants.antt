-- Each item that is taken and each entry that falls lowers the sum of twice the entries and the queue's length.
use Rattle.std.proofs.Common.{ℕ, ◌+◌, ◌*◌}
use Rattle.std.specs.BinaryHeap.{heap_items, heap_len}
use Rattle.hose_paths.specs.steps.Table.{IsFound, IsBounded, left_to_fall}
use Rattle.hose_paths.specs.steps.Queue.{IsSettledBut}
use Rattle.hose_paths.proofs.heap.settle_along.Given as goal

abbrev pub invariant-loop-lowest : goal.invariant-loop-lowest
invariant-loop-lowest l = record {
  bounded : IsBounded l.dist;
  found : (start : ℕ) → IsFound l.top l.links start l.initial.dist → IsFound l.top l.links start l.dist;
  settled : IsSettledBut l.top l.links l.dist (heap_items l.queue) 0 0;
}

abbrev pub decreases-loop-lowest : goal.decreases-loop-lowest
decreases-loop-lowest l = 2 * left_to_fall l.dist + heap_len l.queue
