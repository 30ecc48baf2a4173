use Rattle.std.proofs.Common.{◌≡◌, ◌+◌, ◌<◌, ℕ, length, take, get_or}
use Rattle.hose_law.specs.Book.{amount_on}
use Rattle.hose_book.proofs.changing.add_amounts.Given as goal

abbrev pub invariant-loop-l : goal.invariant-loop-l
invariant-loop-l l = (k : ℕ) → k < length l.initial.loads → get_or l.loads k 0 ≡ get_or l.initial.loads k 0 + amount_on k (take l.l-index l.amounts)
