use Rattle.std.proofs.Common.{take}
use Rattle.hose_law.specs.Decision.{Fits}
use Rattle.hose_law.specs.Room.{free_rates}
use Rattle.hose_book.proofs.checking.first_full_link.Given as goal

abbrev pub invariant-loop-link : goal.invariant-loop-link
invariant-loop-link l = Fits (free_rates l.top l.loads) (take l.link-index l.amounts)
