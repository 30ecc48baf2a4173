use Rattle.std.proofs.Common.{ℕ, List, length}
use Rattle.hose_host.specs.steps.Keeping.{Keeps, at}
use Rattle.hose_host.specs.steps.Seats.{Freed}
use Rattle.hose_host.proofs.sending.send.Given as goal

abbrev pub invariant-loop : goal.invariant-loop
invariant-loop g l = (heard : ℕ) (kept : List ℕ) → Keeps g.N.Connections g.A.HostAnswers (Freed heard kept) (Freed heard kept) l.fn.place heard (at l.fn.network l.fn.answers l.fn.seat kept) (at l.network l.fn.answers l.seat kept)

abbrev pub decreases-loop : goal.decreases-loop
decreases-loop g l = length l.seat.output
