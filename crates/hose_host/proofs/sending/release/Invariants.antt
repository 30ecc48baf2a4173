use Rattle.std.proofs.Common.{ℕ, List, length}
use Rattle.hose_host.specs.steps.Keeping.{Keeps, at}
use Rattle.hose_host.specs.steps.Seats.{Keeping}
use Rattle.hose_host.proofs.sending.release.Given as goal

abbrev pub invariant-loop : goal.invariant-loop
invariant-loop g l = (kept : List ℕ) → Keeps g.N.Connections g.A.HostAnswers (Keeping kept) (Keeping kept) l.fn.place l.fn.heard (at l.fn.network l.fn.answers l.fn.seat kept) (at l.fn.network l.fn.answers l.seat kept)

abbrev pub decreases-loop : goal.decreases-loop
decreases-loop g l = length l.seat.later
