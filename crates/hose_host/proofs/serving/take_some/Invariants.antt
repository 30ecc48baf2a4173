use Rattle.std.proofs.Common.{[], ◌≡◌, ◌≤◌, drop, false, length}
use Rattle.hose_host.specs.steps.Keeping.{Keeps, at}
use Rattle.hose_host.specs.steps.Seats.{Freed}
use Rattle.hose_host.proofs.serving.take_some.Given as goal

abbrev pub invariant-loop : goal.invariant-loop
invariant-loop g l = record {
  keeps : Keeps g.N.Connections g.A.HostAnswers (Freed l.fn.heard []) (Freed l.fn.heard []) l.fn.place l.fn.heard (at l.fn.network l.fn.answers l.fn.seat (drop l.fn.looked l.fn.piece)) (at l.fn.network l.answers l.seat (drop l.now l.fn.piece));
  bound : l.now ≤ length l.fn.piece;
  ends : g.A.HostAnswers.ends l.answers ≡ false → g.A.HostAnswers.ends l.fn.answers ≡ false;
  fits : g.A.HostAnswers.fits l.answers;
}
