use Rattle.std.proofs.Common.{◌≡◌, false, length}
use Rattle.hose_host.specs.steps.Keeping.{KeepsAll, hall}
use Rattle.hose_host.specs.steps.Seats.{FinishedBelow}
use Rattle.hose_host.proofs.ending.finish_all.Given as goal

abbrev pub invariant-loop-place : goal.invariant-loop-place
invariant-loop-place g l = record {
  keeps : KeepsAll g.N.Connections g.A.HostAnswers (FinishedBelow (g.A.HostAnswers.ends l.fn.answers) 0) (FinishedBelow (g.A.HostAnswers.ends l.answers) l.place) (hall l.fn.network l.fn.answers l.fn.seats.items l.fn.heard) (hall l.network l.answers l.seats.items l.fn.heard);
  same : length l.seats.items ≡ length l.fn.seats.items;
  ends : g.A.HostAnswers.ends l.answers ≡ false → g.A.HostAnswers.ends l.fn.answers ≡ false;
  fits : g.A.HostAnswers.fits l.answers;
}
