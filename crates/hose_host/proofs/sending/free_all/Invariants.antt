use Rattle.std.proofs.Common.{◌≡◌, length}
use Rattle.hose_host.specs.steps.Keeping.{KeepsAll, hall}
use Rattle.hose_host.specs.steps.Seats.{FreedBelow}
use Rattle.hose_host.proofs.sending.free_all.Given as goal

abbrev pub invariant-loop-place : goal.invariant-loop-place
invariant-loop-place g l = record {
  keeps : KeepsAll g.N.Connections g.A.HostAnswers (FreedBelow 0) (FreedBelow l.place) (hall l.fn.network l.fn.answers l.fn.seats.items l.fn.heard) (hall l.network l.answers l.seats.items l.fn.heard);
  same : length l.seats.items ≡ length l.fn.seats.items;
  ends : g.A.HostAnswers.ends l.answers ≡ g.A.HostAnswers.ends l.fn.answers;
  fits : g.A.HostAnswers.fits l.answers;
}
