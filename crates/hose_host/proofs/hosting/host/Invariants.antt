use Rattle.hose_host.specs.steps.Keeping.{KeepsHost, host_of}
use Rattle.hose_host.specs.steps.Seats.{Resting}
use Rattle.hose_host.proofs.hosting.host.Given as goal

abbrev pub invariant-loop : goal.invariant-loop
invariant-loop g l = record {
  keeps : KeepsHost g.N.Connections g.A.HostAnswers Resting Resting (host_of l.initial.network l.initial.answers l.initial.places) (host_of l.network l.answers l.places);
  fits : g.A.HostAnswers.fits l.answers;
}
