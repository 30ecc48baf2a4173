use Rattle.std.proofs.Common.{◌≡◌, true}
use Rattle.hose_host.specs.steps.Keeping.{KeepsHost, host_of}
use Rattle.hose_host.specs.steps.Seats.{AllFinished}
use Rattle.hose_host.proofs.ending.write_out.Given as goal

abbrev pub invariant-loop : goal.invariant-loop
invariant-loop g l = record {
  keeps : KeepsHost g.N.Connections g.A.HostAnswers (AllFinished true) (AllFinished true) (host_of l.fn.network l.fn.answers l.fn.places) (host_of l.network l.answers l.places);
  ends : g.A.HostAnswers.ends l.answers ≡ g.A.HostAnswers.ends l.fn.answers;
  fits : g.A.HostAnswers.fits l.answers;
}
