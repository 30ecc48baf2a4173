use Rattle.std.proofs.Common.{◌≡◌, length, true}
use Rattle.hose_host.specs.steps.Keeping.{KeepsLink}
use Rattle.hose_host.proofs.linking.send_link.Given as goal

abbrev pub invariant-loop : goal.invariant-loop
invariant-loop g l = record {
  keeps : KeepsLink g.N.Connections g.A.HostAnswers true l.fn.network l.fn.answers true l.network l.answers;
  ends : g.A.HostAnswers.ends l.answers ≡ g.A.HostAnswers.ends l.fn.answers;
  fits : g.A.HostAnswers.fits l.answers;
}

abbrev pub decreases-loop : goal.decreases-loop
decreases-loop g l = length (g.A.HostAnswers.unsent l.answers)
