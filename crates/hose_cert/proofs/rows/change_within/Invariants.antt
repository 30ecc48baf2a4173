-- Each link so far is left out, or numbers change by no more than its cost.
use Rattle.std.proofs.Common.{ℕ, ◌<◌}
use Rattle.hose_cert.specs.steps.Judging.{ChangesWithinKept}
use Rattle.hose_cert.proofs.rows.change_within.Given as goal

abbrev pub invariant-loop-link : goal.invariant-loop-link
invariant-loop-link l = (k : ℕ) → k < l.link → ChangesWithinKept l.top l.without k l.row
