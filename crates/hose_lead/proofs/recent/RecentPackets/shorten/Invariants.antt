use Rattle.std.proofs.Common.{length}
use Rattle.hose_lead.specs.steps.Taking.{Shortens}
use Rattle.hose_lead.proofs.recent.RecentPackets.shorten.Given as goal

abbrev pub invariant-loop : goal.invariant-loop
invariant-loop l = Shortens l.initial.self l.self

abbrev pub decreases-loop : goal.decreases-loop
decreases-loop l = length l.self.kept
