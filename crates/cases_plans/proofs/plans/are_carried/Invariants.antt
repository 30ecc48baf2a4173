-- The loads of the links so far are carried.
use Rattle.std.proofs.Common.{ℕ, ◌<◌, ◌≤◌}
use Rattle.std.specs.List.{slice_index}
use Rattle.hose_law.specs.Walk.{capacity_of}
use Rattle.cases_plans.proofs.plans.are_carried.Given as goal

abbrev pub invariant-loop-link : goal.invariant-loop-link
invariant-loop-link l = (k : ℕ) → k < l.link → slice_index l.loads k ≤ capacity_of l.top k
