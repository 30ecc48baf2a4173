-- The links so far are alike.
use Rattle.std.proofs.Common.{◌≡◌, ℕ, ◌<◌, Some}
use Rattle.std.specs.List.{slice_get}
use Rattle.hose_graph.specs.declared.topology.Link.{Link}
use Rattle.hose_paths.specs.steps.Alike.{JoinAtOneCost}
use Rattle.hose_paths.proofs.alike.are_cost_alike.Given as goal

abbrev pub invariant-loop-number : goal.invariant-loop-number
invariant-loop-number l = (k : ℕ) (link also : Link) → k < l.number
    → slice_get l.one.links k ≡ Some link → slice_get l.other.links k ≡ Some also → JoinAtOneCost link also
