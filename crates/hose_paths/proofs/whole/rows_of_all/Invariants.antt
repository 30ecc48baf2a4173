-- The rows so far.
use Rattle.std.proofs.Common.{◌≡◌, ℕ, Some, length}
use Rattle.std.specs.List.{slice_get}
use Rattle.hose_graph.specs.Row.{Distances}
use Rattle.hose_paths.specs.steps.Rows.{IsRowOf}
use Rattle.hose_paths.proofs.whole.rows_of_all.Given as goal

abbrev pub invariant-loop-root : goal.invariant-loop-root
invariant-loop-root l = record {
  places : length l.rows.items ≡ l.root;
  each : (root : ℕ) (row : Distances) → slice_get l.rows.items root ≡ Some row → IsRowOf l.top l.links root row;
}
