-- What a hose costs from the root of a row.
use Rattle.std.specs.Prelude.{◌≡◌, ℕ, ◌*◌, List, None, Any, sum_by, unwrap_or}
use Rattle.hose_graph.specs.Hose.{Endpoint, node_of, rate_of}
use Rattle.hose_graph.specs.Row.{Distances, distance_of}

-- an endpoint has no distance in the row
abbrev pub LeavesOut : Distances → List Endpoint → Type 0
LeavesOut row hose = Any (λ (end : Endpoint). distance_of row (node_of end) ≡ None) hose

-- the sum of each endpoint's rate times its distance, where one without a distance counts nothing
abbrev pub weight_of : Distances → List Endpoint → ℕ
weight_of row hose =
    sum_by (λ (end : Endpoint). rate_of end * unwrap_or (distance_of row (node_of end)) 0) hose
