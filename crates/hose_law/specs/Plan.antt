-- What a plan costs, and the nodes that a hose and a side name.
use Rattle.std.specs.Prelude.{ℕ, ◌*◌, List, sum_by}
use Rattle.hose_graph.specs.Amounts.{ReservedLink, link_of, amount_of}
use Rattle.hose_graph.specs.Network.{Network}
use Rattle.hose_law.specs.Walk.{cost_of}

-- what a plan costs: the sum of each link's cost times its amount
abbrev pub plan_cost : Network → List ReservedLink → ℕ
plan_cost network plan =
    sum_by (λ (pair : ReservedLink). cost_of network (link_of pair) * amount_of pair) plan
