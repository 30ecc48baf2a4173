-- Names of nodes and of customers, which contracts see as their bytes: steps of proofs.
use Rattle.std.specs.Prelude.{ℕ, ◌-◌, List, ◌++◌, length, replicate}
use Rattle.hose_graph.specs.Limits.{most_name_bytes}

-- a name's bytes, and then zeros up to the greatest length
abbrev pub padded : List ℕ → List ℕ
padded bytes = bytes ++ replicate (most_name_bytes - length bytes) 0
