-- The numbers of a customer's VPNs.
use Rattle.std.specs.Prelude.{ℕ, List, filter, map}
use Rattle.std.specs.Str.{bytes_eq}
use Rattle.hose_graph.specs.declared.entry.Vpn.{Vpn}

-- the numbers of a customer's VPNs among these, in their order
abbrev pub ids_of : List ℕ → List Vpn → List ℕ
ids_of customer vpns = map (λ vpn. vpn.id) (filter (λ vpn. bytes_eq vpn.customer customer) vpns)
