-- The rules of the program's three tariffs, and the one network that a rule of exact costs makes.
use Rattle.std.specs.Prelude.{◌≡◌, ℕ, ◌+◌, ◌*◌, map, min}
use Rattle.hose_graph.specs.declared.topology.Link.{Link}
use Rattle.hose_graph.specs.Limit.{IsUpTo}
use Rattle.hose_graph.specs.Limits.{most_cost, most_length}
use Rattle.hose_graph.specs.Network.{Network}

-- the cost of a length by `flat`: the length
abbrev pub flat_cost : ℕ → ℕ
flat_cost length = length

-- the cost of a length by `hops`: 1
abbrev pub hops_cost : ℕ → ℕ
hops_cost length = 1

-- the cost of a length by `long`: 5 and twice the length, 1,000,000 at most
abbrev pub long_cost : ℕ → ℕ
long_cost length = min most_cost (5 + 2 * length)

-- each answer of the rule for the length of a link is the cost of that length
abbrev pub AnswersCosts : (ℕ → ℕ → Type 0) → (ℕ → ℕ) → Type 0
AnswersCosts answers cost = (length : ℕ) → IsUpTo most_length length → (value : ℕ)
    → answers length value → value ≡ cost length

-- the network with the cost of its length for each link
abbrev pub with_costs : (ℕ → ℕ) → Network → Network
with_costs cost network = record network {
  links = map (λ (link : Link). record link { cost = cost link.length }) network.links;
}
