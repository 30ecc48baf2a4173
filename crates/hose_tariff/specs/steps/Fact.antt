-- What a tariff's rule keeps, and what a network costs by it: steps of proofs.
use Rattle.std.specs.Prelude.{ℕ}
use Rattle.hose_graph.specs.Limit.{IsUpTo}
use Rattle.hose_graph.specs.Limits.{most_length}
use Rattle.hose_tariff.specs.Fact.{IsPrice}

-- the rule may be called for each length of a link, and each answer is within the bounds
abbrev pub KeepsFact : (ℕ → Type 0) → (ℕ → ℕ → Type 0) → ℕ → ℕ → Type 0
KeepsFact may answers base per =
    (length : ℕ) → IsUpTo most_length length
    → may length × ((cost : ℕ) → answers length cost → IsPrice base per length cost)
