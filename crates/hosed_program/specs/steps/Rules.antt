-- What the rule of a tariff of the program is.
use Rattle.std.specs.Prelude.{◌≡◌, ℕ}
use Rattle.hose_graph.specs.Limit.{IsUpTo}
use Rattle.hose_graph.specs.Limits.{most_length}

-- a rule may be called for each length of a link, and answers with this cost
abbrev pub IsRuleOf : (ℕ → ℕ) → (ℕ → Type 0) → (ℕ → ℕ → Type 0) → Type 0
IsRuleOf cost may answers = (length : ℕ) → IsUpTo most_length length
    → may length × ((answer : ℕ) → answers length answer → answer ≡ cost length)
