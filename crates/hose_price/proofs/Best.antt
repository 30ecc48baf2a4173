-- The first of the least costs, place after place.
use Rattle.std.proofs.Common.{◌≡◌, ℕ, ◌+◌, ◌<◌, ◌≤◌, List, subst, inl, inr, arith}
use Rattle.std.proofs.lemmas.Bool.{cases_lt}
use Rattle.hose_price.specs.declared.priced.Price.{Price}
use Rattle.hose_price.specs.Pricing.{cost_at}

-- the place is the first of the least costs below a place
pub record IsFirstBelow (prices : List Price) (many place : ℕ) : Type 0 where
  pub there : place < many
  pub least : (other : ℕ) → other < many → cost_at prices place ≤ cost_at prices other
  pub first : (other : ℕ) → other < place → cost_at prices place < cost_at prices other

-- the first place alone
pub first_alone : (prices : List Price) → IsFirstBelow prices 1 0
first_alone prices = record {
  there = omega arith;
  least = λ other below. subst (λ (n : ℕ). cost_at prices 0 ≤ cost_at prices n) (none other below) (omega arith);
  first = λ other below. absurd (omega (arith, below));
}
  where
    none : (other : ℕ) → other < 1 → 0 ≡ other
    none other below = omega (arith, below)

module _ (prices : List Price) (many place : ℕ) (is : IsFirstBelow prices many place) where
  -- one place more, which costs less
  pub less_more : cost_at prices many < cost_at prices place → IsFirstBelow prices (many + 1) many
  less_more less = record {
    there = omega arith;
    least = λ other below. elim (cases_lt other many) [
      | inl before ↦ omega (arith, less, is.least other before)
      | inr last ↦ same other last below
    ];
    first = λ other before. omega (arith, less, is.least other before);
  }
    where
      same : (other : ℕ) → many ≤ other → other < many + 1 → cost_at prices many ≤ cost_at prices other
      same other past below = let here : many ≡ other = omega (arith, past, below) in subst (λ (n : ℕ). cost_at prices many ≤ cost_at prices n) here (omega arith)

  -- and one that does not
  pub same_more : cost_at prices place ≤ cost_at prices many → IsFirstBelow prices (many + 1) place
  same_more most = record {
    there = omega (arith, is.there);
    least = λ other below. elim (cases_lt other many) [
      | inl before ↦ is.least other before
      | inr last ↦ same other last below
    ];
    first = is.first;
  }
    where
      same : (other : ℕ) → many ≤ other → other < many + 1 → cost_at prices place ≤ cost_at prices other
      same other past below = let here : many ≡ other = omega (arith, past, below) in subst (λ (n : ℕ). cost_at prices place ≤ cost_at prices n) here most
