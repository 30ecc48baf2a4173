-- What the rules of the program's tariffs keep.
use Rattle.std.proofs.Common.{ℕ, sym, subst, arith}
use Rattle.hose_graph.specs.Limit.{IsUpTo}
use Rattle.hose_tariff.specs.Fact.{IsPrice}
use Rattle.hose_tariff.specs.steps.Fact.{KeepsFact}
use Rattle.hose_tariff.specs.steps.Rules.{flat_cost, hops_cost, long_cost}
use Rattle.hosed_program.specs.steps.Rules.{IsRuleOf}

-- a rule whose costs are within the bounds keeps the fact
kept : (cost : ℕ → ℕ) (may : ℕ → Type 0) (answers : ℕ → ℕ → Type 0) (base per : ℕ) → ((length : ℕ) → IsUpTo 1000000 length → IsPrice base per length (cost length)) → IsRuleOf cost may answers → KeepsFact may answers base per
kept cost may answers base per price rule = λ length within.
    let is = rule length within in
    (is.0, λ answer answered. subst (IsPrice base per length) (sym (is.1 answer answered)) (price length within))

pub flat_kept : (may : ℕ → Type 0) (answers : ℕ → ℕ → Type 0) → IsRuleOf flat_cost may answers → KeepsFact may answers 0 1
flat_kept may answers = kept flat_cost may answers 0 1 (λ length within. record {
  some = within.0;
  least = omega arith;
  most = omega arith;
  within = within.1;
})

pub hops_kept : (may : ℕ → Type 0) (answers : ℕ → ℕ → Type 0) → IsRuleOf hops_cost may answers → KeepsFact may answers 1 0
hops_kept may answers = kept hops_cost may answers 1 0 (λ length within. record {
  some = omega arith;
  least = omega arith;
  most = omega arith;
  within = omega arith;
})

pub long_kept : (may : ℕ → Type 0) (answers : ℕ → ℕ → Type 0) → IsRuleOf long_cost may answers → KeepsFact may answers 5 2
long_kept may answers = kept long_cost may answers 5 2 (λ length within. record {
  some = omega arith;
  least = omega arith;
  most = omega arith;
  within = omega arith;
})
