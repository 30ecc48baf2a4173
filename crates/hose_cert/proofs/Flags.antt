-- How flags go on from a root to the next.
use Rattle.std.proofs.Common.{◌≡◌, ◌∙◌, ◌↔◌, ℕ, ◌≤◌, Bool, true, false, IsTrue, eqb, nat_le, sym, arith}
use Rattle.std.proofs.lemmas.Bool.{eq-eqb, eqb-true, false≢true, le-leb, leb-true}
use Rattle.hose_cert.specs.steps.Judging.{AlsoTells}

-- a flag that was true is what was tried
pub where_true : (was now test : Bool) (P : Type 0) → was ≡ true → now ≡ test → IsTrue test ↔ P → AlsoTells was now P
where_true was now test P is same tells = (λ so. (is, tells.0 (sym same ∙ so)), λ both. same ∙ tells.1 both.1)

-- one that was false stays so
pub where_false : (was now : Bool) (P : Type 0) → was ≡ false → now ≡ was → AlsoTells was now P
where_false was now P is same = (λ so. absurd (false≢true (sym (same ∙ is) ∙ so)), λ both. same ∙ both.0)

-- what comparing numbers tells
pub zero_tells : (read number : ℕ) → read ≡ number → IsTrue (eqb read 0) ↔ (number ≡ 0)
zero_tells read number same = (λ so. sym same ∙ eqb-true read 0 so, λ none. eq-eqb read 0 (same ∙ none))

pub least_tells : (read least cost sum : ℕ) → least ≡ cost → read ≡ sum → IsTrue (nat_le least read) ↔ (cost ≤ sum)
least_tells read least cost sum same is = (λ so. omega (arith, same, is, leb-true least read so), λ enough. le-leb least read (omega (arith, same, is, enough)))
