-- Facts of each seat, where a step changes one view.
use Rattle.std.proofs.Common.{◌≡◌, ◌≢◌, ℕ, zero, suc, true, false, List, [], ◌∷◌, set, sym, refl, ap, ◌∙◌, subst, ⊎_elim, arith, Option, Some, None}
use mathlib.Core.Logic.{dite}
use mathlib.Core.Option.{some, some-injective, some-ne-none}
use native.Mathlib.Decide.{ℕ_discrete}
use lib.ListN.{get_elem?}
use Rattle.atomic_table.proofs.Lists.{at_set, set_else}
use Rattle.hose_turn.specs.declared.view.View.{View}
use Rattle.hose_turn.specs.steps.Line.{one_if, bit}

-- the step leaves the fact of each other seat, and its own seat has it
pub seats_stay : (Fact : ℕ → View → Type 0) (views : List View) (seat : ℕ) (new : View) → Fact seat new
    → ((other : ℕ) (view : View) → other ≢ seat → get_elem? views other ≡ some view → Fact other view)
    → (other : ℕ) (view : View) → get_elem? (set views seat new) other ≡ some view → Fact other view
seats_stay Fact views seat new mine others other view is =
    ⊎_elim (λ (same : (other ≡ seat) × (new ≡ view)). subst (λ (x : ℕ × View). Fact x.0 x.1) (λ i. (sym same.0 i, same.1 i)) mine)
    (λ (apart : (other ≢ seat) × (get_elem? views other ≡ some view)). others other view apart.0 apart.1) (at_set views seat other new view is)

-- in a list of one view
pub only : (one view : View) (seat : ℕ) → get_elem? (one ∷ []) seat ≡ some view → one ≡ view
only one view zero is = some-injective one view is
only one view (suc seat) is = absurd (some-ne-none view (sym is))

pub only_seat : (one view : View) (seat : ℕ) → get_elem? (one ∷ []) seat ≡ some view → seat ≡ 0
only_seat one view zero is = refl
only_seat one view (suc seat) is = absurd (some-ne-none view (sym is))

-- another seat's view is as it was
pub was_theirs : (views : List View) (seat other : ℕ) (new view : View) → ¬ (other ≡ seat) → get_elem? (set views seat new) other ≡ some view → get_elem? views other ≡ some view
was_theirs views seat other new view apart is = sym (set_else views seat other new apart) ∙ is

pub no_some : {n : ℕ} → None ≡ Some n → ⊥
no_some is = let h : ◌≡◌ {A = ℕ} 0 1 = ap one_if is in omega arith

pub not_on : false ≡ true → ⊥
not_on is = let h : ◌≡◌ {A = ℕ} 0 1 = ap bit is in omega arith

abbrev pub num : Option ℕ → ℕ
num None = 0
num (Some n) = n

pub opt_discrete : (option : Option ℕ) (n : ℕ) → Dec (option ≡ Some n)
opt_discrete None n = no no_some
opt_discrete (Some k) n = dite (ℕ_discrete k n) (λ same. yes (ap Some same)) (λ differ. no (λ same. differ (ap num same)))
