-- What a plan reserves on a link, pair by pair.
use Rattle.std.proofs.Common.{◌≡◌, ℕ, ◌+◌, ◌<◌, ◌≤◌, List, cond, eqb, length, get_or, take, ◌∙◌, ap, arith, refl}
use Rattle.std.proofs.lemmas.Bool.{eq-eqb}
use Rattle.std.proofs.lemmas.List.{take_more}
use Rattle.std.proofs.lemmas.List.Sums.{sum_by-take-le, sum_by_push}
use Rattle.hose_law.specs.Book.{amount_on}

module _ (plan : List (ℕ × ℕ)) (i : ℕ) (inside : i < length plan) where
  -- what one pair more reserves
  pub amount_more : (l : ℕ) → amount_on l (take (i + 1) plan) ≡ amount_on l (take i plan) + cond (eqb (get_or plan i (0, 0)).0 l) (get_or plan i (0, 0)).1 0
  amount_more l = ap (amount_on l) (take_more plan i (0, 0) inside) ∙ sum_by_push (λ (p : ℕ × ℕ). cond (eqb p.0 l) p.1 0) (take i plan) (get_or plan i (0, 0))

  -- is within what all reserve
  pub amount_within : (l : ℕ) → amount_on l (take (i + 1) plan) ≤ amount_on l plan
  amount_within l = sum_by-take-le (λ (p : ℕ × ℕ). cond (eqb p.0 l) p.1 0) plan (i + 1)

  -- so on its own link a pair's amount and those before it are
  pub amount_here : amount_on (get_or plan i (0, 0)).0 (take i plan) + (get_or plan i (0, 0)).1 ≤ amount_on (get_or plan i (0, 0)).0 plan
  amount_here =
      let pair = get_or plan i (0, 0) in
      let here : cond (eqb pair.0 pair.0) pair.1 0 ≡ pair.1 = ap (λ b. cond b pair.1 0) (eq-eqb pair.0 pair.0 refl) in
      omega (arith, here, amount_more pair.0, amount_within pair.0)
