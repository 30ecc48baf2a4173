-- The last of a customer's numbers is that of the newest VPN.
use Rattle.std.proofs.Common.{◌≡◌, ℕ, ◌-◌, ◌<◌, ◌≤◌, List, [], ◌∷◌, length, get_or, Contains, refl, ap, inl, inr, arith}
use Rattle.std.proofs.lemmas.Bool.{cases_lt}
use Rattle.std.proofs.lemmas.List.{get_or_default}
use Rattle.std.proofs.lemmas.List.Kept.{AllPairs-from_increasing}
use Rattle.hose_law.specs.Answer.{AreVpnsOf, IsNewest}
use Rattle.hose_law.specs.Book.{Book}

module _ (book : Book) (customer : List ℕ) where
  -- each number of a list that ascends is at most its last one
  below_last : (ids : List ℕ) → AreVpnsOf book customer ids → (other : ℕ) → Contains ids other → other ≤ get_or ids (length ids - 1) 0
  below_last ids are other (k, below, there) =
      let read : get_or ids k other ≡ get_or ids k 0 = get_or_default ids k other 0 below in
      elim (cases_lt k (length ids - 1)) [
        | inl earlier ↦
            let less : get_or ids k 0 < get_or ids (length ids - 1) 0 = AllPairs-from_increasing ids are.ascending k (length ids - 1) 0 earlier (omega (arith, below)) in
            omega (arith, less, read, there)
        | inr last ↦
            let same : k ≡ length ids - 1 = omega (arith, last, below) in
            let at_last : get_or ids k 0 ≡ get_or ids (length ids - 1) 0 = ap (λ (n : ℕ). get_or ids n 0) same in
            omega (arith, at_last, read, there)
      ]

  -- a list that is not empty has its last one
  last_there : (ids : List ℕ) → 0 < length ids → Contains ids (get_or ids (length ids - 1) 0)
  last_there ids some = (length ids - 1, omega (arith, some), get_or_default ids (length ids - 1) (get_or ids (length ids - 1) 0) 0 (omega (arith, some)))

  pub newest_last : (ids : List ℕ) → AreVpnsOf book customer ids → IsNewest book customer (get_or ids (length ids - 1) 0)
  newest_last [] are = record { last = λ other has. below_last [] are other ((are.exactly other).1 has); live = λ some. absurd (some refl) }
  newest_last (first ∷ ids) are = record {
    last = λ other has. below_last (first ∷ ids) are other ((are.exactly other).1 has);
    live = λ some. (are.exactly (get_or (first ∷ ids) (length (first ∷ ids) - 1) 0)).0 (last_there (first ∷ ids) (omega arith));
  }
