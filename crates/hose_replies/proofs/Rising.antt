-- One number more after numbers that rise.
use Rattle.std.proofs.Common.{◌≡◌, ◌∙◌, ℕ, ◌+◌, ◌-◌, ◌<◌, List, [], ◌∷◌, ◌++◌, Some, length, get_or, ap, subst, sym, inl, inr, arith, length-append}
use Rattle.std.specs.List.{slice_get}
use Rattle.std.specs.List.Sorted.{IsStrictlyIncreasing}
use Rattle.std.proofs.Math.ListN.{get_or-append}
use Rattle.std.proofs.Math.Seq.{get_or-append_seam}
use Rattle.std.proofs.lemmas.Bool.{cases_lt}
use Rattle.std.proofs.lemmas.List.{length-map, get_or-map, map-append}
use Rattle.std.proofs.lemmas.Option.{get_or_from_slice_get}
use Rattle.hose_graph.specs.Ascending.{IsAscending, firsts}

-- a number above the last rises on
rising_push : (xs : List ℕ) (n : ℕ) → IsStrictlyIncreasing xs → ((k : ℕ) → k + 1 ≡ length xs → get_or xs k 0 < n) → IsStrictlyIncreasing (xs ++ n ∷ [])
rising_push xs n rises above = λ k below. elim (cases_lt (k + 1) (length xs)) [
  | inl inside ↦ omega (arith, rises k inside, get_or-append xs (n ∷ []) 0 k (omega arith), get_or-append xs (n ∷ []) 0 (k + 1) inside)
  | inr past ↦
      let last : k + 1 ≡ length xs = omega (arith, below, length-append xs (n ∷ [])) in
      let seam : get_or (xs ++ n ∷ []) (k + 1) 0 ≡ n = ap (λ i. get_or (xs ++ n ∷ []) i 0) last ∙ get_or-append_seam xs n [] 0 in
      omega (arith, seam, above k last, get_or-append xs (n ∷ []) 0 k (omega arith))
]

-- where numbers rise on to a number, the last is below it
rising_last : (xs : List ℕ) (n k : ℕ) → IsStrictlyIncreasing (xs ++ n ∷ []) → k + 1 ≡ length xs → get_or xs k 0 < n
rising_last xs n k rises last =
    let seam : get_or (xs ++ n ∷ []) (k + 1) 0 ≡ n = ap (λ i. get_or (xs ++ n ∷ []) i 0) last ∙ get_or-append_seam xs n [] 0 in
    omega (arith, rises k (omega (arith, length-append xs (n ∷ []))), seam, get_or-append xs (n ∷ []) 0 k (omega arith))

firsts_with : (pairs : List (ℕ × ℕ)) (pair : ℕ × ℕ) → firsts (pairs ++ pair ∷ []) ≡ firsts pairs ++ pair.0 ∷ []
firsts_with pairs pair = map-append (λ (pair : ℕ × ℕ). pair.0) pairs (pair ∷ [])

-- a pair may come where another one of its number may
pub same_first : (pairs : List (ℕ × ℕ)) (one other : ℕ × ℕ) → one.0 ≡ other.0 → IsAscending (pairs ++ other ∷ []) → IsAscending (pairs ++ one ∷ [])
same_first pairs one other same rises =
    let at : firsts (pairs ++ other ∷ []) ≡ firsts (pairs ++ one ∷ []) = firsts_with pairs other ∙ ap (λ n. firsts pairs ++ n ∷ []) (sym same) ∙ sym (firsts_with pairs one) in
    subst IsStrictlyIncreasing at rises

module _ (pairs : List (ℕ × ℕ)) (last : ℕ × ℕ) (there : slice_get pairs (length pairs - 1) ≡ Some last) where
  -- the last of the numbers that pairs begin with
  last_first : (k : ℕ) → k + 1 ≡ length (firsts pairs) → get_or (firsts pairs) k 0 ≡ last.0
  last_first k is =
      let place : k ≡ length pairs - 1 = omega (arith, is, length-map pairs (λ (pair : ℕ × ℕ). pair.0)) in
      get_or-map (λ (pair : ℕ × ℕ). pair.0) pairs k last 0 (omega (arith, is, length-map pairs (λ (pair : ℕ × ℕ). pair.0)))
      ∙ ap (λ i. (get_or pairs i last).0) place ∙ ap (λ (pair : ℕ × ℕ). pair.0) (get_or_from_slice_get pairs (length pairs - 1) last last there)

  pub firsts_push : (pair : ℕ × ℕ) → IsAscending pairs → last.0 < pair.0 → IsAscending (pairs ++ pair ∷ [])
  firsts_push pair rises above =
      subst IsStrictlyIncreasing (sym (firsts_with pairs pair)) (rising_push (firsts pairs) pair.0 rises (λ k is. omega (arith, last_first k is, above)))

  pub firsts_last : (pair : ℕ × ℕ) → 0 < length pairs → IsAscending (pairs ++ pair ∷ []) → last.0 < pair.0
  firsts_last pair some rises =
      let is : (length pairs - 1) + 1 ≡ length (firsts pairs) = omega (arith, some, length-map pairs (λ (pair : ℕ × ℕ). pair.0)) in
      omega (arith, last_first (length pairs - 1) is, rising_last (firsts pairs) pair.0 (length pairs - 1) (subst IsStrictlyIncreasing (firsts_with pairs pair) rises) is)

-- ---- fronts

pub rising_front : (xs ys : List ℕ) → IsStrictlyIncreasing (xs ++ ys) → IsStrictlyIncreasing xs
rising_front xs ys rises = λ k below.
    omega (arith, rises k (omega (arith, below, length-append xs ys)), get_or-append xs ys 0 k (omega (arith, below)), get_or-append xs ys 0 (k + 1) below)

pub firsts_front : (xs ys : List (ℕ × ℕ)) → IsStrictlyIncreasing (firsts (xs ++ ys)) → IsStrictlyIncreasing (firsts xs)
firsts_front xs ys rises = rising_front (firsts xs) (firsts ys) (subst IsStrictlyIncreasing (map-append (λ (pair : ℕ × ℕ). pair.0) xs ys) rises)
