-- The node that is found for an endpoint: it is one of the network, and no other endpoint is at it.
use Rattle.std.proofs.Common.{◌≡◌, ◌≢◌, ◌∙◌, ◌⊎◌, ℕ, zero, suc, ◌+◌, ◌-◌, ◌%◌, ◌<◌, eqb, true, false, List, [], ◌∷◌, ◌++◌, length, get_or, refl, sym, ap, subst, inl, inr, arith}
use Rattle.std.specs.List.{list_any}
use Rattle.std.proofs.Math.Nat.{mod-eq_of_lt, mod_self}
use Rattle.std.proofs.lemmas.Bool.{cases_Bool, cases_lt, cond-true, cond-false, true≢false}
use Rattle.std.proofs.lemmas.Bool.Decides.{nat_tests}
use Rattle.std.proofs.lemmas.List.{length-map}
use Rattle.std.proofs.lemmas.List.Folds.{list_any_at}
use Rattle.std.proofs.lemmas.List.Quantifiers.{all_pairs_push}
use Rattle.std.proofs.lemmas.Map.Steps.{le-length_from_below}
use Rattle.hose_graph.specs.Ascending.{firsts}
use Rattle.hose_graph.specs.Hose.{Endpoint, HasDistinctNodes, node_of}
use Rattle.hose_gen.specs.Generated.{free_node, has_node}

-- the next node
next_within : (nodes v : ℕ) → v + 1 < nodes → (v + 1) % nodes ≡ v + 1
next_within nodes v below = mod-eq_of_lt below

next_round : (nodes v : ℕ) → v + 1 ≡ nodes → (v + 1) % nodes ≡ 0
next_round nodes v is = ap (λ n. n % nodes) is ∙ mod_self nodes

module _ (nodes : ℕ) (ends : List Endpoint) where
  -- where the node that is found is taken, so is each one that was looked at
  all_taken : (v more q k : ℕ) → v < nodes → q < nodes → k < more → has_node ends (free_node nodes ends v more) ≡ true
      → (q ≡ v + k) ⊎ (q + nodes ≡ v + k) → has_node ends q ≡ true
  all_taken v zero q k within below less found is = absurd (omega (arith, less))
  all_taken v (suc more) q zero within below less found is =
      elim (cases_Bool (has_node ends v)) [
        | inr not ↦
            let stays = cond-false (has_node ends v) (free_node nodes ends ((v + 1) % nodes) more) v not in
            absurd (true≢false (sym (rw stays at found) ∙ not))
        | inl taken ↦ elim is [
          | inl one ↦ let same : v ≡ q = omega (arith, one) in subst (λ n. has_node ends n ≡ true) same taken
          | inr other ↦ absurd (omega (arith, other, within))
        ]
      ]
  all_taken v (suc more) q (suc k) within below less found is =
      elim (cases_Bool (has_node ends v)) [
        | inr not ↦
            let stays = cond-false (has_node ends v) (free_node nodes ends ((v + 1) % nodes) more) v not in
            absurd (true≢false (sym (rw stays at found) ∙ not))
        | inl taken ↦
            let goes = cond-true (has_node ends v) (free_node nodes ends ((v + 1) % nodes) more) v taken in
            let after : has_node ends (free_node nodes ends ((v + 1) % nodes) more) ≡ true = rw goes at found in
            elim (cases_lt (v + 1) nodes) [
              | inl inside ↦ all_taken (v + 1) more q k inside below (omega arith) (rw (next_within nodes v inside) at after)
                  (elim is [ inl one ↦ inl (omega (arith, one)) | inr other ↦ inr (omega (arith, other)) ])
              | inr outside ↦
                  let last : v + 1 ≡ nodes = omega (arith, outside, within) in
                  all_taken 0 more q k (omega (arith, within)) below (omega arith) (rw (next_round nodes v last) at after)
                  (elim is [ inl one ↦ absurd (omega (arith, one, below, last)) | inr other ↦ inl (omega (arith, other, last)) ])
            ]
      ]

-- a node that is taken is among those of the endpoints
among : (q : ℕ) (ends : List Endpoint) → has_node ends q ≡ true → list_any (eqb q) (firsts ends) ≡ true
among q [] has = has
among q (end ∷ more) has = elim (cases_Bool (eqb (node_of end) q)) [
  | inl here ↦ let turned : eqb q (node_of end) ≡ true = grind (arith, nat_tests) in rw turned refl
  | inr not ↦
      let turned : eqb q (node_of end) ≡ false = grind (arith, nat_tests) in
      rw turned (among q more (rw not at has))
]

-- where there are fewer endpoints than nodes, the node is free
pub free_is_free : (nodes : ℕ) (ends : List Endpoint) (v : ℕ) → v < nodes → length ends < nodes → has_node ends (free_node nodes ends v nodes) ≡ false
free_is_free nodes ends v within few =
    elim (cases_Bool (has_node ends (free_node nodes ends v nodes))) [
      | inr not ↦ not
      | inl found ↦
          let each : (q : ℕ) → q < nodes → list_any (eqb q) (firsts ends) ≡ true = λ q below. among q ends (elim (cases_lt q v) [
            | inl before ↦ all_taken nodes ends v nodes q (q + nodes - v) within below (omega arith) found (inr (omega arith))
            | inr from ↦ all_taken nodes ends v nodes q (q - v) within below (omega arith) found (inl (omega arith))
          ]) in
          absurd (omega (arith, few, le-length_from_below (firsts ends) nodes each, length-map ends node_of))
    ]

-- one more look
pub free_more : (nodes : ℕ) (ends : List Endpoint) (v left : ℕ) → 0 < left → has_node ends v ≡ true
    → free_node nodes ends v left ≡ free_node nodes ends ((v + 1) % nodes) (left - 1)
free_more nodes ends v zero some taken = absurd (omega (arith, some))
free_more nodes ends v (suc left) some taken =
    let less : suc left - 1 ≡ left = omega arith in
    rw less (cond-true (has_node ends v) (free_node nodes ends ((v + 1) % nodes) left) v taken)

-- endpoints at distinct nodes, and one more at a node that is free
pub distinct_more : (ends : List Endpoint) (end : Endpoint) → HasDistinctNodes ends → has_node ends (node_of end) ≡ false → HasDistinctNodes (ends ++ end ∷ [])
distinct_more ends end distinct free =
    all_pairs_push (λ one other. node_of one ≢ node_of other) ends end distinct (λ k d below same.
    let here : eqb (node_of (get_or ends k d)) (node_of end) ≡ true = grind (arith, nat_tests) in
    true≢false (sym (list_any_at (λ (other : Endpoint). eqb (node_of other) (node_of end)) ends k d below here) ∙ free))
