-- Lists of distinct numbers, and sums over them: two such lists with the same numbers have the same sums.
use Rattle.std.proofs.Common.{◌≡◌, ◌≢◌, ◌∙◌, ℕ, suc, ◌+◌, ◌<◌, List, [], ◌∷◌, get_or, map, refl, sym, ap, subst, inl, inr, arith}
use Rattle.std.specs.Bool.{⊤}
use Rattle.std.specs.List.{Contains, sum_by}
use Rattle.std.specs.List.Sorted.{IsStrictlyIncreasing}
use Rattle.std.proofs.lemmas.List.Sums.{sum_by-cons}
use Rattle.std.proofs.lemmas.List.Kept.{AllPairs-from_increasing}
use Rattle.hose_graph.specs.Network.{Network}
use Rattle.hose_graph.specs.declared.topology.Step.{Step}
use Rattle.hose_law.specs.Tree.{Grow, step_links}
use Rattle.hose_law.proofs.Trees.{link_is_new}
use Rattle.hose_graph.proofs.Members.{contains_first, contains_rest, first_or_rest, none_in_empty}

-- no number is one of those after it
abbrev pub AreApart : List ℕ → Type 0
AreApart [] = ⊤
AreApart (x ∷ xs) = (Contains xs x → ⊥) × AreApart xs

-- the links of a tree's steps are apart
pub apart_links : (network : Network) (start : ℕ) (steps : List Step) → Grow network start steps → AreApart (step_links steps)
apart_links network start [] grows = tt
apart_links network start (step ∷ earlier) grows = (link_is_new network start step earlier grows, apart_links network start earlier grows.0)

-- what is left of a list without one of its numbers
record HasOut (x : ℕ) (ys : List ℕ) : Type 0 where
  rest : List ℕ
  sums : (f : ℕ → ℕ) → sum_by f ys ≡ f x + sum_by f rest
  apart : AreApart rest
  keeps : (z : ℕ) → z ≢ x → Contains ys z → Contains rest z
  was : (z : ℕ) → Contains rest z → Contains ys z × (z ≢ x)

take_out : (x : ℕ) (ys : List ℕ) → AreApart ys → Contains ys x → HasOut x ys
take_out x [] apart there = absurd (none_in_empty x there)
take_out x (y ∷ ys) apart there = elim (first_or_rest y x ys there) [
  | inl same ↦ record {
    rest = ys;
    sums = λ f. sum_by-cons f y ys ∙ ap (λ (n : ℕ). f n + sum_by f ys) same;
    apart = apart.1;
    keeps = λ z differ in_all. elim (first_or_rest y z ys in_all) [ inl first ↦ absurd (differ (sym first ∙ same)) | inr behind ↦ behind ];
    was = λ z in_rest. (contains_rest y z ys in_rest, λ is_x. apart.0 (subst (Contains ys) (is_x ∙ sym same) in_rest));
  }
  | inr behind ↦
      let out = take_out x ys apart.1 behind in
      record {
        rest = y ∷ out.rest;
        sums = λ f. omega (arith, sum_by-cons f y ys, sum_by-cons f y out.rest, out.sums f);
        apart = (λ again. apart.0 (out.was y again).0, out.apart);
        keeps = λ z differ in_all. elim (first_or_rest y z ys in_all) [
          | inl first ↦ contains_first y z out.rest first
          | inr later ↦ contains_rest y z out.rest (out.keeps z differ later)
        ];
        was = λ z in_rest. elim (first_or_rest y z out.rest in_rest) [
          | inl first ↦ (contains_first y z ys first, λ is_x. apart.0 (subst (Contains ys) (sym (first ∙ is_x)) behind))
          | inr later ↦ let old = out.was z later in (contains_rest y z ys old.0, old.1)
        ];
      }
]

pub same_sums : (f : ℕ → ℕ) (xs ys : List ℕ) → AreApart xs → AreApart ys → ((z : ℕ) → Contains xs z → Contains ys z) → ((z : ℕ) → Contains ys z → Contains xs z)
    → sum_by f xs ≡ sum_by f ys
same_sums f [] [] one other to back = refl
same_sums f [] (y ∷ ys) one other to back = absurd (none_in_empty y (back y (contains_first y y ys refl)))
same_sums f (x ∷ xs) ys one other to back =
    let out = take_out x ys other (to x (contains_first x x xs refl)) in
    let into : (z : ℕ) → Contains xs z → Contains out.rest z =
    λ z there. out.keeps z (λ is_x. one.0 (subst (Contains xs) is_x there)) (to z (contains_rest x z xs there)) in
    let from : (z : ℕ) → Contains out.rest z → Contains xs z =
    λ z there. elim (first_or_rest x z xs (back z (out.was z there).0)) [
      | inl first ↦ absurd ((out.was z there).1 (sym first))
      | inr behind ↦ behind
    ] in
    omega (arith, sum_by-cons f x xs, out.sums f, same_sums f xs out.rest one.1 out.apart into from)

-- numbers that rise are apart
pub apart_rising : (xs : List ℕ) → IsStrictlyIncreasing xs → AreApart xs
apart_rising [] rises = tt
apart_rising (x ∷ xs) rises = (
  λ again.
      let less : x < get_or xs again.0 x = AllPairs-from_increasing (x ∷ xs) rises 0 (suc again.0) x (omega arith) (omega (arith, again.1)) in
      omega (arith, less, again.2),
  apart_rising xs (λ k below. subst (λ (n : ℕ). get_or xs k 0 < get_or (x ∷ xs) n 0) (suc_next k) (rises (suc k) (omega arith))),
)
  where
    suc_next : (k : ℕ) → suc k + 1 ≡ suc (k + 1)
    suc_next k = omega arith

-- sums of what is alike
pub alike_sums : {X : Type 0} (f g : X → ℕ) (xs : List X) → ((x : X) → Contains xs x → f x ≡ g x) → sum_by f xs ≡ sum_by g xs
alike_sums f g [] alike = refl
alike_sums f g (x ∷ xs) alike =
    let rest = alike_sums f g xs (λ z there. alike z (contains_rest x z xs there)) in
    omega (arith, sum_by-cons f x xs, sum_by-cons g x xs, alike x (contains_first x x xs refl), rest)

-- a sum over what a function gives
pub sum_of_map : {X : Type 0} (f : ℕ → ℕ) (g : X → ℕ) (xs : List X) → sum_by f (map g xs) ≡ sum_by (λ (x : X). f (g x)) xs
sum_of_map f g [] = refl
sum_of_map f g (x ∷ xs) = omega (arith, sum_by-cons f (g x) (map g xs), sum_by-cons (λ y. f (g y)) x xs, sum_of_map f g xs)
