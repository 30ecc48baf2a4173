-- How numbers change along links.
use Rattle.std.proofs.Common.{◌≡◌, ◌∙◌, ◌↔◌, ℕ, ◌+◌, ◌<◌, ◌≤◌, Bool, true, false, not, IsTrue, nat_le, List, Some, length, get_or, inl, inr, refl, sym, ap, subst, arith}
use Rattle.std.specs.List.{slice_get, slice_index, slice_index_or}
use Rattle.std.proofs.lemmas.Bool.{cases_lt, false≢true, leb-true, le-leb}
use Rattle.std.proofs.lemmas.List.{get_or-map, get_or_past, length-map}
use Rattle.hose_graph.specs.declared.topology.Link.{Link}
use Rattle.hose_graph.specs.Network.{Network}
use Rattle.hose_law.specs.Walk.{IsIn}
use Rattle.hose_law.proofs.Joined.{cost_of_link, joins_ends, joins_its_ends}
use Rattle.hose_law.proofs.Walks.{joins_turned}
use Rattle.hose_cert.specs.steps.Judging.{ChangesWithin, ChangesWithinKept}
use Rattle.hose_cert.specs.Rules.{DifferWithinCosts, others_of}

module _ (network : Network) (l : ℕ) (row : List ℕ) (link : Link) (there : slice_get network.links l ≡ Some link) where
  both : slice_index row link.a ≤ slice_index row link.b + link.cost → slice_index row link.b ≤ slice_index row link.a + link.cost → ChangesWithin network l row
  both one other u v joins = elim (joins_its_ends network l u v link there joins) [
    | inl ends ↦ omega (arith, other, cost_of_link network l link there, ap (slice_index row) ends.0, ap (slice_index row) ends.1)
    | inr ends ↦ omega (arith, one, cost_of_link network l link there, ap (slice_index row) ends.0, ap (slice_index row) ends.1)
  ]

  onward : ChangesWithin network l row → slice_index row link.b ≤ slice_index row link.a + link.cost
  onward within = omega (arith, within link.a link.b (joins_ends network l link there), cost_of_link network l link there)

  back : ChangesWithin network l row → slice_index row link.a ≤ slice_index row link.b + link.cost
  back within = omega (arith, within link.b link.a (joins_turned network l link.a link.b (joins_ends network l link there)), cost_of_link network l link there)

  pub second_tells : get_or row link.a 0 ≤ get_or row link.b 0 + link.cost → IsTrue (nat_le (get_or row link.b 0) (get_or row link.a 0 + link.cost)) ↔ ChangesWithin network l row
  second_tells one = (λ other. both one (leb-true _ _ other), λ within. le-leb _ _ (onward within))

  pub first_fails : get_or row link.b 0 + link.cost < get_or row link.a 0 → IsTrue (nat_le (get_or row link.a 0) (get_or row link.b 0 + link.cost)) ↔ ChangesWithin network l row
  first_fails above = (λ one. absurd (omega (arith, above, leb-true _ _ one)), λ within. absurd (omega (arith, above, back within)))

-- ---- links that were not left out

-- a link that is not left out is one of the others
pub not_left_out : (set : List Bool) (l : ℕ) → l < length set → (IsIn set l → ⊥) → IsIn (others_of set) l
not_left_out set l below none = subst IsTrue (sym (get_or-map not set l false false below)) (at (slice_index_or set l false) none)
  where
    at : (b : Bool) → (IsTrue b → ⊥) → IsTrue (not b)
    at false none = refl
    at true none = absurd (none refl)

-- the others are links
pub others_below : (set : List Bool) (l : ℕ) → IsIn (others_of set) l → l < length set
others_below set l is = elim (cases_lt l (length set)) [
  | inl below ↦ below
  | inr past ↦ absurd (false≢true (sym (get_or_past (others_of set) l false (omega (arith, past, length-map set not))) ∙ is))
]

-- where each of the links is kept, the numbers change by no more than costs
pub all_kept : (network : Network) (set : List Bool) (row : List ℕ) (links : ℕ) → length set ≡ length network.links → length network.links ≤ links
    → ((l : ℕ) → l < links → ChangesWithinKept network set l row) → DifferWithinCosts network (others_of set) row
all_kept network set row links places all each l u v is joins =
    each l (omega (arith, others_below set l is, places, all)) is u v joins
