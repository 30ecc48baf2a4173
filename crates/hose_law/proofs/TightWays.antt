-- Ways along tight links to a root: each node that is reached has one alone, and trees along tight links have them whole.
use Rattle.std.proofs.Common.{◌≡◌, ◌∙◌, ℕ, zero, suc, ◌+◌, ◌<◌, Bool, List, [], ◌∷◌, ◌++◌, map, length, reverse, Some, All, Contains, refl, sym, ap, subst, inl, inr, arith}
use Rattle.std.proofs.lemmas.Bool.{cases_eq}
use Rattle.std.proofs.lemmas.List.{map-append, reverse-append}
use Rattle.std.proofs.lemmas.Option.{same_Some}
use Rattle.std.proofs.lemmas.List.Elements.{Contains-append_left, Contains-append_cases, Contains-push}
use Rattle.hose_graph.specs.declared.topology.Step.{Step}
use Rattle.hose_graph.specs.Network.{Network, IsNetwork}
use Rattle.hose_graph.specs.Row.{Distances, distance_of}
use Rattle.hose_law.specs.Walk.{cost_of, Joins, walk_cost, IsDistance}
use Rattle.hose_law.specs.Row.{IsTight, IsTightLink, IsRow}
use Rattle.hose_law.specs.Tree.{Grow, IsOn}
use Rattle.hose_law.specs.CanonicalPlan.{IsTightWay}
use Rattle.hose_law.proofs.Walks.{joins_turned}
use Rattle.hose_law.proofs.Joined.{joined, joins_its_ends}
use Rattle.hose_graph.proofs.Members.{contains_first, contains_rest, first_or_rest}
use Rattle.hose_law.proofs.Distances.{distance_unique, distance_itself}
use Rattle.hose_law.proofs.Rows.{tight_not_root, row_distance, row_has_tight_link, row_leads_nearer, row_tight_link}

-- what is in a list is in it the other way round
module _ {X Y : Type 0} (f : X → Y) where
  map_reverse : (x : X) (xs : List X) → map f (reverse (x ∷ xs)) ≡ map f (reverse xs) ++ f x ∷ []
  map_reverse x xs = ap (map f) (reverse-append (x ∷ []) xs) ∙ map-append f (reverse xs) (x ∷ [])

  pub in_reverse : (xs : List X) (y : Y) → Contains (map f xs) y → Contains (map f (reverse xs)) y
  in_reverse [] y there = there
  in_reverse (x ∷ xs) y there = rw (map_reverse x xs) (elim (first_or_rest (f x) y (map f xs) there) [
    | inl same ↦ subst (λ (z : Y). Contains (map f (reverse xs) ++ f x ∷ []) z) same (Contains-push (map f (reverse xs)) (f x))
    | inr behind ↦ Contains-append_left (map f (reverse xs)) (f x ∷ []) y (in_reverse xs y behind)
  ])

  pub from_reverse : (xs : List X) (y : Y) → Contains (map f (reverse xs)) y → Contains (map f xs) y
  from_reverse [] y there = there
  from_reverse (x ∷ xs) y there =
      elim (Contains-append_cases (map f (reverse xs)) (f x ∷ []) y (subst (λ (ys : List Y). Contains ys y) (map_reverse x xs) there)) [
        | inl before ↦ contains_rest (f x) y (map f xs) (from_reverse xs y before)
        | inr last ↦ elim (first_or_rest (f x) y [] last) [
          | inl same ↦ contains_first (f x) y (map f xs) same
          | inr none ↦ absurd (omega (arith, none.1))
        ]
      ]

-- a link leads from a node to one other
pub other_unique : (network : Network) → IsNetwork network → (l v x y : ℕ) → Joins network l v x → Joins network l v y → x ≡ y
other_unique network is l v x y one two =
    let by = joined network is l v x one in
    elim by.ends [
      | inl first ↦ elim (joins_its_ends network l v y by.link by.there two) [
        | inl other ↦ sym first.1 ∙ other.1
        | inr turned ↦ absurd (by.is_link.no_loop (first.0 ∙ sym turned.1))
      ]
      | inr second ↦ elim (joins_its_ends network l v y by.link by.there two) [
        | inl other ↦ absurd (by.is_link.no_loop (other.0 ∙ sym second.1))
        | inr turned ↦ sym second.0 ∙ turned.0
      ]
    ]

-- a node has one tight link
pub tight_link_unique : (network : Network) (set : List Bool) (root v l m : ℕ) → IsTightLink network set root v l → IsTightLink network set root v m
    → l ≡ m
tight_link_unique network set root v l m one other = omega (arith, one.lowest m other.tight, other.lowest l one.tight)

module _ (network : Network) (is : IsNetwork network) (set : List Bool) (root : ℕ) where
  -- a node has one tight way
  pub tight_way_unique : (v : ℕ) (one other : List ℕ) → IsTightWay network set root v one → IsTightWay network set root v other → one ≡ other
  tight_way_unique v [] [] is_one is_other = refl
  tight_way_unique v [] (m ∷ other) is_one is_other = absurd (tight_not_root network is set root v m is_other.0.tight is_one)
  tight_way_unique v (l ∷ one) [] is_one is_other = absurd (tight_not_root network is set root v l is_one.0.tight is_other)
  tight_way_unique v (l ∷ one) (m ∷ other) is_one is_other =
      let links : l ≡ m = tight_link_unique network set root v l m is_one.0 is_other.0 in
      let nodes : is_one.1.0 ≡ is_other.1.0 =
      other_unique network is m v is_one.1.0 is_other.1.0 (subst (λ (k : ℕ). Joins network k v is_one.1.0) links is_one.1.1) is_other.1.1 in
      let ways : one ≡ other =
      tight_way_unique is_other.1.0 one other (subst (λ (x : ℕ). IsTightWay network set root x one) nodes is_one.1.2) is_other.1.2 in
      ap (λ (k : ℕ). k ∷ one) links ∙ ap (λ (w : List ℕ). m ∷ w) ways

  -- the other node of a tight link is nearer
  pub other_nearer : (v l other : ℕ) (tight : IsTight network set root v l) → Joins network l v other
      → IsDistance network set root other tight.nearer
  other_nearer v l other tight joins =
      subst (λ (x : ℕ). IsDistance network set root x tight.nearer)
      (other_unique network is l v tight.other other tight.joins joins)
      tight.other_distance

-- A node that a row reaches has a tight way, of which the links cost its distance.
pub record HasTightWay (network : Network) (set : List Bool) (root v distance : ℕ) : Type 0 where
  pub way : List ℕ
  pub is_way : IsTightWay network set root v way
  pub costs : walk_cost network way ≡ distance

module _ (network : Network) (is : IsNetwork network) (set : List Bool) (root : ℕ) (row : Distances) (is_row : IsRow network set root row) where
  way_below : (bound v d : ℕ) → d < bound → v < length network.nodes → distance_of row v ≡ Some d → HasTightWay network set root v d
  way_below zero v d below node there = absurd (omega (arith, below))
  way_below (suc bound) v d below node there = elim (cases_eq v root) [
    | inl same ↦
        let none : d ≡ 0 =
        distance_unique network set root v d 0 (row_distance network is set root row is_row v d node there)
        (subst (λ (n : ℕ). IsDistance network set root n 0) (sym same) (distance_itself network set root)) in
        record { way = []; is_way = same; costs = sym none }
    | inr differ ↦
        let link = row_has_tight_link network is set root row is_row v d node differ there in
        let leads = row_leads_nearer network is set root row is_row v link.0 node link.1 in
        let far : leads.nearer + cost_of network link.0 ≡ d = same_Some _ d (sym leads.here ∙ there) in
        let costs = leads.costs in
        let rest = way_below bound leads.other leads.nearer (omega (arith, far, costs, below)) leads.is_node leads.there in
        record {
          way = link.0 ∷ rest.way;
          is_way = (row_tight_link network is set root row is_row v link.0 node link.1, (leads.other, leads.joins, rest.is_way));
          costs = omega (arith, rest.costs, far);
        }
  ]

  pub tight_way : (v d : ℕ) → v < length network.nodes → distance_of row v ≡ Some d → HasTightWay network set root v d
  tight_way v d node there = way_below (d + 1) v d (omega arith) node there

module _ (network : Network) (is : IsNetwork network) (set : List Bool) (root : ℕ) where
  -- each step's link is the tight link of the node that it leads to
  abbrev pub AreTight : List Step → Type 0
  AreTight steps = All (λ (step : Step). IsTightLink network set root step.new step.link) steps

  -- the step that leads to a node
  record HasStep (steps : List Step) (v : ℕ) : Type 0 where
    link : ℕ
    old : ℕ
    on : IsOn root steps old
    joins : Joins network link v old
    tight : IsTightLink network set root v link
    there : Contains (map (λ (step : Step). step.link) steps) link

  -- what is on a tree is on it after one more step
  pub on_after : (step : Step) (earlier : List Step) (v : ℕ) → IsOn root earlier v → IsOn root (step ∷ earlier) v
  on_after step earlier v (inl same) = inl same
  on_after step earlier v (inr there) = inr (contains_rest step.new v (map (λ (s : Step). s.new) earlier) there)

  step_to : (steps : List Step) (v : ℕ) → Grow network root steps → AreTight steps → Contains (map (λ (step : Step). step.new) steps) v
      → HasStep steps v
  step_to [] v grow tight there = absurd (omega (arith, there.1))
  step_to (step ∷ earlier) v grow tight there = elim (first_or_rest step.new v (map (λ (s : Step). s.new) earlier) there) [
    | inl same ↦ record {
      link = step.link;
      old = step.old;
      on = on_after step earlier step.old grow.1;
      joins = subst (λ (n : ℕ). Joins network step.link n step.old) same (joins_turned network step.link step.old step.new grow.3);
      tight = subst (λ (n : ℕ). IsTightLink network set root n step.link) same (tight zero step (omega arith));
      there = contains_first step.link step.link (map (λ (s : Step). s.link) earlier) refl;
    }
    | inr behind ↦
        let has = step_to earlier v grow.0 (λ k d below. tight (suc k) d (omega (arith, below))) behind in
        record {
          link = has.link;
          old = has.old;
          on = on_after step earlier has.old has.on;
          joins = has.joins;
          tight = has.tight;
          there = contains_rest step.link has.link (map (λ (s : Step). s.link) earlier) has.there;
        }
  ]

  -- A tree along tight links has the whole tight way of each of its nodes.
  pub way_stays : (steps : List Step) → Grow network root steps → AreTight steps → (v : ℕ) (way : List ℕ) → IsOn root steps v
      → IsTightWay network set root v way → (l : ℕ) → Contains way l → Contains (map (λ (step : Step). step.link) steps) l
  way_stays steps grow tight v [] on is_way l there = absurd (omega (arith, there.1))
  way_stays steps grow tight v (m ∷ way) (inl same) is_way l there = absurd (tight_not_root network is set root v m is_way.0.tight same)
  way_stays steps grow tight v (m ∷ way) (inr new) is_way l there =
      let has = step_to steps v grow tight new in
      let links : has.link ≡ m = tight_link_unique network set root v has.link m has.tight is_way.0 in
      let nodes : has.old ≡ is_way.1.0 =
      other_unique network is m v has.old is_way.1.0 (subst (λ (k : ℕ). Joins network k v has.old) links has.joins) is_way.1.1 in
      elim (first_or_rest m l way there) [
        | inl first ↦
            subst (λ (k : ℕ). Contains (map (λ (step : Step). step.link) steps) k) (links ∙ first) has.there
        | inr behind ↦ way_stays steps grow tight is_way.1.0 way (subst (IsOn root steps) nodes has.on) is_way.1.2 l behind
      ]
