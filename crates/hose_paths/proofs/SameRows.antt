-- Networks that are alike but for names and capacities have the same rows.
use Rattle.std.proofs.Common.{◌≡◌, ◌⊎◌, ◌∙◌, ℕ, ◌+◌, ◌<◌, Bool, List, [], ◌∷◌, Option, None, Some, Result, Ok, Err, IfOk, length, map, get_or, refl, sym, ap, subst, inl, inr, arith}
use Rattle.std.specs.Option.{IsSomeAnd, MatchOption}
use Rattle.std.specs.List.{slice_get}
use Rattle.std.proofs.lemmas.List.{get_or_past, length-map}
use Rattle.std.proofs.lemmas.Option.{slice_get_cases, slice_get_within, slice_get-get_or, get_or_from_slice_get}
use Rattle.hose_graph.specs.declared.topology.Link.{Link}
use Rattle.hose_graph.specs.Network.{Network}
use Rattle.hose_graph.specs.Row.{Distances, distance_of, tight_link_of}
use Rattle.hose_law.specs.Row.{IsRow, IsTight, IsTightLink}
use Rattle.hose_law.specs.Walk.{cost_of, IsDistance, IsWalk, Joins, Reaches, walk_cost}
use Rattle.hose_law.proofs.Joined.{cost_of_link, joins_its_ends}
use Rattle.hose_paths.specs.steps.Alike.{AreCostAlike, JoinAtOneCost}
use Rattle.hose_paths.specs.steps.Rows.{AreRows, IsRowOf}

-- links in the same place of networks that are alike
pub turned : (one other : Network) → AreCostAlike one other → AreCostAlike other one
turned one other are = record {
  nodes = sym are.nodes;
  links = sym are.links;
  each = λ number link also there here. (let same = are.each number also link here there in (sym same.0, sym same.1, sym same.2));
}

pub same_alike : (one other : Network) → one ≡ other → AreCostAlike one other
same_alike one other same = subst (AreCostAlike one) same (record {
  nodes = refl;
  links = refl;
  each = λ number link also here there.
      (let is : link ≡ also = sym (get_or_from_slice_get one.links number link link here) ∙ get_or_from_slice_get one.links number also link there in
      (ap (λ (l : Link). l.a) is, ap (λ (l : Link). l.b) is, ap (λ (l : Link). l.cost) is));
})

-- the link of the other network that has the number of one
module _ (one other : Network) (are : AreCostAlike one other) where
  also_there : (number : ℕ) (link : Link) → slice_get one.links number ≡ Some link → (also : Link) × (slice_get other.links number ≡ Some also) × JoinAtOneCost link also
  also_there number link here =
      let within : number < length other.links = omega (arith, slice_get_within one.links number link here, are.links) in
      let there = slice_get-get_or other.links number link within in
      (get_or other.links number link, there, are.each number link (get_or other.links number link) here there)

  pub joins_alike : (l u v : ℕ) → Joins one l u v → Joins other l u v
  joins_alike l u v joins = at (slice_get one.links l) refl
    where
      Ends : Option Link → Type 0
      Ends found = IsSomeAnd found (λ (link : Link). ((link.a ≡ u) × (link.b ≡ v)) ⊎ ((link.a ≡ v) × (link.b ≡ u)))

      moved : (link also : Link) → JoinAtOneCost link also → ((link.a ≡ u) × (link.b ≡ v)) ⊎ ((link.a ≡ v) × (link.b ≡ u))
          → ((also.a ≡ u) × (also.b ≡ v)) ⊎ ((also.a ≡ v) × (also.b ≡ u))
      moved link also same (inl ends) = inl (sym same.0 ∙ ends.0, sym same.1 ∙ ends.1)
      moved link also same (inr ends) = inr (sym same.0 ∙ ends.0, sym same.1 ∙ ends.1)

      at : (found : Option Link) → slice_get one.links l ≡ found → Joins other l u v
      at None none = absurd (subst Ends none joins)
      at (Some link) here =
          let also = also_there l link here in
          subst Ends (sym also.1) (moved link also.0 also.2 (joins_its_ends one l u v link here joins))

  costs_alike : (l : ℕ) → cost_of one l ≡ cost_of other l
  costs_alike l = elim ((slice_get_cases one.links l).1) [
    | inl found ↦
        let also = also_there l found.0 found.2 in
        cost_of_link one l found.0 found.2 ∙ also.2.2 ∙ sym (cost_of_link other l also.0 also.1)
    | inr past ↦
        get_or_past (map cost one.links) l 0 (omega (arith, past.0, length-map one.links cost))
        ∙ sym (get_or_past (map cost other.links) l 0 (omega (arith, past.0, are.links, length-map other.links cost)))
  ]
    where
      cost : Link → ℕ
      cost link = link.cost

  walk_alike : (set : List Bool) (u v : ℕ) (walk : List ℕ) → IsWalk one set u v walk → IsWalk other set u v walk
  walk_alike set u v [] same = same
  walk_alike set u v (l ∷ walk) along = (along.0, along.1, joins_alike l u along.0 along.2, walk_alike set along.0 v walk along.3)

  walk_costs_alike : (walk : List ℕ) → walk_cost one walk ≡ walk_cost other walk
  walk_costs_alike [] = refl
  walk_costs_alike (l ∷ walk) = omega (arith, costs_alike l, walk_costs_alike walk)

  reaches_alike : (set : List Bool) (u v : ℕ) → Reaches one set u v → Reaches other set u v
  reaches_alike set u v reach = (reach.0, walk_alike set u v reach.0 reach.1)

-- what holds over one network of rows holds over the other
module _ (one other : Network) (are : AreCostAlike one other) (set : List Bool) (root : ℕ) where
  distance_alike : (v distance : ℕ) → IsDistance one set root v distance → IsDistance other set root v distance
  distance_alike v distance is = record {
    walk = is.walk;
    walks = walk_alike one other are set root v is.walk is.walks;
    costs = sym (walk_costs_alike one other are is.walk) ∙ is.costs;
    least = λ walk along. omega (arith, is.least walk (walk_alike other one (turned one other are) set root v walk along), walk_costs_alike one other are walk);
  }

  tight_alike : (v l : ℕ) → IsTight one set root v l → IsTight other set root v l
  tight_alike v l is = record {
    in_set = is.in_set;
    other = is.other;
    joins = joins_alike one other are l v is.other is.joins;
    nearer = is.nearer;
    other_distance = distance_alike is.other is.nearer is.other_distance;
    distance = subst (λ (cost : ℕ). IsDistance other set root v (is.nearer + cost)) (costs_alike one other are l) (distance_alike v (is.nearer + cost_of one l) is.distance);
  }

  place_alike : (v : ℕ) (found : Option ℕ) → MatchOption found (¬ Reaches one set root v) (IsDistance one set root v)
      → MatchOption found (¬ Reaches other set root v) (IsDistance other set root v)
  place_alike v None out = λ reach. out (reaches_alike other one (turned one other are) set root v reach)
  place_alike v (Some distance) is = distance_alike v distance is

module _ (one other : Network) (are : AreCostAlike one other) (set : List Bool) (root : ℕ) where
  back : AreCostAlike other one
  back = turned one other are

  tight_place_alike : (v : ℕ) (found : Option ℕ) → IsSomeAnd found (IsTightLink one set root v) → IsSomeAnd found (IsTightLink other set root v)
  tight_place_alike v None none = absurd none
  tight_place_alike v (Some l) is = record {
    tight = tight_alike one other are set root v l is.tight;
    lowest = λ k by. is.lowest k (tight_alike other one back set root v k by);
  }

  pub row_alike : (row : Distances) → IsRow one set root row → IsRow other set root row
  row_alike row is = record {
    rooted = is.rooted;
    dist_places = is.dist_places ∙ are.nodes;
    tight_places = is.tight_places ∙ are.nodes;
    distances = λ v node. place_alike one other are set root v (distance_of row v) (is.distances v (omega (arith, node, are.nodes)));
    root_has_none = is.root_has_none;
    unreached_have_none = λ v node out.
        is.unreached_have_none v (omega (arith, node, are.nodes)) (λ reach. out (reaches_alike one other are set root v reach));
    tight_links = λ v node differ reach.
        tight_place_alike v (tight_link_of row v)
        (is.tight_links v (omega (arith, node, are.nodes)) differ (reaches_alike other one back set root v reach));
  }

-- a row is that of each network that is alike
pub row_over : (one other : Network) (set links : List Bool) (root : ℕ) (row : Distances) → AreCostAlike one other → set ≡ links → IsRowOf one set root row → IsRowOf other links root row
row_over one other set links root row are same is = subst (λ (s : List Bool). IsRowOf other s root row) same (record {
  is_row = row_alike one other are set root row is.is_row;
  bounded = is.bounded;
})

pub made_over : {E : Type 0} (one other : Network) (set links : List Bool) (root : ℕ) (made : Result Distances E) → AreCostAlike one other → set ≡ links
    → IfOk made (IsRowOf one set root) → IfOk made (IsRow other links root)
made_over one other set links root (Ok row) are same is = (row_over one other set links root row are same is).is_row
made_over one other set links root (Err e) are same is = tt

-- so are kept rows
pub rows_alike : (one other : Network) (set links : List Bool) (rows : List Distances) → AreCostAlike one other → set ≡ links → AreRows one set rows → AreRows other links rows
rows_alike one other set links rows are same is = record {
  places = is.places ∙ are.nodes;
  each = λ root row there. row_over one other set links root row are same (is.each root row there);
}
