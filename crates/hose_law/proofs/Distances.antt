-- Walks by what they cost: one after another, the other way, by their last link; and distances.
use Rattle.std.proofs.Common.{◌≡◌, ◌≢◌, ◌∙◌, ℕ, ◌+◌, ◌≤◌, Bool, List, [], ◌∷◌, refl, sym, ap, subst, arith, add_assoc, add-zero, zero-add}
use Rattle.hose_graph.specs.Network.{Network}
use Rattle.hose_law.specs.Walk.{cost_of, Joins, IsIn, IsWalk, walk_cost, IsDistance}
use Rattle.hose_law.proofs.Walks.{joins_turned}

-- some walk from the one node to the other costs this
pub record HasWalk (network : Network) (set : List Bool) (u v cost : ℕ) : Type 0 where
  pub walk : List ℕ
  pub walks : IsWalk network set u v walk
  pub costs : walk_cost network walk ≡ cost

module _ (network : Network) (set : List Bool) where
  pub from_walk : (u v : ℕ) (walk : List ℕ) → IsWalk network set u v walk → HasWalk network set u v (walk_cost network walk)
  from_walk u v walk along = record { walk = walk; walks = along; costs = refl }

  pub from_distance : (u v distance : ℕ) → IsDistance network set u v distance → HasWalk network set u v distance
  from_distance u v distance is = record { walk = is.walk; walks = is.walks; costs = is.costs }

  pub none_costs : (u : ℕ) → HasWalk network set u u 0
  none_costs u = record { walk = []; walks = refl; costs = refl }

  pub link_costs : (l u v : ℕ) → IsIn set l → Joins network l u v → HasWalk network set u v (cost_of network l)
  link_costs l u v there joins =
      record { walk = l ∷ []; walks = (v, there, joins, refl); costs = add-zero (cost_of network l) }

  -- what a walk costs is a number
  pub costing : (u v : ℕ) {c d : ℕ} → c ≡ d → HasWalk network set u v c → HasWalk network set u v d
  costing u v same has = record { walk = has.walk; walks = has.walks; costs = has.costs ∙ same }

  pub costs_with : (l u x v c : ℕ) → IsIn set l → Joins network l u x → HasWalk network set x v c
      → HasWalk network set u v (cost_of network l + c)
  costs_with l u x v c there joins has =
      record {
        walk = l ∷ has.walk;
        walks = (x, there, joins, has.walks);
        costs = ap (λ (n : ℕ). cost_of network l + n) has.costs;
      }

  -- one walk after another costs what both cost
  pub costs_on : (u x v : ℕ) (front : List ℕ) (c : ℕ) → IsWalk network set u x front → HasWalk network set x v c
      → HasWalk network set u v (walk_cost network front + c)
  costs_on u x v [] c same has =
      costing u v (sym (zero-add c)) (subst (λ (n : ℕ). HasWalk network set n v c) (sym same) has)
  costs_on u x v (l ∷ front) c along has =
      costing u v (sym (add_assoc (cost_of network l) (walk_cost network front) c))
      (costs_with l u along.0 v (walk_cost network front + c) along.1 along.2 (costs_on along.0 x v front c along.3 has))

  pub costs_both : (u x v b c : ℕ) → HasWalk network set u x b → HasWalk network set x v c → HasWalk network set u v (b + c)
  costs_both u x v b c front back =
      costing u v (ap (λ (n : ℕ). n + c) front.costs) (costs_on u x v front.walk c front.walks back)

  -- a walk costs as much the other way
  turned : (u v : ℕ) (walk : List ℕ) → IsWalk network set u v walk → HasWalk network set v u (walk_cost network walk)
  turned u v [] same = subst (λ (n : ℕ). HasWalk network set n u 0) same (none_costs u)
  turned u v (l ∷ walk) along =
      costing v u (omega arith)
      (costs_both v along.0 u (walk_cost network walk) (cost_of network l)
      (turned along.0 v walk along.3)
      (link_costs l along.0 u along.1 (joins_turned network l u along.0 along.2)))

  pub costs_back : (u v c : ℕ) → HasWalk network set u v c → HasWalk network set v u c
  costs_back u v c has = costing v u has.costs (turned u v has.walk has.walks)

  pub distance_from : (u v distance : ℕ) → HasWalk network set u v distance
      → ((other : List ℕ) → IsWalk network set u v other → distance ≤ walk_cost network other)
      → IsDistance network set u v distance
  distance_from u v distance has least =
      record { walk = has.walk; walks = has.walks; costs = has.costs; least = least }

  -- no walk costs less than the distance
  pub distance_least : (u v distance c : ℕ) → IsDistance network set u v distance → HasWalk network set u v c → distance ≤ c
  distance_least u v distance c is has = omega (arith, is.least has.walk has.walks, has.costs)

  -- two nodes have one distance
  pub distance_unique : (u v c d : ℕ) → IsDistance network set u v c → IsDistance network set u v d → c ≡ d
  distance_unique u v c d one other =
      omega (arith, distance_least u v c d one (from_distance u v d other), distance_least u v d c other (from_distance u v c one))

  -- the distance back is the distance there
  pub distance_back : (u v d : ℕ) → IsDistance network set u v d → IsDistance network set v u d
  distance_back u v d is =
      distance_from v u d (costs_back u v d (from_distance u v d is))
      (λ other along. distance_least u v d (walk_cost network other) is (turned v u other along))

  -- a node is at the distance 0 from itself
  pub distance_itself : (u : ℕ) → IsDistance network set u u 0
  distance_itself u = distance_from u u 0 (none_costs u) (λ other along. omega arith)

-- A walk's last link: the node before it, and what the way to that node costs.
pub record HasLast (network : Network) (set : List Bool) (u v cost : ℕ) : Type 0 where
  pub link : ℕ
  pub before : ℕ
  pub way : ℕ
  pub goes : HasWalk network set u before way
  pub in_set : IsIn set link
  pub joins : Joins network link before v
  pub costs : way + cost_of network link ≡ cost

-- a walk from a node to another one has a last link
pub last_link : (network : Network) (set : List Bool) (u v : ℕ) (walk : List ℕ) → IsWalk network set u v walk → u ≢ v
    → HasLast network set u v (walk_cost network walk)
last_link network set u v [] same other = absurd (other same)
last_link network set u v (l ∷ walk) along other = last u l along.0 along.1 along.2 walk along.3
  where
    last : (u l x : ℕ) → IsIn set l → Joins network l u x → (walk : List ℕ) → IsWalk network set x v walk
        → HasLast network set u v (cost_of network l + walk_cost network walk)
    last u l x there joins [] same =
        record {
          link = l;
          before = u;
          way = 0;
          goes = none_costs network set u;
          in_set = there;
          joins = subst (λ (n : ℕ). Joins network l u n) same joins;
          costs = omega arith;
        }
    last u l x there joins (m ∷ walk) along =
        let rest = last x m along.0 along.1 along.2 walk along.3 in
        record {
          link = rest.link;
          before = rest.before;
          way = cost_of network l + rest.way;
          goes = costs_with network set l u x rest.before rest.way there joins rest.goes;
          in_set = rest.in_set;
          joins = rest.joins;
          costs = omega (arith, rest.costs);
        }
