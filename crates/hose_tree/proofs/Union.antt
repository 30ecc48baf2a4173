-- A tree to which endpoint after endpoint is attached: in the end it is the union of their tight ways.
use Rattle.std.proofs.Common.{◌≡◌, ◌∙◌, ℕ, ◌<◌, Bool, false, List, [], ◌∷◌, ◌++◌, length, get_or, replicate, reverse, All, Contains, IsSome, refl, sym, subst, inl, inr, arith}
use Rattle.std.proofs.lemmas.Bool.{cases_lt, true≢false}
use Rattle.std.proofs.lemmas.List.{get_or_default, get_or_past, get_or-replicate, length-replicate}
use Rattle.std.proofs.lemmas.List.Elements.{All-push, Contains-append_left, Contains-push}
use Rattle.hose_graph.specs.declared.topology.Step.{Step}
use Rattle.hose_graph.specs.Network.{Network, IsNetwork}
use Rattle.hose_graph.specs.Row.{Distances, distance_of}
use Rattle.hose_law.specs.Walk.{IsIn, IsWalk}
use Rattle.hose_law.specs.Row.{IsRow}
use Rattle.hose_law.specs.Tree.{IsOn, step_links}
use Rattle.hose_law.specs.CanonicalPlan.{IsTightWay, IsOnWay, IsCanonicalTree}
use Rattle.hose_law.proofs.Joined.{joins_nodes}
use Rattle.hose_law.proofs.Rows.{row_distance}
use Rattle.hose_law.proofs.TightWays.{in_reverse, from_reverse, way_stays}
use Rattle.hose_tree.specs.steps.Attached.{IsTightTree, IsAttached}
use Rattle.hose_tree.proofs.Attaching.{its_distance, is_node}
use Rattle.hose_graph.proofs.Members.{first_or_rest}

-- All these endpoints are on the tree, and each of its links is on the way of one of them.
pub record HasAttached (network : Network) (set : List Bool) (root : ℕ) (ends : List (ℕ × ℕ)) (steps : List Step) (on : List Bool) : Type 0 where
  pub is_tree : IsTightTree network set root steps on
  pub joins : All (λ (end : ℕ × ℕ). IsOn root steps end.0) ends
  pub union : (l : ℕ) → Contains (step_links steps) l → IsOnWay network set root ends l

-- what holds of all holds of what is among them
among : (P : ℕ × ℕ → Type 0) (ends : List (ℕ × ℕ)) (end : ℕ × ℕ) → All P ends → Contains ends end → P end
among P ends end all there = subst P there.2 (all there.0 end there.1)

module _ (network : Network) (is : IsNetwork network) (set : List Bool) (root : ℕ) where
  -- one more endpoint
  pub one_more : (ends : List (ℕ × ℕ)) (end : ℕ × ℕ) (old new : List Step) (before on : List Bool)
      → HasAttached network set root ends old before → IsAttached network set root end.0 old new on
      → HasAttached network set root (ends ++ end ∷ []) new on
  one_more ends end old new before on has by =
      record {
        is_tree = by.is_tree;
        joins =
            All-push (λ (e : ℕ × ℕ). IsOn root new e.0) ends end
            (λ k d below. by.keeps (get_or ends k d).0 (has.joins k d below))
            by.here;
        union = λ l there. elim (by.links l there) [
          | inl earlier ↦
              let on_way = has.union l earlier in
              record {
                end = on_way.end;
                is_end = Contains-append_left ends (end ∷ []) on_way.end on_way.is_end;
                way = on_way.way;
                is_way = on_way.is_way;
                on_way = on_way.on_way;
              }
          | inr on_way ↦ record {
            end = end;
            is_end = Contains-push ends end;
            way = on_way.0;
            is_way = on_way.1;
            on_way = on_way.2;
          }
        ];
      }

  -- with no endpoint the tree is the root alone
  pub none_attached : (n : ℕ) → root < length network.nodes → HasAttached network set root [] [] (replicate n false)
  none_attached n node =
      record {
        is_tree = record {
          grows = node;
          tight = λ k d below. absurd (omega (arith, below));
          marks = λ v. (λ on. absurd (true≢false (sym on ∙ all_off v)), λ there. absurd (omega (arith, there.1)));
        };
        joins = λ k d below. absurd (omega (arith, below));
        union = λ l there. absurd (omega (arith, there.1));
      }
    where
      all_off : (v : ℕ) → get_or (replicate n false) v false ≡ false
      all_off v = elim (cases_lt v n) [
        | inl below ↦ get_or-replicate n v false false below
        | inr past ↦ get_or_past (replicate n false) v false (omega (arith, length-replicate {A = Bool} n false))
      ]

  -- the links of a tight way are in the set
  way_in_set : (v l : ℕ) (way : List ℕ) → IsTightWay network set root v way → Contains way l → IsIn set l
  way_in_set v l [] is_way there = absurd (omega (arith, there.1))
  way_in_set v l (m ∷ way) is_way there = elim (first_or_rest m l way there) [
    | inl same ↦ subst (IsIn set) same is_way.0.tight.in_set
    | inr behind ↦ way_in_set is_way.1.0 l way is_way.1.2 behind
  ]

  -- what is on the steps the other way round is on them
  on_reverse : (steps : List Step) (v : ℕ) → IsOn root (reverse steps) v → IsOn root steps v
  on_reverse steps v (inl same) = inl same
  on_reverse steps v (inr there) = inr (from_reverse (λ (step : Step). step.new) steps v there)

  -- Once all endpoints are attached, the tree is the canonical one.
  pub is_canonical : (hose : List (ℕ × ℕ)) (steps : List Step) (on : List Bool) → HasAttached network set root hose (reverse steps) on
      → IsCanonicalTree network set hose root (record { start = root; steps = steps })
  is_canonical hose steps on has =
      record {
        starts = refl;
        is_tree = has.is_tree.grows;
        over = λ k d below.
            let links = step_links steps in
            let l = get_or links k d in
            let there : Contains links l = (k, below, get_or_default links k l d below) in
            let by = has.union l (in_reverse (λ (step : Step). step.link) steps l there) in
            way_in_set by.end.0 l by.way by.is_way by.on_way;
        joins = λ k d below. on_reverse steps (get_or hose k d).0 (has.joins k d below);
        union = λ l. (
          λ there. has.union l (in_reverse (λ (step : Step). step.link) steps l there),
          λ by.
              let on_tree = among (λ (end : ℕ × ℕ). IsOn root (reverse steps) end.0) hose by.end has.joins by.is_end in
              let kept = way_stays network is set root (reverse steps) has.is_tree.grows has.is_tree.tight by.end.0 by.way on_tree by.is_way l by.on_way in
              from_reverse (λ (step : Step). step.link) steps l kept,
        );
      }

-- where a node is reached from a root, the root is a node
walk_root : (network : Network) → IsNetwork network → (set : List Bool) (root v : ℕ) (walk : List ℕ) → IsWalk network set root v walk
    → v < length network.nodes → root < length network.nodes
walk_root network is set root v [] same node = subst (λ (n : ℕ). n < length network.nodes) (sym same) node
walk_root network is set root v (l ∷ walk) along node = (joins_nodes network is l root along.0 along.2).0

-- the root of a row that has a distance is a node
pub root_is_node : (network : Network) → IsNetwork network → (set : List Bool) (root : ℕ) (row : Distances) → IsRow network set root row
    → (v : ℕ) → IsSome (distance_of row v) → root < length network.nodes
root_is_node network is set root row is_row v some =
    let its = its_distance row v some in
    let node = is_node network is set root row is_row v some in
    let from = row_distance network is set root row is_row v its.0 node its.1 in
    walk_root network is set root v from.walk from.walks node
