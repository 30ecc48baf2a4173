-- Forests: the sums at each node, as links are added and taken away.
use Rattle.std.proofs.Common.{◌≡◌, ◌≢◌, ◌∙◌, ℕ, zero, suc, ◌+◌, ◌-◌, ◌*◌, ◌<◌, ◌≤◌, Bool, true, false, List, ◌∷◌, Option, None, Some, length, take, min, cond, eqb, get_or, replicate, refl, sym, ap, subst, arith}
use Rattle.std.specs.List.{All, Contains, IsDistinct, slice_get}
use Rattle.std.proofs.lemmas.Cmp.{nat_eq_equiv}
use Rattle.std.proofs.lemmas.List.{length-take}
use Rattle.std.proofs.lemmas.List.Elements.{All-contains, All-map, All-take, All-weaker}
use Rattle.std.proofs.lemmas.List.Sorted.{Contains-permutation, IsPermutation-map, IsPermutation-sym, length_permutation}
use Rattle.std.proofs.lemmas.List.Sums.{sum_by-le, sum_by_more}
use Rattle.std.proofs.lemmas.Map.Keys.{IsDistinct-IsPermutation}
use Rattle.hose_graph.specs.Ascending.{firsts}
use Rattle.hose_graph.specs.Hose.{total_rate}
use Rattle.hose_graph.specs.Network.{Network}
use Rattle.hose_graph.specs.declared.limits.TheConstants.{MOST_ENDS, MOST_NODES, MOST_RATE, MOST_TREE_LINKS}
use Rattle.hose_graph.specs.declared.topology.Link.{Link}
use Rattle.hose_graph.specs.declared.topology.Step.{Step}
use Rattle.hose_graph.proofs.Members.{contains_first, contains_rest}
use Rattle.hose_law.specs.Book.{amount_on}
use Rattle.hose_law.specs.Walk.{Joins}
use Rattle.hose_law.proofs.Joined.{joins_nodes}
use Rattle.hose_law.proofs.Trees.{amount_on-le, moved, moved_node, moved_total, step_amounts-le}
use Rattle.hose_law.proofs.Walks.{joins_turned}
use Rattle.hose_tree.specs.steps.Peeling.{AreLeavesStill, HasRoom, HasSmallRoom, IsForestOf, IsLinked, IsInSums, IsPossible, IsYes, AreSumsOf, Question, StandsForQuestion, at_ends, sum_at}
use Rattle.hose_tree.specs.steps.Rates.{AreRatesOf}
use Rattle.hose_tree.specs.declared.judge.Forest.{Forest}
use Rattle.hose_tree.proofs.Moving.{rates_moved}
use Rattle.hose_tree.proofs.Peels.{all_members, peel_off, peel_on}
use Rattle.hose_tree.proofs.Touching.{IsLeaf, ends_at, ends_none, leads_nowhere, leads_to, leaf, sum_here, sum_left}

-- at first all sums are 0
pub zeros : (n v : ℕ) → get_or {A = ℕ} (replicate n 0) v 0 ≡ 0
zeros zero v = refl
zeros (suc n) zero = refl
zeros (suc n) (suc v) = zeros n v

-- what a link adds at a node
at_ends-le : (found : Option Link) (v number : ℕ) → at_ends found v number ≤ 2 * number
at_ends-le None v number = omega arith
at_ends-le (Some link) v number = omega (arith, at (eqb link.a v), at (eqb link.b v))
  where
    at : (test : Bool) → cond test number 0 ≤ number
    at true = omega arith
    at false = omega arith

-- Numbers that are no greater than a hose's total leave room for one more.
abbrev pub MOST : ℕ
MOST = MOST_ENDS * MOST_RATE

pub room : (network : Network) (number : ℕ × ℕ → ℕ) (pairs : List (ℕ × ℕ)) (i n : ℕ) (sums : List ℕ) → All (λ (pair : ℕ × ℕ). number pair ≤ MOST) pairs → length pairs ≤ MOST_TREE_LINKS
    → n ≤ MOST → AreSumsOf network number (take i pairs) sums → HasRoom n sums
room network number pairs i n sums most few small are v =
    let count : ℕ × ℕ → ℕ = λ pair. at_ends (slice_get network.links pair.0) v (number pair) in
    let each : All (λ (pair : ℕ × ℕ). count pair ≤ 2 * MOST) (take i pairs) =
    All-weaker (λ (pair : ℕ × ℕ). number pair ≤ MOST) (λ (pair : ℕ × ℕ). count pair ≤ 2 * MOST)
    (λ pair within. omega (arith, within, at_ends-le (slice_get network.links pair.0) v (number pair))) (take i pairs) (All-take (λ (pair : ℕ × ℕ). number pair ≤ MOST) i pairs most) in
    omega (arith, sum_by-le count (2 * MOST) (take i pairs) each, length-take i pairs, are v, few, small)

-- Links' numbers, and links, leave room among small ones.
abbrev pub MOST_SMALL : ℕ
MOST_SMALL = 2048

pub small_room : (network : Network) (number : ℕ × ℕ → ℕ) (pairs : List (ℕ × ℕ)) (i n : ℕ) (sums : List ℕ) → All (λ (pair : ℕ × ℕ). number pair ≤ MOST_SMALL) pairs → length pairs ≤ MOST_TREE_LINKS
    → n ≤ MOST_SMALL → AreSumsOf network number (take i pairs) sums → HasSmallRoom n sums
small_room network number pairs i n sums most few small are v =
    let count : ℕ × ℕ → ℕ = λ pair. at_ends (slice_get network.links pair.0) v (number pair) in
    let each : All (λ (pair : ℕ × ℕ). count pair ≤ 2 * MOST_SMALL) (take i pairs) =
    All-weaker (λ (pair : ℕ × ℕ). number pair ≤ MOST_SMALL) (λ (pair : ℕ × ℕ). count pair ≤ 2 * MOST_SMALL)
    (λ pair within. omega (arith, within, at_ends-le (slice_get network.links pair.0) v (number pair))) (take i pairs) (All-take (λ (pair : ℕ × ℕ). number pair ≤ MOST_SMALL) i pairs most) in
    omega (arith, sum_by-le count (2 * MOST_SMALL) (take i pairs) each, length-take i pairs, are v, few, small)

-- One pair more, in whichever place.
pub record IsMore (network : Network) (pairs : List (ℕ × ℕ)) (pair : ℕ × ℕ) (more : List (ℕ × ℕ)) : Type 0 where
  pub sums : (number : ℕ × ℕ → ℕ) (v : ℕ) → sum_at network number more v ≡ sum_at network number pairs v + at_ends (slice_get network.links pair.0) v (number pair)
  pub long : length more ≡ length pairs + 1

module _ (network : Network) (ends pairs more : List (ℕ × ℕ)) (pair : ℕ × ℕ) (is_more : IsMore network pairs pair more) (link : Link) (there : slice_get network.links pair.0 ≡ Some link)
    (before after : Forest) (linked : IsLinked link pair.0 pair.1 before after) where
  same_ends : (v number : ℕ) → at_ends (slice_get network.links pair.0) v number ≡ at_ends (Some link) v number
  same_ends v number = ap (λ (found : Option Link). at_ends found v number) there

  -- a forest with a link more is of one pair more, and the other way round
  pub forest_more : IsForestOf network ends pairs before → IsForestOf network ends more after
  forest_more is = record {
    degrees = λ v. omega (arith, is.degrees v, linked.degrees v, is_more.sums (λ p. 1) v, same_ends v 1);
    links = λ v. omega (arith, is.links v, linked.links v, is_more.sums (λ p. p.0) v, same_ends v pair.0);
    amounts = λ v. omega (arith, is.amounts v, linked.amounts v, is_more.sums (λ p. p.1) v, same_ends v pair.1);
    rates = subst (AreRatesOf ends) (sym linked.rates) is.rates;
    left = omega (arith, is.left, linked.left, is_more.long);
  }

  pub forest_less : IsForestOf network ends more after → IsForestOf network ends pairs before
  forest_less is = record {
    degrees = λ v. omega (arith, is.degrees v, linked.degrees v, is_more.sums (λ p. 1) v, same_ends v 1);
    links = λ v. omega (arith, is.links v, linked.links v, is_more.sums (λ p. p.0) v, same_ends v pair.0);
    amounts = λ v. omega (arith, is.amounts v, linked.amounts v, is_more.sums (λ p. p.1) v, same_ends v pair.1);
    rates = subst (AreRatesOf ends) linked.rates is.rates;
    left = omega (arith, is.left, linked.left, is_more.long);
  }

-- the next pair of a list is one more
pub next_more : (network : Network) (pairs : List (ℕ × ℕ)) (i : ℕ) → i < length pairs → IsMore network (take i pairs) (get_or pairs i (0, 0)) (take (i + 1) pairs)
next_more network pairs i below = record {
  sums = λ number v. sum_by_more (λ (pair : ℕ × ℕ). at_ends (slice_get network.links pair.0) v (number pair)) pairs i (0, 0) below;
  long = omega (arith, length-take i pairs, length-take (i + 1) pairs, below);
}

rest_distinct : (x : ℕ) (xs : List ℕ) → IsDistinct eqb (x ∷ xs) → IsDistinct eqb xs
unfolding IsDistinct
rest_distinct x xs distinct = distinct.1

-- The leaf of a forest at which one link is left.
module _ (network : Network) (total : ℕ) (question : Question) (forest : Forest) (stands : StandsForQuestion network total question forest) (v : ℕ) (one : get_or forest.degrees v 0 ≡ 1) where
  -- the pair whose link ends there is read off the forest
  abbrev pub leaf_pair : ℕ × ℕ
  leaf_pair = (get_or forest.links v 0, get_or forest.amounts v 0)

  pub is_leaf : IsLeaf network v stands.pairs leaf_pair
  is_leaf =
      let found = leaf network v stands.pairs (sym (stands.is_forest.degrees v) ∙ one) in
      let number : found.0.0 ≡ leaf_pair.0 = sym (stands.is_forest.links v ∙ sum_here network v stands.pairs found.0 found.1 (λ p. p.0)) in
      let amount : found.0.1 ≡ leaf_pair.1 = sym (stands.is_forest.amounts v ∙ sum_here network v stands.pairs found.0 found.1 (λ p. p.1)) in
      subst (IsLeaf network v stands.pairs) (ap (λ (n : ℕ). (n, found.0.1)) number ∙ ap (λ (n : ℕ). (leaf_pair.0, n)) amount) found.1

  all_pairs : (pair : ℕ × ℕ) → Contains (leaf_pair ∷ is_leaf.rest) pair → Contains stands.pairs pair
  all_pairs pair there = Contains-permutation (leaf_pair ∷ is_leaf.rest) stands.pairs pair (IsPermutation-sym stands.pairs (leaf_pair ∷ is_leaf.rest) is_leaf.order) there

  pub leaf_possible : IsPossible (length network.links) total leaf_pair
  leaf_possible = All-contains (IsPossible (length network.links) total) stands.pairs leaf_pair stands.possible (all_pairs leaf_pair (contains_first leaf_pair leaf_pair is_leaf.rest refl))

  pub leaf_joins : (w : ℕ) × Joins network leaf_pair.0 v w
  leaf_joins = leads_to network leaf_pair.0 v (omega (arith, is_leaf.here))

  -- the pairs are one more than those that are left
  pub leaf_more : IsMore network is_leaf.rest leaf_pair stands.pairs
  leaf_more = record {
    sums = λ number u. sum_left network v stands.pairs leaf_pair is_leaf number u;
    long = omega (arith, length_permutation stands.pairs (leaf_pair ∷ is_leaf.rest) is_leaf.order);
  }

  pub leaf_left : 0 < forest.left
  leaf_left = omega (arith, stands.is_forest.left, leaf_more.long)

  -- no link that is left leads from the leaf
  others : (other : ℕ × ℕ) (x : ℕ) → Contains is_leaf.rest other → Joins network other.0 v x → ⊥
  others other x there leads =
      leads_nowhere network stands.network other.0 v x (All-contains (λ (p : ℕ × ℕ). ends_at network v p.0 ≡ 0) is_leaf.rest other is_leaf.others there) leads

  -- what stands at a node has the link's part
  part : (number : ℕ × ℕ → ℕ) (sums : List ℕ) (link : Link) → slice_get network.links leaf_pair.0 ≡ Some link → AreSumsOf network number stands.pairs sums
      → IsInSums link (number leaf_pair) sums
  part number sums link there are u = omega (arith, are u, leaf_more.sums number u, ap (λ (found : Option Link). at_ends found u (number leaf_pair)) there)

  pub degree_part : (link : Link) → slice_get network.links leaf_pair.0 ≡ Some link → IsInSums link 1 forest.degrees
  degree_part link there = part (λ p. 1) forest.degrees link there stands.is_forest.degrees

  pub link_part : (link : Link) → slice_get network.links leaf_pair.0 ≡ Some link → IsInSums link leaf_pair.0 forest.links
  link_part link there = part (λ p. p.0) forest.links link there stands.is_forest.links

  pub amount_part : (link : Link) → slice_get network.links leaf_pair.0 ≡ Some link → IsInSums link leaf_pair.1 forest.amounts
  amount_part link there = part (λ p. p.1) forest.amounts link there stands.is_forest.amounts

  module _ (place : v < length forest.rates) where
    abbrev rate : ℕ
    rate = get_or forest.rates v 0

    is_rate : rate ≡ amount_on v stands.ends
    is_rate = stands.is_forest.rates v place

    pub rate-le : rate ≤ total
    rate-le = omega (arith, is_rate, amount_on-le v stands.ends, stands.sum)

    smaller : min rate (total - rate) ≡ min (amount_on v stands.ends) (total_rate stands.ends - amount_on v stands.ends)
    smaller = omega (arith, is_rate, stands.sum)

    -- a wrong amount there is a no
    pub wrong_amount : leaf_pair.1 ≢ min rate (total - rate) → IsYes network question → ⊥
    wrong_amount wrong agreed =
        let off = peel_off network stands.network stands.ends stands.pairs is_leaf.rest leaf_pair leaf_joins.0 v (joins_turned network leaf_pair.0 v leaf_joins.0 leaf_joins.1)
        is_leaf.order others (stands.same.1 agreed) in
        wrong (off.0 ∙ sym smaller)

    module _ (w : ℕ) (joins : Joins network leaf_pair.0 v w) where
      differ : w ≢ v
      differ same = (joins_nodes network stands.network leaf_pair.0 v w joins).2 (sym same)

      pub other-lt : length forest.rates ≡ MOST_NODES → w < length forest.rates
      other-lt long = omega (arith, (joins_nodes network stands.network leaf_pair.0 v w joins).1, stands.network.few_nodes, long)

      -- the step that leads to the leaf
      abbrev step : Step
      step = record { link = leaf_pair.0; old = w; new = v }

      turned : Joins network leaf_pair.0 w v
      turned = joins_turned network leaf_pair.0 v w joins

      pub rates_fit : w < length forest.rates → get_or forest.rates w 0 + rate ≤ total
      rates_fit w_place = omega (arith, step_amounts-le step stands.ends differ, stands.is_forest.rates w w_place, is_rate, stands.sum)

      module _ (link : Link) (there : slice_get network.links leaf_pair.0 ≡ Some link) (after : Forest) (linked : IsLinked link leaf_pair.0 leaf_pair.1 after forest) where
        -- without the leaf no node has become one but the other of its link
        pub leaves_still : AreLeavesStill v w forest after
        leaves_still u not_w still =
            let ends : (x : ℕ) → ends_at network x leaf_pair.0 ≡ at_ends (Some link) x 1 = λ x. ap (λ (found : Option Link). at_ends found x 1) there in
            let not_v : u ≢ v =
            λ same.
            let none : get_or after.degrees v 0 ≡ 1 = subst (λ (n : ℕ). get_or after.degrees n 0 ≡ 1) same still in
            omega (arith, none, linked.degrees v, ends v, is_leaf.here, one) in
            (not_v, omega (arith, linked.degrees u, ends u, ends_none network leaf_pair.0 v w u joins not_v not_w, still))

        -- and the answer is the same for what is left
        pub stands_less : leaf_pair.1 ≡ min rate (total - rate) → (rates : List ℕ) → length rates ≡ length after.rates → w < length after.rates
            → get_or rates w 0 ≡ get_or after.rates w 0 + get_or after.rates v 0 → get_or rates v 0 ≡ 0 → ((u : ℕ) → u ≢ w → u ≢ v → get_or rates u 0 ≡ get_or after.rates u 0)
            → StandsForQuestion network total question (record { degrees = after.degrees; links = after.links; amounts = after.amounts; rates = rates; left = after.left })
        stands_less right rates long w_place at_w at_v elsewhere =
            let base = forest_less network stands.ends is_leaf.rest stands.pairs leaf_pair leaf_more link there after forest linked stands.is_forest in
            record {
              ends = moved step stands.ends;
              pairs = is_leaf.rest;
              is_forest = record {
                degrees = base.degrees;
                links = base.links;
                amounts = base.amounts;
                rates = rates_moved step stands.ends after.rates rates differ w_place (subst (λ (them : List ℕ). v < length them) linked.rates place) base.rates long at_w at_v elsewhere;
                left = base.left;
              };
              network = stands.network;
              distinct = rest_distinct leaf_pair.0 (firsts is_leaf.rest)
                  (IsDistinct-IsPermutation eqb nat_eq_equiv.symm (firsts stands.pairs) (firsts (leaf_pair ∷ is_leaf.rest))
                  (IsPermutation-map (λ (pair : ℕ × ℕ). pair.0) stands.pairs (leaf_pair ∷ is_leaf.rest) is_leaf.order) stands.distinct);
              possible = all_members (IsPossible (length network.links) total) is_leaf.rest
                  (λ pair left. All-contains (IsPossible (length network.links) total) stands.pairs pair stands.possible (all_pairs pair (contains_rest leaf_pair pair is_leaf.rest left)));
              rates = All-map (λ (end : ℕ × ℕ). 1 ≤ end.1) (λ (end : ℕ × ℕ). (moved_node step end.0, end.1)) stands.ends stands.rates;
              sum = moved_total step stands.ends ∙ stands.sum;
              same = (
                λ tree. stands.same.0 (peel_on network stands.network stands.ends stands.pairs is_leaf.rest leaf_pair w v turned is_leaf.order others leaf_possible.some (right ∙ smaller) tree),
                λ agreed. (peel_off network stands.network stands.ends stands.pairs is_leaf.rest leaf_pair w v turned is_leaf.order others (stands.same.1 agreed)).1,
              );
            }
