-- Where there are pairs of some tree there is a leaf; no pairs are what ends at one node reserve; and what is asked of a hose is what a tree of the topology
-- reserves for it.
use Rattle.std.proofs.Common.{◌≡◌, ◌≢◌, ◌∙◌, ℕ, ◌<◌, ◌≤◌, Bool, true, false, List, [], ◌∷◌, length, cond, eqb, reverse, refl, sym, ap, subst, inl, inr, arith}
use Rattle.std.specs.List.{All, Contains, IsDistinct, sum_by}
use Rattle.std.specs.Prelude.{◌↔◌}
use Rattle.std.proofs.lemmas.Bool.{cases_eq, eq-eqb, ne_eqb}
use Rattle.std.proofs.lemmas.List.{get_or-replicate, reverse-reverse}
use Rattle.std.proofs.lemmas.List.Elements.{All-contains, All-cons, All-from_recursion, All-head, All-tail, All-weaker}
use Rattle.std.proofs.lemmas.List.Sums.{sum_by-cons}
use Rattle.hose_graph.specs.Ascending.{firsts, IsAscending}
use Rattle.hose_graph.specs.Hose.{total_rate}
use Rattle.hose_graph.specs.Network.{Network, IsNetwork}
use Rattle.hose_graph.specs.declared.topology.Step.{Step}
use Rattle.hose_graph.proofs.Members.{contains_first, none_in_empty}
use Rattle.hose_law.specs.Book.{amount_on}
use Rattle.hose_law.specs.Tree.{Growth, Grow, IsOn, IsTreeReservation, links_of, smaller_side, step_links}
use Rattle.hose_law.specs.Walk.{IsIn, all_links}
use Rattle.hose_law.proofs.Apart.{AreApart, apart_links, same_sums}
use Rattle.hose_law.proofs.Bounds.{reserved_links}
use Rattle.hose_law.proofs.Joined.{joins_nodes}
use Rattle.hose_law.proofs.Reservations.{first_there, pair_there, reserved_in_tree, tree_in_reserved}
use Rattle.hose_law.proofs.TightWays.{from_reverse, in_reverse}
use Rattle.hose_law.proofs.Trees.{amount_on-le, distinct_behind, link_ends_on, on_reverse, rate_beyond-le}
use Rattle.hose_law.proofs.Walks.{joins_turned}
use Rattle.hose_tree.specs.steps.Peeling.{IsPossible, IsTreeOf, smaller_up, sum_at}
use Rattle.hose_tree.proofs.Touching.{ends_at, ends_once, leads_to, zero_sum}
use Rattle.hose_tree.proofs.Peels.{all_members}

-- numbers are apart where they are distinct
pub apart_distinct : (xs : List ℕ) → IsDistinct eqb xs → AreApart xs
unfolding IsDistinct
apart_distinct [] distinct = tt
apart_distinct (x ∷ xs) distinct = (
  λ again. differ (All-contains (λ (y : ℕ). eqb x y ≡ false) xs x (All-from_recursion (λ (y : ℕ). eqb x y ≡ false) xs distinct.0) again),
  apart_distinct xs distinct.1,
)
  where
    differ : eqb x x ≡ false → ⊥
    differ unequal = let equal : eqb x x ≡ true = eq-eqb x x refl in cc

pub distinct_apart : (xs : List ℕ) → AreApart xs → IsDistinct eqb xs
unfolding IsDistinct
distinct_apart [] apart = tt
distinct_apart (x ∷ xs) apart = distinct_behind x xs apart.0 (distinct_apart xs apart.1)

-- a sum over the links that pairs begin with
sum_firsts : (f : ℕ → ℕ) (pairs : List (ℕ × ℕ)) → sum_by (λ (pair : ℕ × ℕ). f pair.0) pairs ≡ sum_by f (firsts pairs)
sum_firsts f [] = refl
sum_firsts f (pair ∷ pairs) = omega (arith, sum_by-cons (λ (p : ℕ × ℕ). f p.0) pair pairs, sum_by-cons f pair.0 (firsts pairs), sum_firsts f pairs)

-- all is at a node where all ends are, and all ends are where all is
all_here : (v : ℕ) (ends : List (ℕ × ℕ)) → All (λ (end : ℕ × ℕ). end.0 ≡ v) ends → amount_on v ends ≡ total_rate ends
all_here v [] here = refl
all_here v (end ∷ ends) here =
    let first : cond (eqb end.0 v) end.1 0 ≡ end.1 = ap (λ (test : Bool). cond test end.1 0) (eq-eqb end.0 v (All-head (λ (e : ℕ × ℕ). e.0 ≡ v) end ends here)) in
    let rest = all_here v ends (All-tail (λ (e : ℕ × ℕ). e.0 ≡ v) end ends here) in
    omega (arith, sum_by-cons (λ (e : ℕ × ℕ). cond (eqb e.0 v) e.1 0) end ends, sum_by-cons (λ (e : ℕ × ℕ). e.1) end ends, first, rest)

here_all : (v : ℕ) (ends : List (ℕ × ℕ)) → All (λ (end : ℕ × ℕ). 1 ≤ end.1) ends → amount_on v ends ≡ total_rate ends → All (λ (end : ℕ × ℕ). end.0 ≡ v) ends
here_all v [] rates all = λ k d below. absurd (omega (arith, below))
here_all v (end ∷ ends) rates all =
    let here = sum_by-cons (λ (e : ℕ × ℕ). cond (eqb e.0 v) e.1 0) end ends in
    let total = sum_by-cons (λ (e : ℕ × ℕ). e.1) end ends in
    let rate = All-head (λ (e : ℕ × ℕ). 1 ≤ e.1) end ends rates in
    let most = amount_on-le v ends in
    elim (cases_eq end.0 v) [
      | inl same ↦
          let first : cond (eqb end.0 v) end.1 0 ≡ end.1 = ap (λ (test : Bool). cond test end.1 0) (eq-eqb end.0 v same) in
          All-cons (λ (e : ℕ × ℕ). e.0 ≡ v) end ends same (here_all v ends (All-tail (λ (e : ℕ × ℕ). 1 ≤ e.1) end ends rates) (omega (arith, here, total, first, all)))
      | inr other ↦
          let first : cond (eqb end.0 v) end.1 0 ≡ 0 = ap (λ (test : Bool). cond test end.1 0) (ne_eqb end.0 v other) in
          absurd (omega (arith, here, total, first, all, most, rate))
    ]

module _ (network : Network) (is : IsNetwork network) where
  -- pairs of a tree have a leaf, the last step's new node
  pub has_leaf : (ends pairs : List (ℕ × ℕ)) → IsDistinct eqb (firsts pairs) → pairs ≢ [] → IsTreeOf network ends pairs
      → (v : ℕ) × (v < length network.nodes) × (sum_at network (λ pair. 1) pairs v ≡ 1)
  has_leaf ends pairs distinct some tree = at pairs some tree.steps tree.grows (apart_distinct (firsts pairs) distinct) tree.links
    where
      ends_one : (start : ℕ) (step : Step) (earlier : List Step) → Grow network start (step ∷ earlier) → sum_by (ends_at network step.new) (step_links (step ∷ earlier)) ≡ 1
      ends_one start step earlier grows =
          let once = ends_once network is step.link step.new step.old (joins_turned network step.link step.old step.new grows.3) in
          let none : (k : ℕ) → Contains (step_links earlier) k → ends_at network step.new k ≡ 0 =
          λ k there. elim (cases_eq (ends_at network step.new k) 0) [
            | inl zero ↦ zero
            | inr leads ↦
                let to = leads_to network k step.new leads in
                absurd (grows.2 (link_ends_on network start earlier k step.new to.0 grows.0 there to.1).0)
          ] in
          omega (
            arith,
            sum_by-cons (ends_at network step.new) step.link (step_links earlier),
            once,
            zero_sum (ends_at network step.new) (step_links earlier) (all_members (λ (k : ℕ). ends_at network step.new k ≡ 0) (step_links earlier) none),
          )

      at : (pairs : List (ℕ × ℕ)) → pairs ≢ [] → (steps : List Step) → Grow network tree.start steps → AreApart (firsts pairs)
          → ((l : ℕ) → Contains (step_links steps) l ↔ Contains (firsts pairs) l)
          → (v : ℕ) × (v < length network.nodes) × (sum_at network (λ pair. 1) pairs v ≡ 1)
      at [] some steps grows apart links = absurd (some refl)
      at (pair ∷ rest) some [] grows apart links = absurd (none_in_empty pair.0 ((links pair.0).1 (contains_first pair.0 pair.0 (firsts rest) refl)))
      at (pair ∷ rest) some (step ∷ earlier) grows apart links =
          let v = step.new in
          let same = same_sums (ends_at network v) (firsts (pair ∷ rest)) (step_links (step ∷ earlier)) apart (apart_links network tree.start (step ∷ earlier) grows)
          (λ l. (links l).1) (λ l. (links l).0) in
          (v, (joins_nodes network is step.link step.old step.new grows.3).1, sum_firsts (ends_at network v) (pair ∷ rest) ∙ same ∙ ends_one tree.start step earlier grows)

  -- no pairs are what ends reserve that are all at one node
  pub bare_node : (ends : List (ℕ × ℕ)) → IsTreeOf network ends [] → (v : ℕ) × (v < length network.nodes) × (amount_on v ends ≡ total_rate ends)
  bare_node ends tree = at tree.steps tree.grows (λ l there. none_in_empty l ((tree.links l).0 there)) tree.joins
    where
      at : (steps : List Step) → Grow network tree.start steps → ((l : ℕ) → Contains (step_links steps) l → ⊥) → All (λ (end : ℕ × ℕ). IsOn tree.start steps end.0) ends
          → (v : ℕ) × (v < length network.nodes) × (amount_on v ends ≡ total_rate ends)
      at [] grows none joins = (
        tree.start,
        grows,
        all_here tree.start ends (All-weaker (λ (end : ℕ × ℕ). IsOn tree.start [] end.0) (λ (end : ℕ × ℕ). end.0 ≡ tree.start)
            (λ end on. elim on [ inl same ↦ same | inr led ↦ absurd (none_in_empty end.0 led) ]) ends joins),
      )
      at (step ∷ earlier) grows none joins = absurd (none step.link (contains_first step.link step.link (step_links earlier) refl))

  pub bare_tree : (ends : List (ℕ × ℕ)) (v : ℕ) → All (λ (end : ℕ × ℕ). 1 ≤ end.1) ends → v < length network.nodes → amount_on v ends ≡ total_rate ends → IsTreeOf network ends []
  bare_tree ends v rates is_node all = record {
    start = v;
    steps = [];
    grows = is_node;
    links = λ l. (λ there. there, λ there. there);
    joins = All-weaker (λ (end : ℕ × ℕ). end.0 ≡ v) (λ (end : ℕ × ℕ). IsOn v [] end.0) (λ end same. inl same) ends (here_all v ends rates all);
    amounts = λ k d below. absurd (omega (arith, below));
  }

  module _ (hose pairs : List (ℕ × ℕ)) where
    -- what a tree reserves for a hose, and what it needs of the pairs
    pub tree_of_reservation : IsTreeReservation network (all_links network) hose pairs → IsTreeOf network hose pairs
    tree_of_reservation r = record {
      start = r.tree.start;
      steps = reverse r.tree.steps;
      grows = r.is_tree;
      links = λ l. (
        λ there. tree_in_reserved r.tree hose pairs r.reserves l (from_reverse (λ (step : Step). step.link) r.tree.steps l there),
        λ there. in_reverse (λ (step : Step). step.link) r.tree.steps l (reserved_in_tree r.tree hose pairs r.reserves l there),
      );
      joins = All-weaker (λ (end : ℕ × ℕ). IsOn r.tree.start r.tree.steps end.0) (λ (end : ℕ × ℕ). IsOn r.tree.start (reverse r.tree.steps) end.0)
          (λ end on. on_reverse r.tree.start r.tree.steps end.0 on) hose r.joins;
      amounts = all_members (λ (pair : ℕ × ℕ). pair.1 ≡ smaller_up (reverse r.tree.steps) hose pair.0) pairs (λ pair there. ((r.reserves.each pair.0 pair.1).0 there).1);
    }

    pub reservation_is_possible : IsTreeReservation network (all_links network) hose pairs → All (IsPossible (length network.links) (total_rate hose)) pairs
    reservation_is_possible r = all_members (IsPossible (length network.links) (total_rate hose)) pairs (λ pair there. record {
      link = All-contains (λ (p : ℕ × ℕ). p.0 < length network.links) pairs pair (reserved_links network is (all_links network) hose pairs r) there;
      some = All-contains (λ (p : ℕ × ℕ). 1 ≤ p.1) pairs pair r.some there;
      within = omega (arith, ((r.reserves.each pair.0 pair.1).0 there).1, rate_beyond-le r.tree hose pair.0);
    })

  module _ (hose pairs : List (ℕ × ℕ)) (t : IsTreeOf network hose pairs) where
    -- the tree with its first step first
    abbrev pub turned : Growth
    turned = record { start = t.start; steps = reverse t.steps }

    in_pairs : (l : ℕ) → Contains (links_of turned) l → Contains (firsts pairs) l
    in_pairs l there = (t.links l).0 (from_reverse (λ (step : Step). step.link) t.steps l there)

    side : (l : ℕ) → smaller_side turned hose l ≡ smaller_up t.steps hose l
    side l = ap (λ (steps : List Step). smaller_up steps hose l) (reverse-reverse t.steps)

    amount_is : (l amount : ℕ) → Contains pairs (l, amount) → amount ≡ smaller_side turned hose l
    amount_is l amount there = All-contains (λ (pair : ℕ × ℕ). pair.1 ≡ smaller_up t.steps hose pair.0) pairs (l, amount) t.amounts there ∙ sym (side l)

    pub reservation_of_tree : IsAscending pairs → All (IsPossible (length network.links) (total_rate hose)) pairs → IsTreeReservation network (all_links network) hose pairs
    reservation_of_tree ascending possible = record {
      tree = turned;
      is_tree = rw (reverse-reverse t.steps) t.grows;
      over = all_members (IsIn (all_links network)) (links_of turned) (λ l there.
          let found = pair_there pairs l (in_pairs l there) in
          get_or-replicate (length network.links) l true false (All-contains (IsPossible (length network.links) (total_rate hose)) pairs (l, found.0) possible found.1).link);
      joins = All-weaker (λ (end : ℕ × ℕ). IsOn t.start t.steps end.0) (λ (end : ℕ × ℕ). IsOn t.start (reverse t.steps) end.0) (λ end on. on_reverse t.start t.steps end.0 on) hose t.joins;
      reserves = record {
        ascending = ascending;
        each = λ l amount. (
          λ there. (in_reverse (λ (step : Step). step.link) t.steps l ((t.links l).1 (first_there pairs (l, amount) there)), amount_is l amount there),
          λ both.
              let found = pair_there pairs l (in_pairs l both.0) in
              subst (λ (n : ℕ). Contains pairs (l, n)) (amount_is l found.0 found.1 ∙ sym both.1) found.1,
        );
      };
      some = All-weaker (IsPossible (length network.links) (total_rate hose)) (λ (pair : ℕ × ℕ). 1 ≤ pair.1) (λ pair is_possible. is_possible.some) pairs possible;
    }
