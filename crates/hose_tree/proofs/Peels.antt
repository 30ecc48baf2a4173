-- One leaf taken off: pairs are what ends reserve on some tree just where the leaf's pair has the smaller side's amount, and the other pairs are what the ends
-- reserve once those at the leaf have moved along its link.
use Rattle.std.proofs.Common.{◌≡◌, ◌≢◌, ◌⊎◌, ◌∙◌, ℕ, ◌-◌, ◌≤◌, Bool, List, [], ◌∷◌, min, cond, eqb, refl, sym, ap, subst, inl, inr, arith}
use Rattle.std.specs.List.{All, Contains}
use Rattle.std.specs.List.Sorted.{IsPermutation}
use Rattle.std.proofs.lemmas.Bool.{cases_eq, eq-eqb, ne_eqb}
use Rattle.std.proofs.lemmas.List.Elements.{All-contains, All-contains_itself, All-map, All-weaker}
use Rattle.std.proofs.lemmas.List.Sorted.{Contains-permutation, IsPermutation-map, IsPermutation-sym}
use Rattle.std.proofs.lemmas.List.Sums.{sum_by-cons}
use Rattle.hose_graph.specs.Ascending.{firsts}
use Rattle.hose_graph.specs.Hose.{total_rate}
use Rattle.hose_graph.specs.Network.{Network, IsNetwork}
use Rattle.hose_graph.specs.declared.topology.Step.{Step}
use Rattle.hose_graph.proofs.Members.{contains_first, contains_rest, first_or_rest, none_in_empty}
use Rattle.hose_law.specs.Book.{amount_on}
use Rattle.hose_law.specs.Tree.{IsOn, Grow, step_links}
use Rattle.hose_law.specs.Walk.{Joins}
use Rattle.hose_law.proofs.Joined.{joins_nodes}
use Rattle.hose_law.proofs.Reservations.{first_there, pair_there}
use Rattle.hose_law.proofs.Routes.{smaller_alike}
use Rattle.hose_law.proofs.Trees.{link_is_new, on_new, on_still, moved, moved_node, moved_total, moved_beyond, last_beyond, rate_up}
use Rattle.hose_law.proofs.Walks.{joins_turned}
use Rattle.hose_tree.specs.steps.Peeling.{IsTreeOf, smaller_up}
use Rattle.hose_tree.proofs.Leaves.{IsCut, cut, touched}

-- what holds of all of a list that it has
pub all_members : {X : Type 0} (P : X → Type 0) (xs : List X) → ((x : X) → Contains xs x → P x) → All P xs
all_members {X} P xs each = All-weaker (Contains xs) P each xs (All-contains_itself xs)

-- where something is at a node, an end is there
someone_at : (v : ℕ) (ends : List (ℕ × ℕ)) → 1 ≤ amount_on v ends → (end : ℕ × ℕ) × Contains ends end × (end.0 ≡ v)
someone_at v [] some = absurd (omega arith)
someone_at v (end ∷ ends) some = elim (cases_eq end.0 v) [
  | inl same ↦ (end, contains_first end end ends refl, same)
  | inr other ↦
      let first : cond (eqb end.0 v) end.1 0 ≡ 0 = ap (λ (test : Bool). cond test end.1 0) (ne_eqb end.0 v other) in
      let found = someone_at v ends (omega (arith, sum_by-cons (λ (e : ℕ × ℕ). cond (eqb e.0 v) e.1 0) end ends, first)) in
      (found.0, contains_rest end found.0 ends found.1, found.2)
]

-- where an end moves to
moved_there : (step : Step) (ends : List (ℕ × ℕ)) (end : ℕ × ℕ) → Contains ends end → Contains (moved step ends) (moved_node step end.0, end.1)
moved_there step [] end there = absurd (none_in_empty end there)
moved_there step (e ∷ ends) end there = elim (first_or_rest e end ends there) [
  | inl same ↦ contains_first (moved_node step e.0, e.1) (moved_node step end.0, end.1) (moved step ends) (ap (λ (one : ℕ × ℕ). (moved_node step one.0, one.1)) same)
  | inr behind ↦ contains_rest (moved_node step e.0, e.1) (moved_node step end.0, end.1) (moved step ends) (moved_there step ends end behind)
]

module _ (network : Network) (is : IsNetwork network) (ends pairs left : List (ℕ × ℕ)) (pair : ℕ × ℕ) (w v : ℕ) (joins : Joins network pair.0 w v) (order : IsPermutation pairs (pair ∷ left))
    (others : (other : ℕ × ℕ) (x : ℕ) → Contains left other → Joins network other.0 v x → ⊥) where
  -- the step to the leaf
  abbrev pub last : Step
  last = record { link = pair.0; old = w; new = v }

  -- the pairs are the leaf's and those left, and so are their links
  in_pairs : (other : ℕ × ℕ) → Contains (pair ∷ left) other → Contains pairs other
  in_pairs other there = Contains-permutation (pair ∷ left) pairs other (IsPermutation-sym pairs (pair ∷ left) order) there

  link_in_left : (k : ℕ) → Contains (firsts pairs) k → (k ≡ pair.0) ⊎ Contains (firsts left) k
  link_in_left k there = elim (first_or_rest pair.0 k (firsts left) (Contains-permutation (firsts pairs) (firsts (pair ∷ left)) k (IsPermutation-map (λ (p : ℕ × ℕ). p.0) pairs (pair ∷ left) order) there)) [
    | inl same ↦ inl (sym same)
    | inr behind ↦ inr behind
  ]

  link_in_pairs : (k : ℕ) → Contains (firsts (pair ∷ left)) k → Contains (firsts pairs) k
  link_in_pairs k there = Contains-permutation (firsts (pair ∷ left)) (firsts pairs) k
      (IsPermutation-map (λ (p : ℕ × ℕ). p.0) (pair ∷ left) pairs (IsPermutation-sym pairs (pair ∷ left) order)) there

  -- no link that is left leads from the leaf, so none is the leaf's
  none_left : (k x : ℕ) → Contains (firsts left) k → Joins network k v x → ⊥
  none_left k x there leads = let found = pair_there left k there in others (k, found.0) x found.1 leads

  not_left : Contains (firsts left) pair.0 → ⊥
  not_left there = none_left pair.0 w there (joins_turned network pair.0 w v joins)

  differ : w ≢ v
  differ = (joins_nodes network is pair.0 w v joins).2

  -- where an end is that moves, by where it was
  moves : (P : ℕ → Type 0) (u : ℕ) → P w → (u ≢ v → P u) → P (moved_node last u)
  moves P u at_old elsewhere = elim (cases_eq u v) [
    | inl same ↦ rw (eq-eqb u v same) at_old
    | inr other ↦ rw (ne_eqb u v other) (elsewhere other)
  ]

  -- the smaller side of the last step's link, and of the others
  last_smaller : (start : ℕ) (rest : List Step) → Grow network start (last ∷ rest) → smaller_up (last ∷ rest) ends pair.0 ≡ min (amount_on v ends) (total_rate ends - amount_on v ends)
  last_smaller start rest grows = ap (λ (beyond : ℕ). min beyond (total_rate ends - beyond)) (last_beyond last rest ends (link_is_new network start last rest grows))

  rest_smaller : (rest : List Step) (k : ℕ) → pair.0 ≢ k → smaller_up (last ∷ rest) ends k ≡ smaller_up rest (moved last ends) k
  rest_smaller rest k other =
      let beyond = rate_up rest (moved last ends) k in
      ap (λ (n : ℕ). min n (total_rate ends - n)) (moved_beyond last rest ends k other) ∙ ap (λ (total : ℕ). min beyond (total - beyond)) (sym (moved_total last ends))

  -- Taking the leaf off a tree.
  pub peel_off : IsTreeOf network ends pairs → (pair.1 ≡ min (amount_on v ends) (total_rate ends - amount_on v ends)) × IsTreeOf network (moved last ends) left
  peel_off tree = (
    All-contains (λ (p : ℕ × ℕ). p.1 ≡ smaller_up tree.steps ends p.0) pairs pair tree.amounts (in_pairs pair (contains_first pair pair left refl))
        ∙ smaller pair.0 ∙ last_smaller out.first out.rest grown,
    record {
      start = out.first;
      steps = out.rest;
      grows = out.grows;
      links = λ k. (
        λ there. elim (link_in_left k ((tree.links k).0 (out.was_link k there))) [
          | inl same ↦ absurd (link_is_new network out.first last out.rest grown (subst (Contains (step_links out.rest)) same there))
          | inr behind ↦ behind
        ],
        λ there. elim (out.links k ((tree.links k).1 (link_in_pairs k (contains_rest pair.0 k (firsts left) there)))) [
          | inl same ↦ absurd (not_left (subst (Contains (firsts left)) same there))
          | inr still ↦ still
        ],
      );
      joins = All-map (λ (end : ℕ × ℕ). IsOn out.first out.rest end.0) (λ (end : ℕ × ℕ). (moved_node last end.0, end.1)) ends
          (All-weaker (λ (end : ℕ × ℕ). IsOn tree.start tree.steps end.0) (λ (end : ℕ × ℕ). IsOn out.first out.rest (moved_node last end.0)) still_on ends tree.joins);
      amounts = all_members (λ (p : ℕ × ℕ). p.1 ≡ smaller_up out.rest (moved last ends) p.0) left
          (λ other there.
          All-contains (λ (p : ℕ × ℕ). p.1 ≡ smaller_up tree.steps ends p.0) pairs other tree.amounts (in_pairs other (contains_rest pair other left there))
          ∙ smaller other.0 ∙ rest_smaller out.rest other.0 (λ same. not_left (subst (Contains (firsts left)) (sym same) (first_there left other there))));
    },
  )
    where
      out : IsCut network tree.start tree.steps pair.0 w v
      out = cut network is pair.0 w v joins tree.start tree.steps tree.grows
          ((tree.links pair.0).1 (link_in_pairs pair.0 (contains_first pair.0 pair.0 (firsts left) refl)))
          (λ k x there leads. elim (link_in_left k ((tree.links k).0 there)) [ inl same ↦ same | inr behind ↦ absurd (none_left k x behind leads) ])

      grown : Grow network out.first (last ∷ out.rest)
      grown = (out.grows, out.old_on, out.new_off, joins)

      smaller : (k : ℕ) → smaller_up tree.steps ends k ≡ smaller_up (last ∷ out.rest) ends k
      smaller k = smaller_alike network tree.start out.first tree.steps (last ∷ out.rest) tree.grows grown
          (λ l there. elim (out.links l there) [
            | inl same ↦ contains_first pair.0 l (step_links out.rest) (sym same)
            | inr still ↦ contains_rest pair.0 l (step_links out.rest) still
          ]) k ends tree.joins

      still_on : (end : ℕ × ℕ) → IsOn tree.start tree.steps end.0 → IsOn out.first out.rest (moved_node last end.0)
      still_on end on = moves (IsOn out.first out.rest) end.0 out.old_on (λ other. elim (out.nodes end.0 on) [ inl same ↦ absurd (other same) | inr still ↦ still ])

  -- And putting it on.
  pub peel_on : 1 ≤ pair.1 → pair.1 ≡ min (amount_on v ends) (total_rate ends - amount_on v ends) → IsTreeOf network (moved last ends) left → IsTreeOf network ends pairs
  peel_on some amount tree = record {
    start = tree.start;
    steps = last ∷ tree.steps;
    grows = grown;
    links = λ k. (
      λ there. link_in_pairs k (elim (first_or_rest pair.0 k (step_links tree.steps) there) [
        | inl same ↦ contains_first pair.0 k (firsts left) same
        | inr behind ↦ contains_rest pair.0 k (firsts left) ((tree.links k).0 behind)
      ]),
      λ there. elim (link_in_left k there) [
        | inl same ↦ contains_first pair.0 k (step_links tree.steps) (sym same)
        | inr behind ↦ contains_rest pair.0 k (step_links tree.steps) ((tree.links k).1 behind)
      ],
    );
    joins = all_members (λ (end : ℕ × ℕ). IsOn tree.start (last ∷ tree.steps) end.0) ends on;
    amounts = all_members (λ (p : ℕ × ℕ). p.1 ≡ smaller_up (last ∷ tree.steps) ends p.0) pairs
        (λ other there. elim (first_or_rest pair other left (Contains-permutation pairs (pair ∷ left) other order there)) [
          | inl same ↦ subst (λ (p : ℕ × ℕ). p.1 ≡ smaller_up (last ∷ tree.steps) ends p.0) same (amount ∙ sym (last_smaller tree.start tree.steps grown))
          | inr behind ↦ All-contains (λ (p : ℕ × ℕ). p.1 ≡ smaller_up tree.steps (moved last ends) p.0) left other tree.amounts behind
              ∙ sym (rest_smaller tree.steps other.0 (λ same. not_left (subst (Contains (firsts left)) (sym same) (first_there left other behind))))
        ]);
  }
    where
      moved_on : (end : ℕ × ℕ) → Contains ends end → IsOn tree.start tree.steps (moved_node last end.0)
      moved_on end there = All-contains (λ (e : ℕ × ℕ). IsOn tree.start tree.steps e.0) (moved last ends) (moved_node last end.0, end.1) tree.joins (moved_there last ends end there)

      at_leaf : (end : ℕ × ℕ) × Contains ends end × (end.0 ≡ v)
      at_leaf = someone_at v ends (omega (arith, some, amount))

      old_on : IsOn tree.start tree.steps w
      old_on = let node : moved_node last at_leaf.0.0 ≡ w = rw (eq-eqb at_leaf.0.0 v at_leaf.2) refl in
          subst (IsOn tree.start tree.steps) node (moved_on at_leaf.0 at_leaf.1)

      new_off : IsOn tree.start tree.steps v → ⊥
      new_off on =
          let leads = touched network tree.start tree.steps v w tree.grows on old_on (λ same. differ (sym same)) in
          none_left leads.0 leads.1 ((tree.links leads.0).0 leads.2) leads.3

      grown : Grow network tree.start (last ∷ tree.steps)
      grown = (tree.grows, old_on, new_off, joins)

      on : (end : ℕ × ℕ) → Contains ends end → IsOn tree.start (last ∷ tree.steps) end.0
      on end there = elim (cases_eq end.0 v) [
        | inl same ↦ subst (IsOn tree.start (last ∷ tree.steps)) (sym same) (on_new tree.start last tree.steps)
        | inr other ↦
            let node : moved_node last end.0 ≡ end.0 = rw (ne_eqb end.0 v other) refl in
            on_still tree.start last tree.steps end.0 (subst (IsOn tree.start tree.steps) node (moved_on end there))
      ]
