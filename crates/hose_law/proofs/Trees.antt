-- Trees: their links and new nodes are distinct, and moving the rates of the last step's new node to its old node leaves what lies beyond each earlier link.
-- Steps come with the last one first here, as in `Grow` and `links_up`.
use Rattle.std.proofs.Common.{◌≡◌, ◌≢◌, ◌⊎◌, ◌∙◌, ℕ, ◌+◌, ◌<◌, ◌≤◌, Bool, true, false, List, [], ◌∷◌, Option, None, Some, length, get_or, map, reverse, cond, eqb, refl, sym, ap, subst, inl, inr, arith}
use Rattle.std.specs.List.{All, Contains, IsDistinct, slice_get, sum_by}
use Rattle.std.specs.Option.{IsSomeAnd}
use Rattle.std.proofs.lemmas.Bool.{eq-eqb, ne_eqb}
use Rattle.std.proofs.lemmas.Bool.Decides.{nat_tests}
use Rattle.std.proofs.lemmas.Cmp.{nat_eq_equiv}
use Rattle.std.proofs.lemmas.List.{get_or_default}
use Rattle.std.proofs.lemmas.List.Elements.{recursion_from_All}
use Rattle.std.proofs.lemmas.List.Sorted.{Contains-permutation, IsPermutation-map, IsPermutation-reverse, IsPermutation-sym}
use Rattle.std.proofs.lemmas.List.Sums.{sum_by-cons, sum_by-le-sum_by}
use Rattle.std.proofs.lemmas.Map.Keys.{IsDistinct-cons, IsDistinct-IsPermutation}
use Rattle.hose_graph.specs.Hose.{total_rate}
use Rattle.hose_graph.specs.Network.{Network, IsNetwork}
use Rattle.hose_graph.specs.declared.topology.Link.{Link}
use Rattle.hose_graph.specs.declared.topology.Step.{Step}
use Rattle.hose_law.specs.Book.{amount_on}
use Rattle.hose_law.specs.Tree.{Growth, IsOn, Grow, IsTree, links_up, goes_along, rate_beyond, links_of, step_links, new_nodes}
use Rattle.hose_law.specs.Walk.{Joins}
use Rattle.hose_law.proofs.Joined.{joins_nodes}
use Rattle.hose_graph.proofs.Members.{contains_first, contains_rest, first_or_rest, none_in_empty}

-- numbers are distinct where the first is not among the rest
pub distinct_behind : (x : ℕ) (xs : List ℕ) → (Contains xs x → ⊥) → IsDistinct eqb xs → IsDistinct eqb (x ∷ xs)
distinct_behind x xs absent distinct =
    let apart : All (λ (y : ℕ). eqb x y ≡ false) xs =
    λ k d below. ne_eqb x (get_or xs k d) (λ same. absent (k, below, get_or_default xs k x d below ∙ sym same)) in
    IsDistinct-cons eqb x xs (recursion_from_All (λ (y : ℕ). eqb x y ≡ false) xs apart) distinct

-- a node is on a list of steps and on its reverse alike
pub on_reverse : (start : ℕ) (steps : List Step) (v : ℕ) → IsOn start steps v → IsOn start (reverse steps) v
on_reverse start steps v (inl same) = inl same
on_reverse start steps v (inr led) =
    inr (Contains-permutation (new_nodes steps) (new_nodes (reverse steps)) v (IsPermutation-map (λ (step : Step). step.new) steps (reverse steps) (IsPermutation-reverse steps)) led)

-- what is on the tree stays on it by one step more, and the step's new node is on it
pub on_still : (start : ℕ) (step : Step) (earlier : List Step) (v : ℕ) → IsOn start earlier v → IsOn start (step ∷ earlier) v
on_still start step earlier v (inl same) = inl same
on_still start step earlier v (inr led) = inr (contains_rest step.new v (new_nodes earlier) led)

pub on_new : (start : ℕ) (step : Step) (earlier : List Step) → IsOn start (step ∷ earlier) step.new
on_new start step earlier = inr (contains_first step.new step.new (new_nodes earlier) refl)

-- a node on a tree was on it before the last step, or is that step's new node
pub on_before : (start : ℕ) (step : Step) (earlier : List Step) (v : ℕ) → IsOn start (step ∷ earlier) v → (v ≡ step.new) ⊎ IsOn start earlier v
on_before start step earlier v (inl same) = inr (inl same)
on_before start step earlier v (inr led) =
    elim (first_or_rest step.new v (new_nodes earlier) led) [
      | inl same ↦ inl (sym same)
      | inr behind ↦ inr (inr behind)
    ]

-- the nodes on a tree are the network's
pub on_is_node : (network : Network) → IsNetwork network → (start : ℕ) (steps : List Step) (v : ℕ) → Grow network start steps → IsOn start steps v → v < length network.nodes
on_is_node network is start [] v grows (inl same) = subst (λ (n : ℕ). n < length network.nodes) (sym same) grows
on_is_node network is start [] v grows (inr led) = absurd (none_in_empty v led)
on_is_node network is start (step ∷ earlier) v grows on =
    elim (on_before start step earlier v on) [
      | inl same ↦ subst (λ (n : ℕ). n < length network.nodes) (sym same) (joins_nodes network is step.link step.old step.new grows.3).1
      | inr before ↦ on_is_node network is start earlier v grows.0 before
    ]

-- a link joins two nodes only
same_ends : (found : Option Link) (u v x y : ℕ)
    → IsSomeAnd found (λ (k : Link). ((k.a ≡ u) × (k.b ≡ v)) ⊎ ((k.a ≡ v) × (k.b ≡ u)))
    → IsSomeAnd found (λ (k : Link). ((k.a ≡ x) × (k.b ≡ y)) ⊎ ((k.a ≡ y) × (k.b ≡ x)))
    → ((x ≡ u) × (y ≡ v)) ⊎ ((x ≡ v) × (y ≡ u))
same_ends None u v x y one other = absurd one
same_ends (Some k) u v x y (inl one) (inl other) = inl (sym other.0 ∙ one.0, sym other.1 ∙ one.1)
same_ends (Some k) u v x y (inl one) (inr other) = inr (sym other.1 ∙ one.1, sym other.0 ∙ one.0)
same_ends (Some k) u v x y (inr one) (inl other) = inr (sym other.0 ∙ one.0, sym other.1 ∙ one.1)
same_ends (Some k) u v x y (inr one) (inr other) = inl (sym other.1 ∙ one.1, sym other.0 ∙ one.0)

pub joins_only : (network : Network) (l u v x y : ℕ) → Joins network l u v → Joins network l x y → ((x ≡ u) × (y ≡ v)) ⊎ ((x ≡ v) × (y ≡ u))
joins_only network l u v x y one other = same_ends (slice_get network.links l) u v x y one other

-- both nodes of a tree's link are on the tree
pub link_ends_on : (network : Network) (start : ℕ) (steps : List Step) (l u v : ℕ) → Grow network start steps → Contains (step_links steps) l → Joins network l u v
    → IsOn start steps u × IsOn start steps v
link_ends_on network start [] l u v grows there joins = absurd (none_in_empty l there)
link_ends_on network start (step ∷ earlier) l u v grows there joins =
    let old_on : IsOn start (step ∷ earlier) step.old = on_still start step earlier step.old grows.1 in
    let new_on : IsOn start (step ∷ earlier) step.new = on_new start step earlier in
    let On : ℕ → Type 0 = λ n. IsOn start (step ∷ earlier) n in
    elim (first_or_rest step.link l (step_links earlier) there) [
      | inl same ↦
          let here : Joins network l step.old step.new = subst (λ (n : ℕ). Joins network n step.old step.new) same grows.3 in
          elim (joins_only network l step.old step.new u v here joins) [
            | inl forward ↦ (subst On (sym forward.0) old_on, subst On (sym forward.1) new_on)
            | inr backward ↦ (subst On (sym backward.0) new_on, subst On (sym backward.1) old_on)
          ]
      | inr behind ↦
          let both = link_ends_on network start earlier l u v grows.0 behind joins in
          (on_still start step earlier u both.0, on_still start step earlier v both.1)
    ]

-- the link of the last step is not an earlier one's
pub link_is_new : (network : Network) (start : ℕ) (step : Step) (earlier : List Step) → Grow network start (step ∷ earlier) → Contains (step_links earlier) step.link → ⊥
link_is_new network start step earlier grows there =
    grows.2 (link_ends_on network start earlier step.link step.old step.new grows.0 there grows.3).1

-- the old node of the last step is not its new node
pub old_is_not_new : (network : Network) (start : ℕ) (step : Step) (earlier : List Step) → Grow network start (step ∷ earlier) → step.old ≢ step.new
old_is_not_new network start step earlier grows same = grows.2 (subst (IsOn start earlier) same grows.1)

-- the links of a tree are distinct, and so are the new nodes of its steps, of which none is the start
pub links_differ : (network : Network) (start : ℕ) (steps : List Step) → Grow network start steps → IsDistinct eqb (step_links steps)
unfolding IsDistinct
links_differ network start [] grows = tt
links_differ network start (step ∷ earlier) grows =
    distinct_behind step.link (step_links earlier) (link_is_new network start step earlier grows) (links_differ network start earlier grows.0)

pub new_nodes_differ : (network : Network) (start : ℕ) (steps : List Step) → Grow network start steps → IsDistinct eqb (new_nodes steps)
unfolding IsDistinct
new_nodes_differ network start [] grows = tt
new_nodes_differ network start (step ∷ earlier) grows =
    distinct_behind step.new (new_nodes earlier) (λ there. grows.2 (inr there)) (new_nodes_differ network start earlier grows.0)

pub start_is_not_new : (network : Network) (start : ℕ) (steps : List Step) → Grow network start steps → Contains (new_nodes steps) start → ⊥
start_is_not_new network start [] grows there = none_in_empty start there
start_is_not_new network start (step ∷ earlier) grows there =
    elim (first_or_rest step.new start (new_nodes earlier) there) [
      | inl same ↦ grows.2 (inl same)
      | inr behind ↦ start_is_not_new network start earlier grows.0 behind
    ]

pub tree_links_differ : (network : Network) (tree : Growth) → IsTree network tree → IsDistinct eqb (links_of tree)
tree_links_differ network tree is =
    IsDistinct-IsPermutation eqb nat_eq_equiv.symm (step_links (reverse tree.steps)) (links_of tree)
    (IsPermutation-map (λ (step : Step). step.link) (reverse tree.steps) tree.steps (IsPermutation-sym tree.steps (reverse tree.steps) (IsPermutation-reverse tree.steps)))
    (links_differ network tree.start (reverse tree.steps) is)

-- a way goes along links of the tree only
pub off_way : (steps : List Step) (v l : ℕ) → (Contains (step_links steps) l → ⊥) → goes_along (links_up steps v) l ≡ false
off_way [] v l absent = refl
off_way (step ∷ earlier) v l absent =
    let other : eqb step.link l ≡ false = ne_eqb step.link l (λ same. absent (contains_first step.link l (step_links earlier) same)) in
    let from_old : goes_along (links_up earlier step.old) l ≡ false = off_way earlier step.old l (λ there. absent (contains_rest step.link l (step_links earlier) there)) in
    let from_here : goes_along (links_up earlier v) l ≡ false = off_way earlier v l (λ there. absent (contains_rest step.link l (step_links earlier) there)) in
    at (eqb v step.new) other from_old from_here
  where
    at : (leads : Bool) → eqb step.link l ≡ false → goes_along (links_up earlier step.old) l ≡ false → goes_along (links_up earlier v) l ≡ false
        → goes_along (cond leads (step.link ∷ links_up earlier step.old) (links_up earlier v)) l ≡ false
    at true other from_old from_here = rw (other, from_old) refl
    at false other from_old from_here = from_here

-- Where a node's rates go when a step is taken off: those at its new node go to its old node, and the others stay.
abbrev pub moved_node : Step → ℕ → ℕ
moved_node step v = cond (eqb v step.new) step.old v

abbrev pub moved : Step → List (ℕ × ℕ) → List (ℕ × ℕ)
moved step ends = map (λ (end : ℕ × ℕ). (moved_node step end.0, end.1)) ends

-- the rate sum beyond a link, for steps of which the last one comes first
abbrev pub rate_up : List Step → List (ℕ × ℕ) → ℕ → ℕ
rate_up steps ends l = sum_by (λ (end : ℕ × ℕ). cond (goes_along (links_up steps end.0) l) end.1 0) ends

-- the way of a node goes along another link than the last step's just where the way of where it moves to does
same_way : (step : Step) (earlier : List Step) (l v : ℕ) → step.link ≢ l → goes_along (links_up (step ∷ earlier) v) l ≡ goes_along (links_up earlier (moved_node step v)) l
same_way step earlier l v other = at (eqb v step.new) (ne_eqb step.link l other)
  where
    at : (leads : Bool) → eqb step.link l ≡ false
        → goes_along (cond leads (step.link ∷ links_up earlier step.old) (links_up earlier v)) l ≡ goes_along (links_up earlier (cond leads step.old v)) l
    at true differs = rw differs refl
    at false differs = refl

-- the way of a node goes along the last step's link just where it is the step's new node
last_way : (step : Step) (earlier : List Step) (v : ℕ) → (Contains (step_links earlier) step.link → ⊥) → goes_along (links_up (step ∷ earlier) v) step.link ≡ eqb v step.new
last_way step earlier v absent = at (eqb v step.new) (eq-eqb step.link step.link refl) (off_way earlier v step.link absent)
  where
    at : (leads : Bool) → eqb step.link step.link ≡ true → goes_along (links_up earlier v) step.link ≡ false
        → goes_along (cond leads (step.link ∷ links_up earlier step.old) (links_up earlier v)) step.link ≡ leads
    at true same off = rw same refl
    at false same off = off

-- what is at a node is at most the total
pub amount_on-le : (v : ℕ) (ends : List (ℕ × ℕ)) → amount_on v ends ≤ total_rate ends
amount_on-le v ends = sum_by-le-sum_by (λ (end : ℕ × ℕ). cond (eqb end.0 v) end.1 0) (λ (end : ℕ × ℕ). end.1) ends (λ end. at (eqb end.0 v) end.1)
  where
    at : (test : Bool) (rate : ℕ) → cond test rate 0 ≤ rate
    at true rate = omega arith
    at false rate = omega arith

-- and so is what lies beyond a link
pub rate_up-le : (steps : List Step) (ends : List (ℕ × ℕ)) (l : ℕ) → rate_up steps ends l ≤ total_rate ends
rate_up-le steps ends l =
    sum_by-le-sum_by (λ (end : ℕ × ℕ). cond (goes_along (links_up steps end.0) l) end.1 0) (λ (end : ℕ × ℕ). end.1) ends (λ end. at (goes_along (links_up steps end.0) l) end.1)
  where
    at : (test : Bool) (rate : ℕ) → cond test rate 0 ≤ rate
    at true rate = omega arith
    at false rate = omega arith

pub rate_beyond-le : (tree : Growth) (hose : List (ℕ × ℕ)) (l : ℕ) → rate_beyond tree hose l ≤ total_rate hose
rate_beyond-le tree hose l = rate_up-le (reverse tree.steps) hose l

-- moving rates keeps their total
pub moved_total : (step : Step) (ends : List (ℕ × ℕ)) → total_rate (moved step ends) ≡ total_rate ends
moved_total step [] = refl
moved_total step (end ∷ ends) =
    let before = sum_by-cons (λ (e : ℕ × ℕ). e.1) end ends in
    let after = sum_by-cons (λ (e : ℕ × ℕ). e.1) (moved_node step end.0, end.1) (moved step ends) in
    omega (arith, before, after, moved_total step ends)

-- and what lies beyond each link but the last step's
pub moved_beyond : (step : Step) (earlier : List Step) (ends : List (ℕ × ℕ)) (l : ℕ) → step.link ≢ l → rate_up (step ∷ earlier) ends l ≡ rate_up earlier (moved step ends) l
moved_beyond step earlier [] l other = refl
moved_beyond step earlier (end ∷ ends) l other =
    let before = sum_by-cons (λ (e : ℕ × ℕ). cond (goes_along (links_up (step ∷ earlier) e.0) l) e.1 0) end ends in
    let after = sum_by-cons (λ (e : ℕ × ℕ). cond (goes_along (links_up earlier e.0) l) e.1 0) (moved_node step end.0, end.1) (moved step ends) in
    let here = ap (λ (test : Bool). cond test end.1 0) (same_way step earlier l end.0 other) in
    omega (arith, before, after, here, moved_beyond step earlier ends l other)

-- beyond the last step's link lies what is at its new node
pub last_beyond : (step : Step) (earlier : List Step) (ends : List (ℕ × ℕ)) → (Contains (step_links earlier) step.link → ⊥) → rate_up (step ∷ earlier) ends step.link ≡ amount_on step.new ends
last_beyond step earlier [] absent = refl
last_beyond step earlier (end ∷ ends) absent =
    let before = sum_by-cons (λ (e : ℕ × ℕ). cond (goes_along (links_up (step ∷ earlier) e.0) step.link) e.1 0) end ends in
    let after = sum_by-cons (λ (e : ℕ × ℕ). cond (eqb e.0 step.new) e.1 0) end ends in
    let here = ap (λ (test : Bool). cond test end.1 0) (last_way step earlier end.0 absent) in
    omega (arith, before, after, here, last_beyond step earlier ends absent)

-- what is at the old node, the new node and the others once the rates have moved
pub moved_at_old : (step : Step) (ends : List (ℕ × ℕ)) → step.old ≢ step.new → amount_on step.old (moved step ends) ≡ amount_on step.old ends + amount_on step.new ends
moved_at_old step [] differ = refl
moved_at_old step (end ∷ ends) differ =
    let at_old = sum_by-cons (λ (e : ℕ × ℕ). cond (eqb e.0 step.old) e.1 0) end ends in
    let at_new = sum_by-cons (λ (e : ℕ × ℕ). cond (eqb e.0 step.new) e.1 0) end ends in
    let after = sum_by-cons (λ (e : ℕ × ℕ). cond (eqb e.0 step.old) e.1 0) (moved_node step end.0, end.1) (moved step ends) in
    let rest = moved_at_old step ends differ in
    grind (arith, nat_tests)

pub moved_at_new : (step : Step) (ends : List (ℕ × ℕ)) → step.old ≢ step.new → amount_on step.new (moved step ends) ≡ 0
moved_at_new step [] differ = refl
moved_at_new step (end ∷ ends) differ =
    let after = sum_by-cons (λ (e : ℕ × ℕ). cond (eqb e.0 step.new) e.1 0) (moved_node step end.0, end.1) (moved step ends) in
    let rest = moved_at_new step ends differ in
    grind (arith, nat_tests)

pub moved_at_others : (step : Step) (ends : List (ℕ × ℕ)) (v : ℕ) → v ≢ step.old → v ≢ step.new → amount_on v (moved step ends) ≡ amount_on v ends
moved_at_others step [] v not_old not_new = refl
moved_at_others step (end ∷ ends) v not_old not_new =
    let before = sum_by-cons (λ (e : ℕ × ℕ). cond (eqb e.0 v) e.1 0) end ends in
    let after = sum_by-cons (λ (e : ℕ × ℕ). cond (eqb e.0 v) e.1 0) (moved_node step end.0, end.1) (moved step ends) in
    let rest = moved_at_others step ends v not_old not_new in
    grind (arith, nat_tests)

-- what is at both nodes of a step is at most the total
pub step_amounts-le : (step : Step) (ends : List (ℕ × ℕ)) → step.old ≢ step.new → amount_on step.old ends + amount_on step.new ends ≤ total_rate ends
step_amounts-le step ends differ =
    omega (arith, moved_at_old step ends differ, amount_on-le step.old (moved step ends), moved_total step ends)
