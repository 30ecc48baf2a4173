-- Two trees of the same links: along a link of a tree the ways up of its two nodes differ at that link alone. So whether the ways up on two such trees differ
-- at a link is the same at all nodes. Steps come with the last one first here.
use Rattle.std.proofs.Common.{◌≡◌, ◌≢◌, ◌∙◌, ℕ, ◌+◌, ◌-◌, Bool, true, false, not, List, [], ◌∷◌, min, cond, eqb, reverse, refl, sym, ap, subst, inl, inr, arith}
use Rattle.std.specs.List.{All, Contains, sum_by}
use Rattle.std.proofs.lemmas.Bool.{cases_eq, eq-eqb, ne_eqb}
use Rattle.std.proofs.lemmas.List.Elements.{All-head, All-tail, All-weaker}
use Rattle.std.proofs.lemmas.List.Sums.{sum_by-cons}
use Rattle.hose_graph.specs.Hose.{total_rate}
use Rattle.hose_graph.specs.Network.{Network}
use Rattle.hose_graph.specs.declared.topology.Step.{Step}
use Rattle.hose_law.specs.Route.{one_alone}
use Rattle.hose_law.specs.steps.Route.{AreSame, HaveSameRoutes}
use Rattle.hose_law.specs.Tree.{Growth, IsOn, Grow, IsTree, links_up, goes_along, step_links}
use Rattle.hose_law.specs.Walk.{Joins}
use Rattle.hose_law.proofs.TightWays.{in_reverse, from_reverse}
use Rattle.hose_law.proofs.Trees.{joins_only, link_ends_on, link_is_new, old_is_not_new, off_way, on_before, on_reverse, rate_up}
use Rattle.hose_graph.proofs.Members.{contains_first, contains_rest, first_or_rest, none_in_empty}

-- whether just one of two holds does not depend on their order
alone_turned : (a b : Bool) → one_alone a b ≡ one_alone b a
alone_turned true true = refl
alone_turned true false = refl
alone_turned false true = refl
alone_turned false false = refl

-- of two that are equal it is never just one that holds
alone_never : (a : Bool) → one_alone a a ≡ false
alone_never true = refl
alone_never false = refl

-- two of which just one holds are opposites, and two of which not just one holds are equal
alone_yes : (a b : Bool) → one_alone a b ≡ true → b ≡ not a
alone_yes true false alone = refl
alone_yes false true alone = refl
alone_yes a b alone = cc

alone_no : (a b : Bool) → one_alone a b ≡ false → a ≡ b
alone_no true true same = refl
alone_no false false same = refl
alone_no a b same = cc

-- where a and b differ just where c and d do, a and c differ just where b and d do
alone_across : (a b c d : Bool) → one_alone a b ≡ one_alone c d → one_alone a c ≡ one_alone b d
alone_across true true c d same = ap not (alone_no c d (sym same))
alone_across true false c d same = sym (alone_yes c d (sym same))
alone_across false true c d same = alone_yes d c (alone_turned d c ∙ sym same)
alone_across false false c d same = alone_no c d (sym same)

-- the sum of the rates at nodes that pass a test
abbrev rate_where : (ℕ → Bool) → List (ℕ × ℕ) → ℕ
rate_where test ends = sum_by (λ (end : ℕ × ℕ). cond (test end.0) end.1 0) ends

-- tests that agree at each endpoint give one sum
rates_agree : (f g : ℕ → Bool) (ends : List (ℕ × ℕ)) → All (λ (end : ℕ × ℕ). f end.0 ≡ g end.0) ends → rate_where f ends ≡ rate_where g ends
rates_agree f g [] agree = refl
rates_agree f g (end ∷ ends) agree =
    let here = ap (λ (test : Bool). cond test end.1 0) (All-head (λ (e : ℕ × ℕ). f e.0 ≡ g e.0) end ends agree) in
    let rest = rates_agree f g ends (All-tail (λ (e : ℕ × ℕ). f e.0 ≡ g e.0) end ends agree) in
    omega (arith, sum_by-cons (λ (e : ℕ × ℕ). cond (f e.0) e.1 0) end ends, sum_by-cons (λ (e : ℕ × ℕ). cond (g e.0) e.1 0) end ends, here, rest)

cond_not : (test : Bool) (n : ℕ) → cond test n 0 + cond (not test) n 0 ≡ n
cond_not true n = omega arith
cond_not false n = omega arith

-- the sums of opposite tests are together the total rate
rates_opposed : (f g : ℕ → Bool) (ends : List (ℕ × ℕ)) → All (λ (end : ℕ × ℕ). g end.0 ≡ not (f end.0)) ends → rate_where f ends + rate_where g ends ≡ total_rate ends
rates_opposed f g [] oppose = refl
rates_opposed f g (end ∷ ends) oppose =
    let here = ap (λ (test : Bool). cond test end.1 0) (All-head (λ (e : ℕ × ℕ). g e.0 ≡ not (f e.0)) end ends oppose) in
    let rest = rates_opposed f g ends (All-tail (λ (e : ℕ × ℕ). g e.0 ≡ not (f e.0)) end ends oppose) in
    omega (
      arith,
      sum_by-cons (λ (e : ℕ × ℕ). cond (f e.0) e.1 0) end ends,
      sum_by-cons (λ (e : ℕ × ℕ). cond (g e.0) e.1 0) end ends,
      sum_by-cons (λ (e : ℕ × ℕ). e.1) end ends,
      here,
      cond_not (f end.0) end.1,
      rest,
    )

-- the way of a node that is not the last step's new node is its way before that step
pub early_way : (step : Step) (earlier : List Step) (v : ℕ) → v ≢ step.new → links_up (step ∷ earlier) v ≡ links_up earlier v
early_way step earlier v other = ap (λ (leads : Bool). cond leads (step.link ∷ links_up earlier step.old) (links_up earlier v)) (ne_eqb v step.new other)

-- the last step's two nodes differ at its own link alone
last_flips : (network : Network) (start : ℕ) (step : Step) (earlier : List Step) (l : ℕ) → Grow network start (step ∷ earlier)
    → one_alone (goes_along (links_up (step ∷ earlier) step.old) l) (goes_along (links_up (step ∷ earlier) step.new) l) ≡ eqb step.link l
last_flips network start step earlier l grows =
    rw (ne_eqb step.old step.new (old_is_not_new network start step earlier grows), eq-eqb step.new step.new refl)
    (elim (cases_eq step.link l) [
      | inl same ↦
          let off : goes_along (links_up earlier step.old) l ≡ false = off_way earlier step.old l (λ there. link_is_new network start step earlier grows (subst (Contains (step_links earlier)) (sym same) there)) in
          rw (eq-eqb step.link l same, off) refl
      | inr other ↦ rw (ne_eqb step.link l other) (alone_never (goes_along (links_up earlier step.old) l))
    ])

-- the ways up of the two nodes of a tree's link differ at that link alone
pub link_flips : (network : Network) (start : ℕ) (steps : List Step) (k x y l : ℕ) → Grow network start steps → Contains (step_links steps) k → Joins network k x y
    → one_alone (goes_along (links_up steps x) l) (goes_along (links_up steps y) l) ≡ eqb k l
link_flips network start [] k x y l grows there joins = absurd (none_in_empty k there)
link_flips network start (step ∷ earlier) k x y l grows there joins =
    let side : ℕ → Bool = λ v. goes_along (links_up (step ∷ earlier) v) l in
    elim (first_or_rest step.link k (step_links earlier) there) [
      | inl same ↦
          let last : one_alone (side step.old) (side step.new) ≡ eqb k l = subst (λ (n : ℕ). one_alone (side step.old) (side step.new) ≡ eqb n l) same (last_flips network start step earlier l grows) in
          elim (joins_only network k step.old step.new x y (subst (λ (n : ℕ). Joins network n step.old step.new) same grows.3) joins) [
            | inl forward ↦ rw (forward.0, forward.1) last
            | inr backward ↦ rw (backward.0, backward.1) (alone_turned (side step.new) (side step.old) ∙ last)
          ]
      | inr behind ↦
          let on = link_ends_on network start earlier k x y grows.0 behind joins in
          let x_early = early_way step earlier x (λ same. grows.2 (subst (IsOn start earlier) same on.0)) in
          let y_early = early_way step earlier y (λ same. grows.2 (subst (IsOn start earlier) same on.1)) in
          rw (x_early, y_early) (link_flips network start earlier k x y l grows.0 behind joins)
    ]

-- what is the same at both nodes of each link of a tree is the same at all its nodes
pub same_throughout : (network : Network) (start : ℕ) (steps : List Step) (f : ℕ → Bool) → Grow network start steps
    → ((k x y : ℕ) → Contains (step_links steps) k → Joins network k x y → f x ≡ f y)
    → (v : ℕ) → IsOn start steps v → f v ≡ f start
same_throughout network start [] f grows same v (inl is) = ap f is
same_throughout network start [] f grows same v (inr led) = absurd (none_in_empty v led)
same_throughout network start (step ∷ earlier) f grows same v on =
    let before : (u : ℕ) → IsOn start earlier u → f u ≡ f start =
    same_throughout network start earlier f grows.0 (λ k x y there joins. same k x y (contains_rest step.link k (step_links earlier) there) joins) in
    elim (on_before start step earlier v on) [
      | inl is ↦ ap f is ∙ sym (same step.link step.old step.new (contains_first step.link step.link (step_links earlier) refl) grows.3) ∙ before step.old grows.1
      | inr early ↦ before v early
    ]

module _ (network : Network) (start other_start : ℕ) (steps other_steps : List Step) (grows : Grow network start steps) (other_grows : Grow network other_start other_steps)
    (links : (k : ℕ) → Contains (step_links steps) k → Contains (step_links other_steps) k) (l : ℕ) where
  -- whether a node's ways up on the two trees go along the link, and whether just one does
  abbrev along : ℕ → Bool
  along v = goes_along (links_up steps v) l

  abbrev other_along : ℕ → Bool
  other_along v = goes_along (links_up other_steps v) l

  abbrev ways_differ : ℕ → Bool
  ways_differ v = one_alone (along v) (other_along v)

  -- just one does at all nodes or at none
  differ_alike : (v : ℕ) → IsOn start steps v → ways_differ v ≡ ways_differ start
  differ_alike = same_throughout network start steps ways_differ grows (λ k x y there joins.
      alone_across (along x) (along y) (other_along x) (other_along y)
      (link_flips network start steps k x y l grows there joins ∙ sym (link_flips network other_start other_steps k x y l other_grows (links k there) joins)))

  -- so a link is on the route of two nodes on both trees or on neither
  pub route_alike : (u v : ℕ) → IsOn start steps u → IsOn start steps v → one_alone (along u) (along v) ≡ one_alone (other_along u) (other_along v)
  route_alike u v u_on v_on = alone_across (along u) (other_along u) (along v) (other_along v) (differ_alike u u_on ∙ sym (differ_alike v v_on))

  -- and the smaller side of a link is the same on both, for ends that both join
  pub smaller_alike : (ends : List (ℕ × ℕ)) → All (λ (end : ℕ × ℕ). IsOn start steps end.0) ends
      → min (rate_up steps ends l) (total_rate ends - rate_up steps ends l) ≡ min (rate_up other_steps ends l) (total_rate ends - rate_up other_steps ends l)
  smaller_alike ends joins = at (ways_differ start) (λ end on. differ_alike end.0 on)
    where
      at : (alone : Bool) → ((end : ℕ × ℕ) → IsOn start steps end.0 → ways_differ end.0 ≡ alone)
          → min (rate_up steps ends l) (total_rate ends - rate_up steps ends l) ≡ min (rate_up other_steps ends l) (total_rate ends - rate_up other_steps ends l)
      at true alike =
          let opposed = All-weaker (λ (end : ℕ × ℕ). IsOn start steps end.0) (λ (end : ℕ × ℕ). other_along end.0 ≡ not (along end.0))
          (λ end on. alone_yes (along end.0) (other_along end.0) (alike end on)) ends joins in
          omega (arith, rates_opposed along other_along ends opposed)
      at false alike =
          let agree = All-weaker (λ (end : ℕ × ℕ). IsOn start steps end.0) (λ (end : ℕ × ℕ). along end.0 ≡ other_along end.0)
          (λ end on. alone_no (along end.0) (other_along end.0) (alike end on)) ends joins in
          omega (arith, rates_agree along other_along ends agree)

-- two trees of the same links have the same routes
pub same_routes : (network : Network) (one other : Growth) → IsTree network one → IsTree network other → AreSame one other → HaveSameRoutes one other
same_routes network one other is_tree is_other same u v l u_on v_on =
    route_alike network one.start other.start (reverse one.steps) (reverse other.steps) is_tree is_other
    (λ k there. in_reverse (λ (step : Step). step.link) other.steps k ((same.links k).0 (from_reverse (λ (step : Step). step.link) one.steps k there)))
    l u v (on_reverse one.start one.steps u u_on) (on_reverse one.start one.steps v v_on)
