-- Least cost: canonical plans are a cheapest way to carry a hose over their set of links.
use Rattle.std.proofs.Common.{◌≡◌, ◌∙◌, ℕ, zero, suc, ◌*◌, ◌≤◌, Bool, List, [], ◌∷◌, map, reverse, take, Some, refl, sym, ap, subst, inl, inr, arith, mul-le-mul, le_refl}
use Rattle.std.specs.List.{Contains, slice_get, sum_by}
use Rattle.std.proofs.lemmas.Bool.{cases_lt}
use Rattle.std.proofs.lemmas.List.{length-map}
use Rattle.std.proofs.lemmas.List.Elements.{All-contains, All-contains_itself, All-weaker}
use Rattle.std.proofs.lemmas.List.Sorted.{IsPermutation-map, IsPermutation-reverse, sum_by-IsPermutation}
use Rattle.std.proofs.lemmas.List.Sums.{sum_by-cons}
use Rattle.std.proofs.lemmas.Option.{slice_get_within}
use Rattle.std.proofs.lemmas.Slice.Zip.{firsts-zip}
use Rattle.hose_graph.specs.Network.{Network, IsNetwork}
use Rattle.hose_graph.specs.declared.entry.Entry.{Entry}
use Rattle.hose_graph.specs.declared.entry.Entry.TheVariants.{Admit}
use Rattle.hose_graph.specs.declared.topology.Step.{Step}
use Rattle.hose_law.specs.CanonicalPlan.{IsCanonicalPlan, IsWeight}
use Rattle.hose_law.specs.Carries.{Carry, amounts_on}
use Rattle.hose_law.specs.Cheapest.{AreCheapest, IsCheapest, amounts_cost}
use Rattle.hose_law.specs.steps.Cheapest.{HasRootWithin}
use Rattle.hose_law.specs.Book.{Book}
use Rattle.hose_law.specs.History.{AreFrom, IsDecided, IsDecidedAt, book_after, next_book, opening_book}
use Rattle.hose_law.specs.Plan.{plan_cost}
use Rattle.hose_law.specs.Tree.{Growth, IsOn, IsTree, IsTreeOver, links_of, smaller_side, step_links}
use Rattle.hose_law.specs.Walk.{IsIn, Reaches, cost_of}
use Rattle.hose_law.proofs.Apart.{sum_of_map}
use Rattle.hose_law.proofs.Carrying.{carry_least, reserved_carry}
use Rattle.hose_law.proofs.Distances.{HasWalk, distance_least}
use Rattle.hose_law.proofs.Halves.{some_weight}
use Rattle.hose_law.proofs.LeastRoot.{HasGoodRoot, between, good_root, sides_cost, sides_cost_is, way_walks}
use Rattle.hose_law.proofs.PlanWeight.{plan_weight}
use Rattle.hose_law.proofs.TightWays.{from_reverse}
use Rattle.hose_law.proofs.Trees.{on_is_node, on_reverse}
use Rattle.hose_graph.proofs.Members.{contains_first, contains_rest}

-- terms that are no greater where they are summed have no greater sum
sums-le : {X : Type 0} (f g : X → ℕ) (xs : List X) → ((x : X) → Contains xs x → f x ≤ g x) → sum_by f xs ≤ sum_by g xs
sums-le f g [] each = omega arith
sums-le f g (x ∷ xs) each =
    let rest = sums-le f g xs (λ z there. each z (contains_rest x z xs there)) in
    omega (arith, sum_by-cons f x xs, sum_by-cons g x xs, each x (contains_first x x xs refl), rest)

-- a weight is no more than the rates, each times what some walk to the endpoint costs
weight-le : (network : Network) (set : List Bool) (root : ℕ) (far : ℕ → ℕ) (ends : List (ℕ × ℕ)) → ((end : ℕ × ℕ) → Contains ends end → HasWalk network set root end.0 (far end.0))
    → (weight : ℕ) → IsWeight network set root ends weight → weight ≤ sum_by (λ (end : ℕ × ℕ). end.1 * far end.0) ends
weight-le network set root far [] walks weight is = omega (arith, is)
weight-le network set root far (end ∷ ends) walks weight (d, rest, is_d, is_rest, sum) =
    let least = distance_least network set root end.0 d (far end.0) is_d (walks end (contains_first end end ends refl)) in
    let others = weight-le network set root far ends (λ e there. walks e (contains_rest end e ends there)) rest is_rest in
    omega (arith, sum, mul-le-mul (le_refl end.1) least, others, sum_by-cons (λ (e : ℕ × ℕ). e.1 * far e.0) end ends)

module _ (network : Network) (is : IsNetwork network) (set : List Bool) (hose : List (ℕ × ℕ))
    (tree : Growth) (amounts : List ℕ) (is_tree : IsTree network tree) (over : IsTreeOver set tree) (carries : Carry tree hose amounts) where
  abbrev steps : List Step
  steps = reverse tree.steps

  -- amounts that carry a hose cost no less than the smaller sides
  sides-le : sides_cost network steps hose ≤ amounts_cost network tree amounts
  sides-le =
      let on = amounts_on tree amounts in
      let cost : ℕ → ℕ = λ l. cost_of network l * smaller_side tree hose l in
      let pairs = sums-le (λ (pair : ℕ × ℕ). cost pair.0) (λ (pair : ℕ × ℕ). cost_of network pair.0 * pair.1) on
      (λ pair there. mul-le-mul (le_refl (cost_of network pair.0)) (All-contains (λ (p : ℕ × ℕ). smaller_side tree hose p.0 ≤ p.1) on pair (carry_least tree hose amounts carries) there)) in
      let firsts : map (λ (p : ℕ × ℕ). p.0) on ≡ links_of tree = firsts-zip (links_of tree) amounts (carries.places ∙ sym (length-map tree.steps (λ (step : Step). step.link))) in
      let by_link = sum_of_map cost (λ (p : ℕ × ℕ). p.0) on in
      let links = ap (sum_by cost) firsts in
      let turned = sum_by-IsPermutation cost (links_of tree) (step_links steps) (IsPermutation-map (λ (step : Step). step.link) tree.steps steps (IsPermutation-reverse tree.steps)) in
      let sides = sides_cost_is network tree.start steps hose is_tree in
      omega (arith, pairs, by_link, links, turned, sides)

  good : HasGoodRoot network tree.start steps hose
  good = good_root network tree.start steps hose is_tree

  walks : (end : ℕ × ℕ) → Contains hose end → HasWalk network set good.root end.0 (between network steps good.root end.0)
  walks end there =
      way_walks network set tree.start steps is_tree
      (λ l in_steps. All-contains (IsIn set) (links_of tree) l over (from_reverse (λ (step : Step). step.link) tree.steps l in_steps))
      good.root end.0 good.on
      (on_reverse tree.start tree.steps end.0 (All-contains (λ (e : ℕ × ℕ). IsOn tree.start tree.steps e.0) hose end carries.joins there))

  -- Whatever carries a hose on a tree, some node that reaches all endpoints weighs no more than it costs.
  pub root_within : HasRootWithin network set hose (amounts_cost network tree amounts)
  root_within = record {
    root = good.root;
    is_node = on_is_node network is tree.start steps good.root is_tree good.on;
    reaches = All-weaker (Contains hose) (λ (end : ℕ × ℕ). Reaches network set good.root end.0)
        (λ end there. let walk = walks end there in (walk.walk, walk.walks)) hose (All-contains_itself hose);
    weighs = λ none. some_weight network set good.root (between network steps good.root) hose walks (λ weight light is_weight. none weight is_weight);
    within = λ weight is_weight.
        omega (arith, weight-le network set good.root (between network steps good.root) hose walks weight is_weight, good.seen, sides-le);
  }

-- The canonical plan over a set of links is a cheapest way to carry the hose over it.
pub canonical_cheapest : (network : Network) → IsNetwork network → (set : List Bool) (hose plan : List (ℕ × ℕ)) → IsCanonicalPlan network set hose plan → IsCheapest network set hose plan
canonical_cheapest network is set hose plan canonical = record {
  carries = record {
    tree = canonical.tree;
    is_tree = canonical.is_canonical.is_tree;
    over = canonical.is_canonical.over;
    carries = reserved_carry canonical.tree hose plan canonical.is_canonical.joins canonical.reserves;
  };
  least = λ tree amounts is_tree over carries.
      let weighed = plan_weight network is set hose plan canonical in
      let light = root_within network is set hose tree amounts is_tree over carries in
      elim (cases_lt (amounts_cost network tree amounts) (plan_cost network plan)) [
        | inl more ↦ absurd (light.weighs (λ weight is_weight.
            omega (arith, more, light.within weight is_weight, weighed.3, weighed.2.least light.root weight light.is_node is_weight)))
        | inr least ↦ least
      ];
}

-- an entry of a history that is decided from a place on is decided at the book before it
decided_at : (network : Network) (book : Book) (entries : List Entry) (entry : Entry) (since place : ℕ) → AreFrom IsDecidedAt network book since entries → since ≤ place → slice_get entries place ≡ Some entry
    → IsDecidedAt network (book_after book (take place entries)) entry
decided_at network book [] entry since place decided later there = absurd (omega (arith, slice_get_within [] place entry there))
decided_at network book (first ∷ rest) entry zero zero decided later there = subst (IsDecidedAt network book) (cc there) decided.0
decided_at network book (first ∷ rest) entry zero (suc place) decided later there = decided_at network (next_book book first) rest entry zero place decided.1 (omega arith) there
decided_at network book (first ∷ rest) entry (suc since) zero decided later there = absurd (omega (arith, later))
decided_at network book (first ∷ rest) entry (suc since) (suc place) decided later there = decided_at network (next_book book first) rest entry since place decided (omega (arith, later)) there

-- So each admission from that place on is a cheapest one.
pub decided_cheapest : (network : Network) → IsNetwork network → (epoch since : ℕ) (history : List Entry) → IsDecided network epoch since history → AreCheapest network epoch since history
decided_cheapest network is epoch since history decided place customer hose amounts later there =
    let at = decided_at network (opening_book epoch) history (Admit customer hose amounts) since place decided.decided later there in
    (at.1.0, at.1.1.allowed, canonical_cheapest network is at.1.0 hose amounts at.1.1.is_plan)
