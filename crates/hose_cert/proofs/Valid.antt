-- The text of a plan over all links is a valid certificate.
use Rattle.std.proofs.Common.{suc, zero, ◌≡◌, ◌∙◌, ℕ, ◌+◌, ◌*◌, ◌<◌, ◌≤◌, Bool, true, false, not, List, [], ◌∷◌, ◌++◌, length, map, drop, replicate, mul-le-mul, inl, inr, refl, sym, ap, subst, arith, Contains}
use Rattle.std.specs.List.{All, flat_map, range_with_len, slice_index}
use Rattle.std.proofs.lemmas.Bool.{cases_lt, false≢true}
use Rattle.std.proofs.lemmas.List.{get_or-map, get_or-replicate, get_or_past, length-drop, length-replicate, length-take}
use Rattle.std.proofs.lemmas.List.Elements.{All-contains, All-contains_itself, All-drop, All-take, All-weaker}
use Rattle.std.proofs.lemmas.List.Sums.{sum_by-le}
use Rattle.hose_graph.specs.Hose.{IsHose}
use Rattle.hose_graph.specs.Network.{Network, IsNetwork}
use Rattle.hose_graph.specs.Row.{Distances}
use Rattle.hose_graph.specs.declared.limits.TheConstants.{MOST_AMOUNT, MOST_COST, MOST_TREE_LINKS}
use Rattle.hose_graph.specs.declared.topology.Link.{Link}
use Rattle.hose_law.specs.CanonicalPlan.{IsCanonicalPlan}
use Rattle.hose_law.specs.Plan.{plan_cost}
use Rattle.hose_law.specs.steps.Plan.{AreNodes}
use Rattle.hose_law.specs.Tree.{IsTreeReservation}
use Rattle.hose_law.specs.Walk.{IsIn, all_links, cost_of}
use Rattle.hose_law.proofs.Bounds.{reserved_few, reserved_links, reserved_most, reserved_ranges}
use Rattle.hose_law.proofs.CanonicalPlans.{plan_reserves}
use Rattle.hose_cert.specs.CertLine.{CertLine, MayBeSaid, end_line, numbers_from, use_line}
use Rattle.hose_cert.specs.Certificate.{IsCertificate, left_out_in, numbers_in, used_in}
use Rattle.hose_cert.specs.steps.Judging.{AreUpToMost}
use Rattle.hose_cert.specs.Rules.{Claims, DifferWithinCosts, HasNamed, MeetsRules, others_of, weighed_by}
use Rattle.hose_cert.specs.Verdict.{IsValid}
use Rattle.hose_cert.specs.Written.{AreRootRows, IsPlanText, block_line, blocks_of, first_lines, numbers_of, plan_claim, plan_lines, root_lines, roots_lines, certificate_text}
use Rattle.hose_cert.specs.declared.statement.TheConstants.{LINE_NUMBERS, MOST_NUMBER}
use Rattle.hose_cert.proofs.InOrder.{follow_plan, last_plan, left_out_none, said_by_plan, used_plan}
use Rattle.hose_cert.proofs.LineTexts.{AreFine, are_lines, fine_both}
use Rattle.hose_cert.proofs.Numbered.{at_root, differ, enough, places, up_to}

-- ---- no link left out

no_link : (n l : ℕ) → IsIn (replicate n false) l → ⊥
no_link n l there = elim (cases_lt l n) [
  | inl below ↦ false≢true (sym (get_or-replicate n l false false below) ∙ there)
  | inr past ↦ false≢true (sym (get_or_past (replicate n false) l false (omega (arith, past, length-replicate {A = Bool} n false))) ∙ there)
]

all_others : (n : ℕ) → map not (replicate n false) ≡ replicate n true
all_others zero = refl
all_others (suc n) = ap (λ (bs : List Bool). true ∷ bs) (all_others n)

-- a unit of bandwidth costs no more than the limit on a link
unit_few : (network : Network) → IsNetwork network → (l : ℕ) → l < length network.links → cost_of network l ≤ MOST_COST
unit_few network is l below =
    let none : Link = record { a = 0; b = 0; capacity = 0; length = 0; cost = 0 } in
    omega (arith, get_or-map (λ (link : Link). link.cost) network.links l none 0 below, (is.links l none below).in_range.cost)

module _ (network : Network) (is : IsNetwork network) (hose plan : List (ℕ × ℕ)) (is_hose : IsHose hose) (nodes : AreNodes network hose) (canonical : IsCanonicalPlan network (all_links network) hose plan) where
  abbrev most : ℕ
  most = plan_cost network plan

  abbrev all : List Bool
  all = all_links network

  on : IsTreeReservation network all hose plan
  on = plan_reserves network is all hose plan is_hose canonical

  -- the plan costs no more than the limit
  cost_few : most ≤ MOST_NUMBER
  cost_few =
      let cost : ℕ × ℕ → ℕ = λ (pair : ℕ × ℕ). cost_of network pair.0 * pair.1 in
      omega (
        arith,
        sum_by-le cost (MOST_COST * MOST_AMOUNT) plan (All-weaker (Contains plan) (λ (pair : ℕ × ℕ). cost pair ≤ MOST_COST * MOST_AMOUNT) each plan (All-contains_itself plan)),
        reserved_few network is all hose plan on,
      )
    where
      each : (pair : ℕ × ℕ) → Contains plan pair → cost_of network pair.0 * pair.1 ≤ MOST_COST * MOST_AMOUNT
      each pair there =
          let link = All-contains (λ (p : ℕ × ℕ). p.0 < length network.links) plan pair (reserved_links network is all hose plan on) there in
          let amount = All-contains (λ (p : ℕ × ℕ). p.1 ≤ MOST_AMOUNT) plan pair (reserved_most network is all hose plan is_hose on) there in
          mul-le-mul (unit_few network is pair.0 link) amount

  -- ---- each line is in range

  uses_fine : (pairs : List (ℕ × ℕ)) → All (λ (pair : ℕ × ℕ). MayBeSaid network (use_line pair)) pairs → AreFine network is (map use_line pairs)
  uses_fine [] fine = tt
  uses_fine (pair ∷ pairs) fine = (fine 0 pair (omega arith), uses_fine pairs (λ k d below. fine (suc k) d (omega (arith, below))))

  use_fine : All (λ (pair : ℕ × ℕ). MayBeSaid network (use_line pair)) plan
  use_fine k d below =
      let range = reserved_ranges network is all hose plan is_hose on in
      (reserved_links network is all hose plan on k d below, (range.within k d below).amount)

  first_fine : AreFine network is (first_lines network hose plan)
  first_fine = (cost_few, (record { is_hose = is_hose; nodes = nodes }, uses_fine plan use_fine))

  module _ (numbers : ℕ → List ℕ) (long : (root : ℕ) → root < length network.nodes → length (numbers root) ≡ length network.nodes) (small : (root : ℕ) → root < length network.nodes → AreUpToMost (numbers root)) where
    block_fine : (root : ℕ) → root < length network.nodes → (block : ℕ) → block < blocks_of network → MayBeSaid network (block_line network root (numbers root) block)
    block_fine root node block below =
        let from : ℕ = block * LINE_NUMBERS in
        let count : ℕ = numbers_from network from in (
          node,
          omega (arith, below),
          length-take count (drop from (numbers root)) ∙ omega (arith, length-drop from (numbers root), long root node),
          All-take (λ (n : ℕ). n ≤ MOST_NUMBER) count (drop from (numbers root)) (All-drop (λ (n : ℕ). n ≤ MOST_NUMBER) from (numbers root) (small root node)),
        )

    blocks_fine : (root : ℕ) → root < length network.nodes → (block count : ℕ) → block + count ≤ blocks_of network → AreFine network is (map (block_line network root (numbers root)) (range_with_len block count))
    blocks_fine root node block zero within = tt
    blocks_fine root node block (suc count) within = (block_fine root node block (omega (arith, within)), blocks_fine root node (block + 1) count (omega (arith, within)))

    roots_fine : (root count : ℕ) → root + count ≤ length network.nodes → AreFine network is (flat_map (λ k. root_lines network k (numbers k)) (range_with_len root count))
    roots_fine root zero within = tt
    roots_fine root (suc count) within =
        fine_both network is (root_lines network root (numbers root)) (flat_map (λ k. root_lines network k (numbers k)) (range_with_len (root + 1) count))
        (blocks_fine root (omega (arith, within)) 0 (blocks_of network) (omega arith)) (roots_fine (root + 1) count (omega (arith, within)))

  -- ---- the whole

  module _ (row_of : ℕ → Distances) (rows : AreRootRows network row_of) where
    abbrev numbers : ℕ → List ℕ
    numbers root = numbers_of most (row_of root).dist

    abbrev lines : List CertLine
    lines = plan_lines network hose plan row_of

    any : 1 ≤ length network.nodes
    any = omega (arith, nodes 0 (0, 0) (omega (arith, is_hose.counted.enough)))

    fine : AreFine network is lines
    fine =
        let roots = roots_fine numbers (λ root node. places network is all most root (row_of root) (rows root node)) (λ root node. up_to network is all most root (row_of root) (rows root node) cost_few) 0 (length network.nodes) (omega arith) in
        fine_both network is (first_lines network hose plan ++ roots_lines network most row_of (length network.nodes)) (end_line ∷ [])
        (fine_both network is (first_lines network hose plan) (roots_lines network most row_of (length network.nodes)) first_fine roots) (tt, tt)

    some : 1 ≤ length plan
    some = (reserved_ranges network is all hose plan is_hose on).some

    used : used_in lines ≡ plan
    used = used_plan network numbers most hose plan

    none_out : left_out_in lines ≡ []
    none_out = left_out_none network numbers most hose plan

    said : (root : ℕ) → root < length network.nodes → numbers_in root lines ≡ numbers root
    said root node = said_by_plan network numbers most hose plan root node (places network is all most root (row_of root) (rows root node))

    whole : IsCertificate network lines
    whole = record {
      follow = follow_plan network numbers most hose plan any some on.reserves.ascending;
      ends = last_plan network numbers most hose plan;
      few = subst (λ (pairs : List (ℕ × ℕ)). length pairs ≤ MOST_TREE_LINKS) (sym used) (reserved_few network is all hose plan on);
      apart = λ link out there. none_there link (subst (λ (links : List ℕ). Contains links link) none_out out);
    }
      where
        none_there : (link : ℕ) → Contains [] link → ⊥
        none_there link (k, below, same) = omega (arith, below)

    named : HasNamed network (left_out_in lines) (replicate (length network.links) false)
    named = subst (λ (out : List ℕ). HasNamed network out (replicate (length network.links) false)) (sym none_out) (record {
      places = length-replicate {A = Bool} (length network.links) false;
      has = λ link. (λ there. absurd (no_link (length network.links) link there), λ there. absurd (no_name link there));
    })
      where
        no_name : (link : ℕ) → Contains [] link → ⊥
        no_name link (k, below, same) = omega (arith, below)

    claims : Claims network lines (plan_claim network hose plan)
    claims = record { more = _; front = refl; pairs = sym used; without = named }

    meets : MeetsRules network lines (plan_claim network hose plan)
    meets = record {
      tree = on;
      costs = refl;
      roots = λ root node. subst (λ (ns : List ℕ). slice_index ns root ≡ 0) (sym (said root node)) (at_root network is all most root (row_of root) (rows root node) node);
      changes = λ root node.
          subst (λ (ns : List ℕ). DifferWithinCosts network (others_of (replicate (length network.links) false)) ns) (sym (said root node))
          (subst (λ (set : List Bool). DifferWithinCosts network set (numbers root)) (sym (all_others (length network.links))) (differ network is all most root (row_of root) (rows root node)));
      weighs = λ root node. subst (λ (ns : List ℕ). most ≤ weighed_by ns hose) (sym (said root node)) (enough network is hose plan is_hose nodes canonical root node (row_of root) (rows root node));
    }

    lines_valid : IsValid network (certificate_text network lines) (plan_claim network hose plan)
    lines_valid = record { lines = lines; is_text = record { are = are_lines network is lines fine; whole = whole }; claims = claims; meets = meets }

  -- the plan's text is a valid certificate of the plan
  pub text_valid : (text : List ℕ) → IsPlanText network hose plan text → IsValid network text (plan_claim network hose plan)
  text_valid text is_text = subst (λ (bytes : List ℕ). IsValid network bytes (plan_claim network hose plan)) (sym is_text.spelled) (lines_valid is_text.row_of is_text.rows)
