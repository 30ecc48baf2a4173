-- Traffic across a link, by marks on the nodes beyond it.
use Rattle.std.proofs.Common.{◌≡◌, ◌∙◌, ℕ, ◌<◌, ◌≤◌, Bool, List, cond, length, refl, ap, arith}
use Rattle.std.proofs.lemmas.List.{get_or-map}
use Rattle.hose_graph.specs.Hose.{IsHose}
use Rattle.hose_graph.specs.declared.limits.TheConstants.{MOST_RATE}
use Rattle.hose_law.specs.steps.Heaviest.{lies_beyond}
use Rattle.hose_law.specs.Matrix.{IsWithinRates, demand, node_at, rate_at, sum_below}
use Rattle.hose_law.specs.Route.{matrix_load, one_alone}
use Rattle.hose_law.specs.Tree.{Growth}
use Rattle.hose_law.proofs.Sums.{same_sums, term-le}
use Rattle.hose_tree.specs.steps.Side.{AreBeyond, is_marked, sent_across}

-- a rate is within its limit
pub rate-le : (hose : List (ℕ × ℕ)) → IsHose hose → (i : ℕ) → i < length hose → rate_at hose i ≤ MOST_RATE
rate-le hose is i below =
    let rate = get_or-map (λ (end : ℕ × ℕ). end.1) hose i (0, 0) 0 below in
    omega (arith, rate, (is.within i (0, 0) below).rate.1)

-- so is each entry of a matrix within the rates
pub entry-le : (hose : List (ℕ × ℕ)) (matrix : List (List ℕ)) → IsHose hose → IsWithinRates hose matrix → (i j : ℕ) → i < length hose → j < length hose → demand matrix i j ≤ MOST_RATE
entry-le hose matrix is within i j i_below j_below =
    omega (arith, term-le (length hose) (demand matrix i) j j_below, within.within i i_below, rate-le hose is i i_below)

module _ (tree : Growth) (hose : List (ℕ × ℕ)) (link : ℕ) (marks : List Bool) (are : AreBeyond tree link marks) where
  -- an endpoint at a marked node lies beyond the link
  pub marked_beyond : (i : ℕ) → is_marked hose marks i ≡ lies_beyond tree hose link i
  marked_beyond i = are.each (node_at hose i)

  -- what goes across by the marks is the load
  pub marked_load : (matrix : List (List ℕ)) (n : ℕ) → n ≡ length hose → sum_below n (sent_across hose marks matrix) ≡ matrix_load tree hose matrix link
  marked_load matrix n all =
      ap (λ (m : ℕ). sum_below m (sent_across hose marks matrix)) all
      ∙ same_sums (length hose) (sent_across hose marks matrix) (λ i. sum_below (length hose) (λ j. cond (one_alone (lies_beyond tree hose link i) (lies_beyond tree hose link j)) (demand matrix i j) 0))
      (λ i i_below. same_sums (length hose) (λ j. cond (one_alone (is_marked hose marks i) (is_marked hose marks j)) (demand matrix i j) 0)
      (λ j. cond (one_alone (lies_beyond tree hose link i) (lies_beyond tree hose link j)) (demand matrix i j) 0)
      (λ j j_below. rw (marked_beyond i, marked_beyond j) refl))
