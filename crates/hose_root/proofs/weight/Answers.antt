-- The endpoint's share is small, and it is one more that is not left out.
use Rattle.std.proofs.Common.{◌≡◌, ◌∙◌, ℕ, ◌<◌, List, None, length, get_or, take, ap, sym, subst, arith}
use Rattle.std.proofs.lemmas.List.{take_all}
use Rattle.hose_graph.specs.Row.{distance_of}
use Rattle.hose_law.specs.CanonicalPlan.{IsWeight}
use Rattle.hose_root.specs.steps.Weight.{LeavesOut, weight_of}
use Rattle.hose_root.proofs.Weighing.{weight_more, none_left_out_more, share_at, is_weight, no_weight, left_out}
use Rattle.hose_root.proofs.weight.Goals as goal

pub loop-node-preserved : goal.loop-node-preserved
loop-node-preserved c =
    let row = c.args.row.now in
    let hose = c.args.hose.now in
    let i = c.loop-node.node-index in
    let d = c.in_ok-distance.distance in
    let share = share_at c.args.row.now c.args.hose.now c.ends-node-items.result.now c.loop-node.node-index c.in_ok-distance.distance c.distance.result c.ends-node-items.ensures.value c.loop-node-test.true c.distance.ensures c.in_ok-distance.was c.requires.bounded c.ends-node-items.ensures.hose.within in
    record {
      sum = omega (arith, share.same, weight_more row hose i d share.inside share.there);
      all = none_left_out_more row hose i d share.inside share.there c.loop-node.invariant.all;
      small = omega (arith, share.small);
    }

pub overflow_mul-weight : goal.overflow_mul-weight
overflow_mul-weight c =
    let share = share_at c.args.row.now c.args.hose.now c.ends-node-items.result.now c.loop-node.node-index c.in_ok-distance.distance c.distance.result c.ends-node-items.ensures.value c.loop-node-test.true c.distance.ensures c.in_ok-distance.was c.requires.bounded c.ends-node-items.ensures.hose.within in
    omega (arith, share.small)

pub overflow_add-weight : goal.overflow_add-weight
overflow_add-weight c =
    let share = share_at c.args.row.now c.args.hose.now c.ends-node-items.result.now c.loop-node.node-index c.in_ok-distance.distance c.distance.result c.ends-node-items.ensures.value c.loop-node-test.true c.distance.ensures c.in_ok-distance.was c.requires.bounded c.ends-node-items.ensures.hose.within in
    omega (arith, share.small, ap length c.ends-node-items.ensures.value, c.ends-node-items.ensures.hose.counted.few)

pub returns-clause-weight : goal.returns-clause-weight
returns-clause-weight c network set is_row =
    let row = c.args.row.now in
    let hose = c.args.hose.now in
    let whole : take c.loop-node.node-index hose ≡ hose = take_all c.loop-node.node-index hose (omega (arith, ap length c.ends-node-items.ensures.value)) in
    let all : ¬ LeavesOut row hose = subst (λ (es : List (ℕ × ℕ)). ¬ LeavesOut row es) whole c.loop-node.invariant.all in
    let sum : c.loop-node.weight ≡ weight_of row hose = c.loop-node.invariant.sum ∙ ap (weight_of row) whole in
    subst (IsWeight network set row.root hose) (sym sum) (is_weight network set row.root row is_row hose c.requires.nodes all)

pub returns-in_err-distance-clause-weight : goal.returns-in_err-distance-clause-weight
returns-in_err-distance-clause-weight c network set is_row =
    let row = c.args.row.now in
    let hose = c.args.hose.now in
    let i = c.loop-node.node-index in
    let same = c.ends-node-items.ensures.value in
    let inside : i < length hose = omega (arith, ap length same) in
    let none : distance_of row (get_or hose i (0, 0)).0 ≡ None =
    ap (λ (es : List (ℕ × ℕ)). distance_of row (get_or es i (0, 0)).0) (sym same) ∙ sym c.distance.ensures ∙ c.in_err-distance.was in
    rw c.from_residual.ensures (no_weight network set row.root row is_row hose c.requires.nodes (left_out row hose i inside none))
