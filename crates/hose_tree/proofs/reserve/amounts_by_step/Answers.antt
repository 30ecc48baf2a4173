use Rattle.std.proofs.Common.{◌≡◌, ◌-◌, [], ◌∷◌, min, get_or, reverse, arith}
use Rattle.hose_graph.specs.Hose.{total_rate}
use Rattle.hose_tree.proofs.Unwinding.{IsUnwound, unwound_none, unwound_last, unwound_all, old_has_place, new_has_place, nodes_differ, rates_fit, rate_at_new-le, unwound_more}
use Rattle.hose_tree.proofs.reserve.amounts_by_step.Goals as goal
use Rattle.hose_tree.proofs.reserve.amounts_by_step.Goals.{In-Some}

pub loop-step-init : goal.loop-step-init
loop-step-init c =
    let rest : c.into_iter-step-iterator.result.iter.rest.now ≡ c.args.tree.now.steps = cc in
    let none : c.new-pairs.result.items ≡ [] = c.new-pairs.ensures.items in
    let is = c.steps.ensures.is_tree in
    rw (rest, none) (unwound_none c.args.tree.now c.args.hose.now is.0 c.args.rates.now is.1 is.2 c.requires.rates)

-- the step that is taken off is the last of those that are left
before : (c : In-Some) → IsUnwound c.args.tree.now c.args.hose.now (c.in-Some.step.now ∷ reverse c.next.new.self.iter.rest.now) c.loop-step.rates c.loop-step.pairs.items
before c =
    unwound_last c.args.tree.now c.args.hose.now c.loop-step.step-iterator.iter.rest.now c.next.new.self.iter.rest.now c.in-Some.step.now c.loop-step.rates c.loop-step.pairs.items
    c.in-Some.ensures.steps c.loop-step.invariant

pub move_rate-beyond-requires-clause-old : goal.move_rate-beyond-requires-clause-old
move_rate-beyond-requires-clause-old c =
    omega (arith, old_has_place _ _ _ _ _ _ (before (goal.at.move_rate-beyond-requires-clause-old c).In-Some))

pub move_rate-beyond-requires-clause-new : goal.move_rate-beyond-requires-clause-new
move_rate-beyond-requires-clause-new c =
    omega (arith, new_has_place _ _ _ _ _ _ (before (goal.at.move_rate-beyond-requires-clause-new c).In-Some))

pub move_rate-beyond-requires-clause-differ : goal.move_rate-beyond-requires-clause-differ
move_rate-beyond-requires-clause-differ c =
    nodes_differ _ _ _ _ _ _ (before (goal.at.move_rate-beyond-requires-clause-differ c).In-Some)

pub move_rate-beyond-requires-clause-fits : goal.move_rate-beyond-requires-clause-fits
move_rate-beyond-requires-clause-fits c =
    omega (arith, rates_fit _ _ _ _ _ _ (before (goal.at.move_rate-beyond-requires-clause-fits c).In-Some) (omega arith), c.total-total.ensures.bound)

pub overflow_sub-total : goal.overflow_sub-total
overflow_sub-total c =
    omega (arith, rate_at_new-le _ _ _ _ _ _ (before (goal.at.overflow_sub-total c).In-Some) (omega arith))

pub loop-step-preserved : goal.loop-step-preserved
loop-step-preserved c =
    let moved = c.move_rate-beyond in
    let rate = moved.ensures.rate in
    let smaller : c.min.result ≡ min (get_or c.loop-step.rates c.in-Some.step.now.new 0) (total_rate c.args.hose.now - get_or c.loop-step.rates c.in-Some.step.now.new 0) =
    let sum = c.total-total.ensures.sum in cc (c.min.ensures) in
    rw c.in_ok-push.ensures.items (unwound_more _ _ _ _ _ _ (before (goal.at.loop-step-preserved c).In-Some) moved.new.rates c.min.result (omega arith) (omega arith) (omega arith) moved.ensures.new moved.ensures.others smaller)

pub returns-clause-amounts : goal.returns-clause-amounts
returns-clause-amounts c =
    unwound_all c.args.tree.now c.args.hose.now c.loop-step.step-iterator.iter.rest.now c.loop-step.rates c.loop-step.pairs.items c.in-None.ensures.steps.0 c.loop-step.invariant
