use Rattle.std.proofs.Common.{◌≡◌, ◌∙◌, ◌||◌, false, List, get_or, eqb, length, sym, ap, arith}
use Rattle.hose_graph.specs.declared.topology.Step.{Step}
use Rattle.hose_tree.proofs.Marking.{marked_none, marked_more, step_has_places}
use Rattle.hose_tree.proofs.traffic.mark_beyond.Goals as goal
use Rattle.hose_tree.proofs.traffic.mark_beyond.Goals.{then-marks-step, else-marks-step}

pub loop-step-init : goal.loop-step-init
loop-step-init c = marked_none c.args.tree.now c.args.link c.args.marks.now c.requires.none

pub bounds-marks-step : goal.bounds-marks-step
bounds-marks-step c =
    let is = c.steps-step-items.ensures.is_tree in
    let places = step_has_places c.args.tree.now is.0 is.1 is.2 c.steps-step-items.result.now c.steps-step-items.ensures.steps c.loop-step.step-index (record { link = 0; old = 0; new = 0 }) c.loop-step-test.true in
    omega (arith, places.0, c.loop-step.invariant.places)

pub bounds-marks-step-in-loop-step : goal.bounds-marks-step-in-loop-step
bounds-marks-step-in-loop-step c =
    let is = c.steps-step-items.ensures.is_tree in
    let places = step_has_places c.args.tree.now is.0 is.1 is.2 c.steps-step-items.result.now c.steps-step-items.ensures.steps c.loop-step.step-index (record { link = 0; old = 0; new = 0 }) c.loop-step-test.true in
    omega (arith, places.1, c.loop-step.invariant.places)

pub loop-step-preserved : goal.loop-step-preserved
loop-step-preserved c =
    let is = c.steps-step-items.ensures.is_tree in
    let same = c.steps-step-items.ensures.steps in
    let none : Step = record { link = 0; old = 0; new = 0 } in
    let i = c.loop-step.step-index in
    let places = step_has_places c.args.tree.now is.0 is.1 is.2 c.steps-step-items.result.now same i none c.loop-step-test.true in
    let step : Step = get_or c.steps-step-items.result.now i none in
    let marked : c.if-marks-step.marks ≡ (get_or c.loop-step.marks step.old false || eqb step.link c.args.link) =
    elim c.if-marks-step.branch [ then-marks-step w ↦ rw w.if-marks-step.true (w.marks-is ∙ w.if-marks-step.true) | else-marks-step w ↦ rw w.if-marks-step.false (w.marks-is) ] in
    marked_more c.args.tree.now c.args.link step i none c.loop-step.marks c.if-marks-step.marks (omega (arith, ap length same, c.loop-step-test.true))
    (ap (λ (s : List Step). get_or s i none) (sym same)) places.1 marked c.loop-step.invariant
