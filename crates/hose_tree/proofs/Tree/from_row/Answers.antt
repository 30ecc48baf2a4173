-- Each endpoint is one more that is attached.
use Rattle.std.proofs.Common.{◌≡◌, ◌∙◌, ◌++◌, [], ◌∷◌, ℕ, ◌+◌, ◌<◌, Bool, false, List, length, get_or, take, drop, replicate, reverse, sym, ap, subst, arith}
use Rattle.std.proofs.lemmas.List.{take_all, take_at, take_more, length-replicate}
use Rattle.hose_graph.specs.Row.{Distances}
use Rattle.hose_law.specs.Row.{IsRow}
use Rattle.hose_law.specs.Tree.{IsTree}
use Rattle.hose_law.specs.CanonicalPlan.{IsCanonicalTree}
use Rattle.hose_tree.specs.steps.Attached.{IsTightTree, IsAttached}
use Rattle.hose_tree.proofs.Union.{HasAttached, one_more, none_attached, is_canonical, root_is_node}
use Rattle.hose_tree.proofs.Tree.from_row.Goals as goal

pub loop-node-init : goal.loop-node-init
loop-node-init c =
    let network = c.args.top.now in
    let row = c.args.row.now in
    let hose = c.args.hose.now in
    let n = c.nodes.result in
    let off : c.in_ok-on.on.items ≡ replicate n false = c.in_ok-on.ensures.items_if_clones_equal (λ y same. same) in
    let steps : c.new-steps.result.items ≡ [] = c.new-steps.ensures.items in
    let some : 0 < length hose = omega (arith, c.ends-node-items.ensures.hose.counted.enough) in
    let root : (set : List Bool) → IsRow network set row.root row → row.root < length network.nodes =
    λ set is_row. root_is_node network c.nodes.ensures.network set row.root row is_row (get_or hose 0 (0, 0)).0 (c.requires.reaches 0 (0, 0) some) in
    record {
      places = omega (arith, ap length off, length-replicate {A = Bool} n false, c.nodes.ensures.count);
      attached = λ set is_row. rw (steps, off) (none_attached network c.nodes.ensures.network set row.root n (root set is_row));
    }

pub loop-node-preserved : goal.loop-node-preserved
loop-node-preserved c =
    let network = c.args.top.now in
    let row = c.args.row.now in
    let hose = c.args.hose.now in
    let i = c.loop-node.node-index in
    let end = get_or hose i (0, 0) in
    let shown = c.ends-node-items.ensures.value in
    let inside : i < length hose = omega (arith, ap length shown) in
    let more : take (i + 1) hose ≡ take i hose ++ end ∷ [] = take_more hose i (0, 0) inside in
    let on = c.attach.new.on in
    let places : length on ≡ length c.loop-node.on.items = c.attach.auto.on ∙ ap length c.deref_mut.ensures.value in
    let whole : take c.loop-node.on.len (on ++ drop (length on) c.loop-node.on.items) ≡ on =
    take_at on (drop (length on) c.loop-node.on.items) c.loop-node.on.len (places ∙ sym c.loop-node.on.ok.0) in
    let old = reverse c.loop-node.steps.items in
    let new = reverse c.attach.new.steps.items in
    let attached : (set : List Bool) → IsRow network set row.root row → HasAttached network set row.root (take i hose ++ end ∷ []) new on =
    λ set is_row.
    let has = c.loop-node.invariant.attached set is_row in
    let was = subst (IsTightTree network set row.root old) (sym c.deref_mut.ensures.value) has.is_tree in
    let by = subst (λ (es : List (ℕ × ℕ)). IsAttached network set row.root (get_or es i (0, 0)).0 old new on) shown (c.in_ok-attach.ensures set is_row was) in
    one_more network c.nodes.ensures.network set row.root (take i hose) end old new c.loop-node.on.items on has by in
    rw (whole, more) (record { places = places ∙ c.loop-node.invariant.places; attached = attached })

pub invariant_of-result : goal.invariant_of-result
invariant_of-result c =
    let network = c.args.top.now in
    let row = c.args.row.now in
    let root : c.row.inside.root ≡ row.root = ap (λ (r : Distances). r.root) c.row.view_is in
    let has = c.loop-node.invariant.attached c.requires.is_row.0 c.requires.is_row.1 in
    (network, c.nodes.ensures.network, subst (λ (r : ℕ). IsTree network (record { start = r; steps = c.loop-node.steps.items })) (sym root) has.is_tree.grows)

pub returns : goal.returns
returns c set is_row =
    let network = c.args.top.now in
    let row = c.args.row.now in
    let hose = c.args.hose.now in
    let root : c.row.inside.root ≡ row.root = ap (λ (r : Distances). r.root) c.row.view_is in
    let all : take c.loop-node.node-index hose ≡ hose = take_all c.loop-node.node-index hose (omega (arith, ap length c.ends-node-items.ensures.value)) in
    let steps = c.loop-node.steps.items in
    let on = c.loop-node.on.items in
    let has : HasAttached network set row.root hose (reverse steps) on =
    subst (λ (es : List (ℕ × ℕ)). HasAttached network set row.root es (reverse steps) on) all (c.loop-node.invariant.attached set is_row) in
    subst (λ (r : ℕ). IsCanonicalTree network set hose row.root (record { start = r; steps = steps })) (sym root)
    (is_canonical network c.nodes.ensures.network set row.root hose steps on has)
