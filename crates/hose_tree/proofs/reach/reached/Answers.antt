use Rattle.std.proofs.Common.{◌≡◌, ◌∙◌, length, drop, sym, subst, arith}
use Rattle.std.proofs.lemmas.List.{take_at}
use Rattle.std.proofs.lemmas.Result.{IfOk-weaker}
use Rattle.hose_law.specs.steps.Plan.{IsReachedSet}
use Rattle.hose_law.specs.Decision.{IsReachedList}
use Rattle.hose_tree.specs.steps.Nodes.{AreNodesBelow}
use Rattle.hose_tree.proofs.Listing.{reached_list}
use Rattle.hose_tree.proofs.reach.reached.Goals as goal

-- the side of what is reached
side_of_reached : (c : goal.After-drop-side) → IsReachedSet c.args.top.now c.args.links.now c.args.from c.deref.result.now
side_of_reached c =
    let network = c.args.top.now in
    let links = c.args.links.now in
    let from = c.args.from in
    let side = c.deref.result.now in
    let behind = drop (length c.reach_from.new.side) c.in_ok-side.side.items in
    let long : length c.reach_from.new.side ≡ c.in_ok-side.side.len = omega (arith, c.reach_from.auto.side, c.deref_mut.ensures.len) in
    let side_is : c.reach_from.new.side ≡ side = sym (c.deref.ensures.value ∙ take_at c.reach_from.new.side behind c.in_ok-side.side.len long) in
    subst (IsReachedSet network links from) side_is c.reach_from.ensures

pub returns-clause-list : goal.returns-clause-list
returns-clause-list c =
    let side = c.deref.result.now in
    IfOk-weaker c.nodes_on.result (AreNodesBelow side (length side)) (IsReachedList c.args.top.now c.args.links.now c.args.from)
    (λ nodes are. reached_list c.args.top.now c.args.links.now c.args.from side nodes c.nodes.ensures.network c.requires.is_node (side_of_reached c) are)
    c.nodes_on.ensures.nodes
