use Rattle.std.proofs.Common.{◌≡◌, ◌+◌, ◌∷◌, [], ◌++◌, ℕ, false, Vec, Global, get_or, sym, ◌∙◌, ap, subst, rules}
use Rattle.std.proofs.lemmas.Bool.{true≢false}
use Rattle.hose_law.specs.Walk.{IsIn}
use Rattle.hose_tree.specs.steps.Nodes.{AreNodesBelow}
use Rattle.hose_tree.proofs.Listing.{node_more, no_node_more}
use Rattle.hose_tree.proofs.reach.nodes_on.Goals.{then-side-v+in_ok-push, else-side-v}
use Rattle.hose_tree.proofs.reach.nodes_on.Goals as goal

pub loop-v-preserved : goal.loop-v-preserved
loop-v-preserved c =
    let side = c.args.side.now in
    let v = c.loop-v.v in
    let nodes = c.loop-v.nodes.items in
    elim c.if-side-v.branch [
      | then-side-v+in_ok-push w ↦
          let items : c.if-side-v.nodes.items ≡ nodes ++ v ∷ [] = ap (λ (n : Vec ℕ Global). n.items) w.nodes-is ∙ w.in_ok-push.ensures.items in
          let on : IsIn side v = search rules in
          subst (AreNodesBelow side (v + 1)) (sym items) (node_more side v nodes c.loop-v.invariant on)
      | else-side-v w ↦
          let items : c.if-side-v.nodes.items ≡ nodes = ap (λ (n : Vec ℕ Global). n.items) w.nodes-is in
          let off : get_or side v false ≡ false = search rules in
          subst (AreNodesBelow side (v + 1)) (sym items) (no_node_more side v nodes c.loop-v.invariant (λ on. true≢false (sym on ∙ off)))
    ]
