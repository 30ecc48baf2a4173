use Rattle.std.proofs.Common.{◌∙◌, sym, inl, inr}
use Rattle.hose_topo_json.proofs.LinkEnds.{one_node}
use Rattle.hose_topo_json.proofs.links.read_link.Goals as goal

pub returns-then-a-b-clause-none : goal.returns-then-a-b-clause-none
returns-then-a-b-clause-none c = λ link told.
    let a = one_node c.args.top.now _ c.in-Some.a link.a c.nodes-nodes.ensures.network c.in-Some.ensures.is_node told.is_link.in_range.a c.in-Some.ensures.some told.a in
    let b = one_node c.args.top.now _ c.in-Some-node.b link.b c.nodes-nodes.ensures.network c.in-Some-node.ensures.is_node told.is_link.in_range.b c.in-Some-node.ensures.some told.b in
    told.is_link.no_loop (sym a ∙ c.if-a-b.true ∙ b)

pub returns-in_default-cost_of-clause-none : goal.returns-in_default-cost_of-clause-none
returns-in_default-cost_of-clause-none c = λ link told.
    let none = c.in_default-cost_of.ensures.none link.cost told.is_link.in_range.cost in
    elim told.cost [
      | inl absent ↦ none.0 absent.0
      | inr here ↦ none.1 here
    ]
