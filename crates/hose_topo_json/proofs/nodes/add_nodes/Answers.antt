use Rattle.std.proofs.Common.{refl, ◌≡◌, ◌∙◌, [], ◌∷◌, ◌++◌, ap, arith}
use Rattle.serde_json.specs.View.{view}
use Rattle.hose_graph.specs.Network.{Network}
use Rattle.hose_topo_json.specs.JsonTopology.{IsText, unlinked}
use Rattle.hose_topo_json.proofs.Names.{named_more}
use Rattle.hose_topo_json.proofs.Values.{all_taken, fewer_told, value_here}
use Rattle.hose_topo_json.proofs.nodes.add_nodes.Goals as goal

pub returns-in_default-clause-wrong : goal.returns-in_default-clause-wrong
returns-in_default-clause-wrong c = record {
  names = c.loop-place.top.nodes;
  value = view c.index-values-place.result;
  front = c.loop-place.invariant.1;
  here = value_here c.args.values.now c.loop-place.place c.index-values-place.result c.loop-place-test.true c.index-values-place.is;
  wrong = c.in_default.ensures.none;
}

pub push_node-requires-clause-room : goal.push_node-requires-clause-room
push_node-requires-clause-room c =
    omega (arith, c.requires.few, fewer_told IsText c.args.values.now c.loop-place.top.nodes c.loop-place.place c.loop-place.invariant.1.texts c.loop-place-test.true)

pub loop-place-preserved : goal.loop-place-preserved
loop-place-preserved c =
    let nodes = c.loop-place.top.nodes in
    let added : c.push_node.new.self ≡ unlinked (nodes ++ c.in-Some.name ∷ []) =
    c.push_node.ensures.added ∙ ap (λ (network : Network). record network { nodes = nodes ++ c.in-Some.name ∷ [] }) c.loop-place.invariant.0 in
    rw added (
      refl,
      named_more c.args.values.now nodes c.loop-place.place c.index-values-place.result c.in-Some.name c.loop-place-test.true c.index-values-place.is
          c.loop-place.invariant.1 c.in-Some.ensures.text c.in-Some.ensures.is_name c.in-Some.ensures.is_new,
    )

pub returns-clause-ok : goal.returns-clause-ok
returns-clause-ok c =
    rw (← all_taken c.args.values.now c.loop-place.place (omega arith)) c.loop-place.invariant.1
