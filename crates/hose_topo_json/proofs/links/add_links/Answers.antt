use Rattle.std.proofs.Common.{subst, sym, arith}
use Rattle.serde_json.specs.View.{view}
use Rattle.hose_graph.proofs.Growth.{IsLink-kept}
use Rattle.hose_topo_json.specs.JsonTopology.{TellsJsonLink, unlinked}
use Rattle.hose_topo_json.proofs.Values.{fewer_told, told_more, value_here}
use Rattle.hose_topo_json.proofs.links.add_links.Goals as goal

pub returns-in_default-clause-wrong : goal.returns-in_default-clause-wrong
returns-in_default-clause-wrong c = record {
  links = c.loop-place.top.links;
  value = view c.index-values-place.result;
  front = c.loop-place.invariant.1;
  here = value_here c.args.values.now c.loop-place.place c.index-values-place.result c.loop-place-test.true c.index-values-place.is;
  wrong = λ link told. c.in_default.ensures.none link (subst (λ nodes. TellsJsonLink nodes (view c.index-values-place.result) link) (sym c.loop-place.invariant.0) told);
}

pub push_link-requires-clause-room : goal.push_link-requires-clause-room
push_link-requires-clause-room c =
    omega (arith, c.requires.few, fewer_told (TellsJsonLink c.args.top.now.nodes) c.args.values.now c.loop-place.top.links c.loop-place.place c.loop-place.invariant.1 c.loop-place-test.true)

pub push_link-requires-clause-is_link : goal.push_link-requires-clause-is_link
push_link-requires-clause-is_link c =
    IsLink-kept (unlinked c.loop-place.top.nodes) c.loop-place.top (omega arith) c.in-Some.link c.in-Some.ensures.some.is_link

pub loop-place-preserved : goal.loop-place-preserved
loop-place-preserved c =
    let added = c.push_link.ensures.added in
    let link = c.in-Some.link in
    let told = subst (λ nodes. TellsJsonLink nodes (view c.index-values-place.result) link) c.loop-place.invariant.0 c.in-Some.ensures.some in
    rw added (
      c.loop-place.invariant.0,
      told_more (TellsJsonLink c.args.top.now.nodes) c.args.values.now c.loop-place.top.links c.loop-place.place c.index-values-place.result link c.loop-place-test.true c.index-values-place.is
          c.loop-place.invariant.1 told,
    )
