use Rattle.std.proofs.Common.{rules, ◌≡◌, Some}
use Rattle.serde_json.specs.View.{view}
use Rattle.hose_topo_json.specs.JsonValue.{text_at}
use Rattle.hose_topo_json.proofs.LinkEnds.{named_node, names_none}
use Rattle.hose_topo_json.proofs.links.node.Goals as goal

pub returns-in_default-read-clause-none : goal.returns-in_default-read-clause-none
returns-in_default-read-clause-none c =
    let told : text_at c.args.member.now (view c.args.value.now) ≡ Some c.in-Some.text.now = search rules in
    names_none c.args.top.now _ c.in-Some.text.now c.requires told (search rules)

pub returns-clause-some : goal.returns-clause-some
returns-clause-some c =
    let told : text_at c.args.member.now (view c.args.value.now) ≡ Some c.in-Some-read.name = search rules in
    named_node c.args.top.now.nodes _ c.in-Some-read.name c.find.result told c.find.ensures.named
