use Rattle.std.proofs.Common.{rules, ◌≡◌, ◌∙◌, Some, ap, sym, map, option_map}
use Rattle.serde_json.specs.View.{items_view, view}
use Rattle.serde_json.specs.Find.{as_array, get}
use Rattle.hose_topo_json.specs.JsonValue.{elements}
use Rattle.std.specs.Prelude.{option_and_then}
use Rattle.hose_topo_json.proofs.Values.{elements-items_view}
use Rattle.hose_topo_json.proofs.member.list.Goals as goal

pub returns : goal.returns
returns c =
    let here : Some (items_view c.in-Some.values.now.items) ≡ option_and_then as_array (get c.args.name.now (view c.args.value.now)) = search rules in
    let same : c.deref.result.now ≡ c.in-Some.values.now.items = search rules in
    ap (λ values. Some (map view values)) same ∙ ap Some (sym (elements-items_view c.in-Some.values.now.items)) ∙ ap (option_map elements) here
