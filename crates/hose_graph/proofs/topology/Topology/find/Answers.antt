use Rattle.std.proofs.Common.{rules, ◌≡◌, ◌<◌, ◌∙◌, Some, length, get_or, ap}
use Rattle.std.proofs.lemmas.Option.{slice_get-get_or}
use Rattle.hose_graph.proofs.topology.Topology.find.Goals as goal

pub returns-clause-named : goal.returns-clause-named
returns-clause-named c =
    let nodes = c.args.self.now.nodes in
    let name = c.args.name.now in
    let place = c.in_ok-place.place in
    let below : place < length nodes = search rules in
    let there : get_or nodes place name ≡ name = search rules in
    slice_get-get_or nodes place name below ∙ ap Some there
