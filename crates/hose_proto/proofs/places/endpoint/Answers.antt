use Rattle.std.proofs.Common.{◌≡◌, ◌∙◌, [], refl, sym}
use Rattle.std.proofs.lemmas.Bool.{false≢true}
use Rattle.std.proofs.lemmas.List.{get_or_default}
use Rattle.std.proofs.lemmas.Option.{get_or_from_slice_get}
use Rattle.hose_graph.specs.Network.{name_of}
use Rattle.hose_proto.proofs.EndWords.{name_of_end, names_its_node}
use Rattle.hose_proto.proofs.Colons.{named_cut, named_told}
use Rattle.hose_proto.proofs.places.endpoint.Goals as goal

pub returns-clause-spelled : goal.returns-clause-spelled
returns-clause-spelled c =
    let network = c.args.top.now in
    let named : c.in_ok-name.name ≡ name_of network c.in_ok-node.node =
    sym (get_or_from_slice_get network.nodes c.in_ok-node.node c.in_ok-name.name [] c.in_ok-node.ensures.named) in
    named_told c.args.word.now c.in_ok-name.name _ (name_of network c.in_ok-node.node) c.in_ok-name.rate (c.in_ok-name.ensures.spelled ∙ named_cut c.in_ok-name.name c.in_ok-name.rate) named refl

pub returns-in_err-node-clause-none : goal.returns-in_err-node-clause-none
returns-in_err-node-clause-none c =
    rw c.from_residual-in_err-node.ensures (λ end told is.
    let network = c.args.top.now in
    let found = c.in_err-node.ensures.found in
    let same : name_of network end.0 ≡ c.in_ok-name.name = names_its_node network c.args.word.now end c.requires is.is_node told ∙ name_of_end c.args.word.now c.in_ok-name.name c.in_ok-name.rate c.in_ok-name.ensures.spelled c.in_ok-name.ensures.is_name in
    false≢true (found.1 (end.0, is.is_node, get_or_default network.nodes end.0 c.in_ok-name.name [] is.is_node ∙ same)))
