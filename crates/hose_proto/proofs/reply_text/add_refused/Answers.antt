use Rattle.std.proofs.Common.{◌∷◌, codes, decimal, map}
use Rattle.hose_io.proofs.Gathering.{IsAdded-next}
use Rattle.hose_graph.specs.Network.{name_of}
use Rattle.hose_proto.specs.ReplyText.{spaced}
use Rattle.hose_proto.proofs.Spacing.{added_after, added_list}
use Rattle.hose_proto.proofs.reply_text.add_refused.Goals as goal

pub returns : goal.returns
returns g c =
    let network = c.args.top.now in
    let side = c.args.side.now in
    let nodes = added_list (name_of network) side (rw c.nodes.ensures.value at c.add_side.ensures) in
    added_after (codes "refused at ") (decimal c.args.at) (spaced (codes "side" ∷ map (name_of network) side)) c.add_numbered.ensures (IsAdded-next c.add.ensures nodes)
