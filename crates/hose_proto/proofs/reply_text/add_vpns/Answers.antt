use Rattle.std.proofs.Common.{[], ◌∷◌, codes, decimal, map}
use Rattle.hose_io.proofs.Gathering.{IsAdded-next}
use Rattle.hose_proto.proofs.Spacing.{added_list, added_words}
use Rattle.hose_proto.proofs.reply_text.add_vpns.Goals as goal

pub returns : goal.returns
returns g c = λ network.
    let ids = c.args.ids.now in
    let numbers = added_list decimal ids (rw c.ids.ensures.value at c.add_ids.ensures) in
    IsAdded-next c.add.ensures (added_words (map decimal ids) (codes "at" ∷ decimal c.args.at ∷ []) numbers c.add_last.ensures)
