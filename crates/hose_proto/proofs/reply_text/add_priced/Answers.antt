use Rattle.std.proofs.Common.{[], ◌∷◌, ◌++◌, codes, decimal, map}
use Rattle.hose_io.proofs.Gathering.{IsAdded-next}
use Rattle.hose_proto.specs.ReplyWords.{pair_word}
use Rattle.hose_proto.specs.ReplyText.{spaced}
use Rattle.hose_proto.proofs.Spacing.{added_after, added_last, added_words, added_list}
use Rattle.hose_proto.proofs.reply_text.add_priced.Goals as goal

pub returns : goal.returns
returns g c =
    let amounts = c.args.amounts.now in
    let costed = c.args.costed in
    let front = codes "cost" ∷ decimal costed.1 ∷ codes "at" ∷ decimal costed.2 ∷ [] in
    let links = codes "links" ∷ map pair_word amounts in
    let pairs = added_list pair_word amounts (rw c.pairs.ensures.value at c.add_pairs.ensures) in
    let told = added_after (codes " cost ") (decimal costed.1) (spaced (codes "at" ∷ decimal costed.2 ∷ [])) c.add_numbered-2.ensures (added_last (codes " at ") (decimal costed.2) c.add_numbered-3.ensures) in
    added_after c.args.words.now (decimal costed.0) (spaced (front ++ links)) c.add_numbered.ensures (added_words front links told (IsAdded-next c.add.ensures pairs))
