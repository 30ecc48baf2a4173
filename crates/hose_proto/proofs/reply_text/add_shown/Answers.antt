use Rattle.std.proofs.Common.{[], ◌∷◌, ◌++◌, codes, decimal, map}
use Rattle.hose_io.proofs.Gathering.{IsAdded-next}
use Rattle.hose_proto.specs.ReplyWords.{pair_word}
use Rattle.hose_proto.specs.Places.{end_word}
use Rattle.hose_proto.specs.ReplyText.{spaced}
use Rattle.hose_proto.proofs.Spacing.{added_after, added_list, added_words}
use Rattle.hose_proto.proofs.reply_text.add_shown.Goals as goal

pub returns-in_default : goal.returns-in_default
returns-in_default g c = λ id cost at hose amounts is. absurd (c.in_default.not-Shown id cost at hose amounts is)

pub returns : goal.returns
returns g c = λ _ _ _ _ _ is.
    let network = c.args.top.now in
    let shown = c.in-Shown in
    let front = codes "cost" ∷ decimal shown.cost ∷ codes "at" ∷ decimal shown.at ∷ [] in
    let ends = codes "ends" ∷ map (end_word network) shown.hose in
    let links = codes "links" ∷ map pair_word shown.amounts in
    let nodes = added_list (end_word network) shown.hose (rw c.ends.ensures.value at c.add_ends.ensures) in
    let pairs = added_list pair_word shown.amounts (rw c.pairs.ensures.value at c.add_pairs.ensures) in
    rw shown.is (added_after (codes "vpn ") (decimal shown.id) (spaced (front ++ (ends ++ links))) c.add_numbered.ensures
    (added_words front (ends ++ links) c.add_at.ensures (added_words ends links (IsAdded-next c.add.ensures nodes) (IsAdded-next c.add-2.ensures pairs))))
