use Rattle.std.proofs.Common.{[], ◌∷◌, ◌++◌, Some, codes, decimal}
use Rattle.hose_proto.specs.ReplyWords.{service_words, words_of_link}
use Rattle.hose_proto.specs.ReplyText.{spaced}
use Rattle.hose_proto.proofs.Spacing.{added_after, added_last, added_link, added_words}
use Rattle.hose_proto.proofs.reply_text.add_state.Goals as goal

pub returns-in_default : goal.returns-in_default
returns-in_default g c = λ link load at out is. absurd (c.in_default.not-LinkState link load out at is)

pub returns : goal.returns
returns g c = λ _ _ _ _ is.
    let network = c.args.top.now in
    let state = c.in-LinkState in
    let about = words_of_link network (Some c.link.result) in
    let load = codes "load" ∷ decimal state.load ∷ [] in
    let service = service_words state.out state.at in
    let link = added_link network (Some c.link.result) c.add_link.ensures in
    let rest = added_words load service (added_last (codes " load ") (decimal state.load) c.add_numbered-2.ensures) c.add_service.ensures in
    rw (state.is, c.link.ensures.value) (added_after (codes "link ") (decimal state.link) (spaced (about ++ (load ++ service))) c.add_numbered.ensures (added_words about (load ++ service) link rest))
