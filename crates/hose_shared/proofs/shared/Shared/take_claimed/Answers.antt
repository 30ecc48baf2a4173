use Rattle.std.proofs.Common.{◌∙◌, [], ◌∷◌, Some, take, ap, refl, subst, sym}
use Rattle.hose_graph.specs.steps.Naming.{NamesPlaces}
use Rattle.hose_graph.specs.Network.{Network}
use Rattle.hose_graph.specs.declared.command.Command.TheVariants.{Take}
use Rattle.hose_law.specs.History.{book_of}
use Rattle.hose_law.specs.steps.Tracks.{Tracks}
use Rattle.hose_core.specs.steps.Holding.{IsMadeAt}
use Rattle.hose_turn.specs.steps.Held.{holder}
use Rattle.hose_shared.proofs.Entries.{quote_in_turn, take_turn}
use Rattle.hose_shared.proofs.Recently.{grounds_since}
use Rattle.hose_shared.proofs.shared.Shared.take_claimed.Goals as goal

pub take_now-reply-requires-clause-made : goal.take_now-reply-requires-clause-made
take_now-reply-requires-clause-made g c =
    let same = ap (λ (k : _). k.store.ledger.network) (c.value_mut.ensures.value ∙ sym c.begin_turn-held.ensures.value) in
    let one = c.requires.quote in
    let book = book_of 0 (take one.0.place c.args.pass.seen) in
    (book, subst (λ (n : Network). IsMadeAt n book c.args.quote.now) (sym (same ∙ c.begin_turn-held.ensures.network)) one.1.made)

pub take_now-reply-requires-clause-since : goal.take_now-reply-requires-clause-since
take_now-reply-requires-clause-since g c =
    let same = ap (λ (k : _). k.store) (c.value_mut.ensures.value ∙ sym c.begin_turn-held.ensures.value) in
    let known = holder c.begin_turn-held.result.0 in
    let begun = c.begin_turn-held.ensures in
    let stood = begun.begins.stands in
    let tracks = subst (λ (s : _). Tracks 0 known.seen s.ledger.recent) (sym same) stood.tracks in
    let one = c.requires.quote in
    grounds_since c.value_mut.result.now.store.ledger known.seen one.0 c.args.quote.now (ap (λ (s : _). s.ledger.book) same ∙ stood.book) tracks (quote_in_turn same begun.network begun.more one.1)

pub end_turn-pass-requires-clause-answers : goal.end_turn-pass-requires-clause-answers
end_turn-pass-requires-clause-answers g c =
    let same = ap (λ (k : _). k.store) (c.value_mut.ensures.value ∙ sym c.begin_turn-held.ensures.value) in
    let begun = c.begin_turn-held.ensures in
    let customer = c.requires.claim.0 in
    let claim = c.requires.claim.1 in
    let one = c.requires.quote.0 in
    let held = Some one ∷ [] in
    let called = c.take_now-reply.ensures in
    let of = quote_in_turn same begun.network begun.more c.requires.quote.1 in
    let stepped = called.step customer 0 1 (holder c.begin_turn-held.result.0).seen held one claim (ap (λ (s : _). s.ledger.book) same ∙ begun.begins.stands.book) refl of in
    (customer, held, Take 1, take_turn begun.begins same called.answered _ customer held 1 one c.args.quote.now refl of.hose (ap Some (c.of-entry.ensures ∙ claim.entry)) called.told stepped)

pub returns-clause-steps : goal.returns-clause-steps
returns-clause-steps g c = λ customer held number one claim there of_quote.
    let same = ap (λ (k : _). k.store) (c.value_mut.ensures.value ∙ sym c.begin_turn-held.ensures.value) in
    let begun = c.begin_turn-held.ensures in
    let known = holder c.begin_turn-held.result.0 in
    let called = c.take_now-reply.ensures in
    let of = quote_in_turn same begun.network begun.more of_quote in
    let stepped = called.step customer 0 number known.seen held one claim (ap (λ (s : _). s.ledger.book) same ∙ begun.begins.stands.book) there of in
    let turn = take_turn begun.begins same called.answered _ customer held number one c.args.quote.now there of.hose (ap Some (c.of-entry.ensures ∙ claim.entry)) called.told stepped in
    record { known = known; more = begun.more; at = c.end_turn-pass.ensures customer held (Take number) turn }

pub returns-clause-names : goal.returns-clause-names
returns-clause-names g c =
    let same = ap (λ (k : _). k.store.ledger.network) (c.value_mut.ensures.value ∙ sym c.begin_turn-held.ensures.value) in
    subst (λ (n : Network). NamesPlaces n c.take_now-reply.result) (same ∙ c.begin_turn-held.ensures.network) c.take_now-reply.ensures.answered.names
