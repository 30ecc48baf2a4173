use Rattle.std.proofs.Common.{◌≡◌, ◌∙◌, ap, subst, sym}
use Rattle.hose_law.specs.Book.{Book}
use Rattle.hose_law.proofs.Epochs.{epoch_of}
use Rattle.hose_book.specs.Ledger.{Ledger}
use Rattle.hose_turn.specs.steps.Held.{holder, tries_of, value_of}
use Rattle.hose_turn.specs.Known.{Known}
use Rattle.hose_shared.specs.steps.Keeping.{StandsShared}
use Rattle.hose_shared.specs.steps.Turns.{faults_in}
use Rattle.hose_shared.proofs.Passes.{locked_more}
use Rattle.hose_shared.proofs.shared.Shared.begin_turn.Goals as goal

pub returns-clause-more : goal.returns-clause-more
returns-clause-more g c = locked_more c.args.pass (holder c.lock-held.result) c.lock-held.ensures.kept c.lock-held.ensures.seen c.lock-held.ensures.places

pub returns-clause-network : goal.returns-clause-network
returns-clause-network g c =
    let store = ap (λ (k : _). k.store.ledger.network) (c.of-was.ensures ∙ c.value-2.ensures) in
    store ∙ c.lock-held.ensures.stands.network ∙ ap (λ (k : Known). k.origin.network) c.lock-held.ensures.kept ∙ c.requires.network

pub returns-clause-begins : goal.returns-clause-begins
returns-clause-begins g c =
    let known = holder c.lock-held.result in
    let same : c.of-was.result.value ≡ value_of c.lock-held.result = c.of-was.ensures ∙ c.value-2.ensures in
    let stands = subst (λ (k : _). StandsShared g.D.Disk g.B.Begun.begins known.origin known.seen (tries_of c.lock-held.result) k.store) (sym same) c.lock-held.ensures.stands in
    let here = c.epoch-epoch.ensures.value ∙ ap (λ (l : Ledger). l.book.epoch) (c.book.ensures ∙ ap (λ (k : _). k.store.ledger) c.value.ensures) in
    let epoch = here ∙ ap (λ (b : Book). b.epoch) c.lock-held.ensures.stands.book ∙ epoch_of known.seen in
    record { stands = stands; epoch = epoch; floor = c.lock-held.ensures.floor ∙ ap (λ (k : _). faults_in g.D.Disk k.store) (sym same) }
