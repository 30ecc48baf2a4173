use Rattle.std.proofs.Common.{◌<◌, ◌∙◌, ap, arith, refl, subst, sym}
use Rattle.hose_graph.specs.declared.command.Reply.TheVariants.{Already, Spent}
use Rattle.hose_graph.specs.steps.Naming.{NamesPlaces}
use Rattle.hose_graph.specs.Limits.{most_epoch}
use Rattle.hose_law.specs.steps.ReplyKind.{kind_of}
use Rattle.hose_law.specs.Service.{is_out}
use Rattle.hose_book.specs.Ledger.{Ledger}
use Rattle.hose_book.proofs.Judging.{other_truth, same_truth}
use Rattle.hose_core.proofs.ServiceEntries.{already_answers, done_answers, done_kind, done_names, service_step, sound_at, spent_answers}
use Rattle.hose_core.proofs.service.enter_order.Goals as goal

pub returns-then-out-down-clause-step : goal.returns-then-out-down-clause-step
returns-then-out-down-clause-step g c = λ epoch history held at.
    let old = c.args.books.now in
    let here = c.epoch-at.ensures.value ∙ ap (λ (l : Ledger). l.book.epoch) c.book.ensures in
    let out = ap (λ (l : Ledger). is_out l.book.out c.args.link) (sym c.book-2.ensures) ∙ sym c.is_out-out.ensures in
    service_step g.K.Books old old c.args.down c.args.link c.args.entry c.requires.orders epoch history held (Already c.from.result c.epoch-at.result) at
    (already_answers g.K.Books old old c.args.down c.args.link c.args.entry c.requires.orders c.from.result c.epoch-at.result c.from.ensures here (c.requires.link, out ∙ same_truth _ _ c.if-out-down.true) refl)

pub returns-then-at-eq-MOST_EPOCH-clause-step : goal.returns-then-at-eq-MOST_EPOCH-clause-step
returns-then-at-eq-MOST_EPOCH-clause-step g c = λ epoch history held at.
    let old = c.args.books.now in
    let here = c.epoch-at.ensures.value ∙ ap (λ (l : Ledger). l.book.epoch) c.book.ensures in
    let out = ap (λ (l : Ledger). is_out l.book.out c.args.link) (sym c.book-2.ensures) ∙ sym c.is_out-out.ensures in
    service_step g.K.Books old old c.args.down c.args.link c.args.entry c.requires.orders epoch history held (Spent c.epoch-at.result) at
    (spent_answers g.K.Books old old c.args.down c.args.link c.args.entry c.requires.orders c.epoch-at.result here (c.requires.link, out ∙ other_truth _ _ c.if-out-down.false) c.if-at-eq-MOST_EPOCH.true refl)

pub returns-clause-step : goal.returns-clause-step
returns-clause-step g c = λ epoch history held at.
    let old = c.args.books.now in
    let here = c.epoch-at.ensures.value ∙ ap (λ (l : Ledger). l.book.epoch) c.book.ensures in
    let left : (g.K.Books.ledger old).book.epoch < most_epoch = omega (arith, c.if-at-eq-MOST_EPOCH.false, here, c.epoch-at.ensures.bound) in
    let out = ap (λ (l : Ledger). is_out l.book.out c.args.link) (sym c.book-2.ensures) ∙ sym c.is_out-out.ensures in
    service_step g.K.Books old c.enter.new.books c.args.down c.args.link c.args.entry c.requires.orders epoch history held c.enter.result at
    (done_answers g.K.Books old c.enter.new.books c.args.down c.args.link c.args.entry c.requires.orders c.epoch-at.result here left (c.requires.link, out ∙ other_truth _ _ c.if-out-down.false) c.done.result c.enter.result c.done.ensures c.enter.ensures.goes c.enter.ensures.told)

pub enter-requires-clause-sound : goal.enter-requires-clause-sound
enter-requires-clause-sound g c =
    let old = c.args.books.now in
    let here = c.epoch-at.ensures.value ∙ ap (λ (l : Ledger). l.book.epoch) c.book.ensures in
    let out = ap (λ (l : Ledger). is_out l.book.out c.args.link) (sym c.book-2.ensures) ∙ sym c.is_out-out.ensures in
    sound_at g.K.Books old old c.args.down c.args.link c.args.entry c.requires.orders c.epoch-at.result here (omega (arith, c.if-at-eq-MOST_EPOCH.false, here, c.epoch-at.ensures.bound)) (c.requires.link, out ∙ other_truth _ _ c.if-out-down.false)

pub enter-requires-clause-told : goal.enter-requires-clause-told
enter-requires-clause-told g c = ap kind_of c.done.ensures ∙ done_kind c.args.down c.args.link _

pub enter-requires-clause-names : goal.enter-requires-clause-names
enter-requires-clause-names g c = let network = (g.K.Books.ledger c.args.books.now).network in subst (NamesPlaces network) (sym c.done.ensures) (done_names network c.args.down c.args.link _ c.requires.link)
