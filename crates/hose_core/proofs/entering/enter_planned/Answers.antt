use Rattle.std.proofs.Common.{◌+◌, ◌<◌, ◌≤◌, ◌∙◌, Some, length, ap, refl, arith}
use Rattle.hose_book.specs.Ledger.{Ledger}
use Rattle.hose_graph.specs.Limits.{most_live, most_epoch}
use Rattle.hose_core.proofs.PlannedEntries.{admitted_answers, full_answers, spent_answers, tells_entered}
use Rattle.hose_core.proofs.entering.enter_planned.Goals as goal

pub returns-then-at-eq-MOST_EPOCH-clause-answers : goal.returns-then-at-eq-MOST_EPOCH-clause-answers
returns-then-at-eq-MOST_EPOCH-clause-answers g c = λ customer hose planned.
    let here = c.epoch-at.ensures.value ∙ ap (λ (l : Ledger). l.book.epoch) c.book-book.ensures in
    spent_answers g.K.Books c.args.books.now c.args.books.now customer hose c.args.told c.args.entry planned c.epoch-at.result here c.if-at-eq-MOST_EPOCH.true refl

pub returns-then-live-ge-MOST_LIVE-clause-answers : goal.returns-then-live-ge-MOST_LIVE-clause-answers
returns-then-live-ge-MOST_LIVE-clause-answers g c = λ customer hose planned.
    let book = (g.K.Books.ledger c.args.books.now).book in
    let here = c.epoch-at.ensures.value ∙ ap (λ (l : Ledger). l.book.epoch) c.book-book.ensures in
    let epoch : book.epoch < most_epoch = omega (arith, c.if-at-eq-MOST_EPOCH.false, here, c.epoch-at.ensures.bound) in
    let live = ap length (c.live.ensures.value ∙ ap (λ (l : Ledger). l.book.live) c.book-book.ensures) in
    let full : most_live ≤ length book.live = omega (arith, c.if-live-ge-MOST_LIVE.true, live) in
    full_answers g.K.Books c.args.books.now c.args.books.now customer hose c.args.told c.args.entry planned c.epoch-at.result here epoch full refl

pub returns-clause-answers : goal.returns-clause-answers
returns-clause-answers g c = λ customer hose planned.
    let book = (g.K.Books.ledger c.args.books.now).book in
    let here = c.epoch-at.ensures.value ∙ ap (λ (l : Ledger). l.book.epoch) c.book-book.ensures in
    let epoch : book.epoch < most_epoch = omega (arith, c.if-at-eq-MOST_EPOCH.false, here, c.epoch-at.ensures.bound) in
    let live = ap length (c.live.ensures.value ∙ ap (λ (l : Ledger). l.book.live) c.book-book.ensures) in
    let room : length book.live < most_live = omega (arith, c.if-live-ge-MOST_LIVE.false, live) in
    admitted_answers g.K.Books c.args.books.now c.enter.new.books customer hose c.args.told c.args.entry planned epoch room c.epoch-at.result c.args.cost here c.requires.cost c.enter.result c.enter.ensures.goes c.enter.ensures.told

pub returns-clause-told : goal.returns-clause-told
returns-clause-told g c =
    let books = g.K.Books in
    tells_entered (c.epoch-at.result + 1) c.args.cost (c.epoch-at.result + 1) c.args.told (Some c.args.entry) c.enter.result (books.ledger c.args.books.now).book (books.ledger c.enter.new.books).book c.enter.ensures.told
