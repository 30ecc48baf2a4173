use Rattle.std.proofs.Common.{◌<◌, ◌∙◌, ap, arith, refl, rules}
use Rattle.hose_book.specs.Ledger.{Ledger}
use Rattle.hose_law.specs.Book.{HasVpn}
use Rattle.hose_graph.specs.Limits.{most_epoch}
use Rattle.hose_core.proofs.ReleasedEntries.{release_step, released_answers}
use Rattle.hose_core.proofs.releasing.enter_release.Goals as goal

pub returns-clause-step : goal.returns-clause-step
returns-clause-step g c = λ epoch history held at.
    let old = c.args.books.now in
    let book = (g.K.Books.ledger old).book in
    let here = c.epoch-at.ensures.value ∙ ap (λ (l : Ledger). l.book.epoch) c.book.ensures in
    let left : book.epoch < most_epoch = omega (arith, c.if-at-eq-MOST_EPOCH.false, here, c.epoch-at.ensures.bound) in
    let has : HasVpn book c.args.customer.now c.args.id = search rules in
    release_step g.K.Books old c.enter.new.books c.args.customer.now c.args.id c.args.entry c.requires.releases epoch history held _ at
    (released_answers g.K.Books old c.enter.new.books c.args.customer.now c.args.id c.args.entry c.requires.releases c.args.id c.epoch-at.result refl here left has c.enter.result c.enter.ensures.goes c.enter.ensures.told)
