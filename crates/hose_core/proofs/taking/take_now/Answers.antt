use Rattle.std.proofs.Common.{◌∙◌, ap, inl, inr, refl, sym, ℕ}
use Rattle.std.proofs.lemmas.Bool.{false≢true}
use Rattle.hose_graph.specs.Network.{IsNetwork}
use Rattle.hose_book.specs.Ledger.{Ledger}
use Rattle.hose_graph.specs.declared.command.Reply.TheVariants.{Stale}
use Rattle.hose_core.proofs.PlannedEntries.{admits_cheapest}
use Rattle.hose_core.proofs.TakenQuotes.{claim_planned, stale_step, take_step}
use Rattle.hose_core.proofs.taking.take_now.Goals as goal

pub returns-then-not-still_holds-clause-step : goal.returns-then-not-still_holds-clause-step
returns-then-not-still_holds-clause-step g c = λ customer epoch number history held one claim at there is.
    let old = c.args.books.now in
    let quote = c.args.quote.now in
    let holds = c.still_holds.ensures.holds _ is.made in
    let here = c.epoch.ensures.value ∙ ap (λ (l : Ledger). l.book.epoch) c.book.ensures in
    stale_step g.K.Books old old epoch number history customer held one quote at there is (λ equal. false≢true (sym c.if-not-still_holds.true ∙ holds.1 equal)) c.epoch.result here refl

pub returns-then-not-still_holds-clause-takes : goal.returns-then-not-still_holds-clause-takes
returns-then-not-still_holds-clause-takes g c = λ customer earlier claim made.
    let quote = c.args.quote.now in
    let holds = c.still_holds.ensures.holds earlier made in
    let here = c.epoch.ensures.value ∙ ap (λ (l : Ledger). l.book.epoch) c.book.ensures in
    inl ((λ equal. false≢true (sym c.if-not-still_holds.true ∙ holds.1 equal)), ap (λ (epoch : ℕ). Stale quote.seen epoch) here, refl)

pub enter_planned-requires-clause-planned : goal.enter_planned-requires-clause-planned
enter_planned-requires-clause-planned g c =
    let ledger = g.K.Books.ledger c.args.books.now in
    let quote = c.args.quote.now in
    let made = c.requires.made in
    let claim = c.requires.claim in
    let is : IsNetwork ledger.network = c.still_holds.ensures.network in
    let holds = c.still_holds.ensures.holds made.0 made.1 in
    (claim.0, quote.hose, claim_planned g.K.Books ledger is made.0 quote claim.0 c.args.claim claim.1 made.1 (holds.0 c.if-not-still_holds.false))

pub returns-clause-step : goal.returns-clause-step
returns-clause-step g c = λ customer epoch number history held one claim at there is.
    let old = c.args.books.now in
    let ledger = g.K.Books.ledger old in
    let quote = c.args.quote.now in
    let network : IsNetwork ledger.network = c.still_holds.ensures.network in
    let holds = c.still_holds.ensures.holds _ is.made in
    let equal = holds.0 c.if-not-still_holds.false in
    let planned = claim_planned g.K.Books ledger network _ quote customer c.args.claim claim is.made equal in
    take_step g.K.Books old c.enter_planned.new.books epoch number history customer held one quote at there is equal c.enter_planned.result (c.enter_planned.ensures.answers customer quote.hose planned)

pub returns-clause-takes : goal.returns-clause-takes
returns-clause-takes g c = λ customer earlier claim made.
    let ledger = g.K.Books.ledger c.args.books.now in
    let quote = c.args.quote.now in
    let network : IsNetwork ledger.network = c.still_holds.ensures.network in
    let holds = c.still_holds.ensures.holds earlier made in
    let equal = holds.0 c.if-not-still_holds.false in
    let planned = claim_planned g.K.Books ledger network earlier quote customer c.args.claim claim made equal in
    inr (equal, c.enter_planned.ensures.answers customer quote.hose planned)

pub returns-clause-cheapest : goal.returns-clause-cheapest
returns-clause-cheapest g c =
    let old = c.args.books.now in
    let ledger = g.K.Books.ledger old in
    let quote = c.args.quote.now in
    let made = c.requires.made in
    let claim = c.requires.claim in
    let is : IsNetwork ledger.network = c.still_holds.ensures.network in
    let holds = c.still_holds.ensures.holds made.0 made.1 in
    let planned = claim_planned g.K.Books ledger is made.0 quote claim.0 c.args.claim claim.1 made.1 (holds.0 c.if-not-still_holds.false) in
    admits_cheapest g.K.Books old c.enter_planned.new.books claim.0 quote.hose is c.enter_planned.result (c.enter_planned.ensures.answers claim.0 quote.hose planned)
