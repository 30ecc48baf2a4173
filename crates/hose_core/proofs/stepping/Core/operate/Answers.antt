use Rattle.std.proofs.Common.{◌≢◌, ◌∙◌, ℕ, List, ap, refl, subst, sym}
use Rattle.std.proofs.lemmas.Bool.{false≢true}
use Rattle.hose_graph.specs.Limits.{operator}
use Rattle.hose_graph.specs.declared.command.Reply.TheVariants.{Denied, Memory}
use Rattle.hose_book.specs.Ledger.{Ledger}
use Rattle.hose_core.specs.steps.Holding.{State}
use Rattle.hose_core.specs.steps.Service.{service_command}
use Rattle.hose_core.specs.steps.Stepping.{StepsAtEach}
use Rattle.hose_core.proofs.Earlier.{kept_on, table_on}
use Rattle.hose_core.proofs.SteppedOn.{denied_on, keeps_answered, order_keeps, order_memory_on, stays_answered}
use Rattle.hose_core.proofs.stepping.Core.operate.Goals as goal

pub returns-then-not-is_operator : goal.returns-then-not-is_operator
returns-then-not-is_operator g c =
    let customer = c.args.customer.now in
    let at = c.epoch-at.ensures.value ∙ ap (λ (l : Ledger). l.book.epoch) (c.book-book.ensures ∙ ap (λ (s : State _). g.K.Books.ledger s.books) c.self.view_is) in
    let other : customer ≢ operator = λ same. false≢true (sym c.if-not-is_operator.true ∙ c.is_operator-is_operator.ensures.1 same) in
    stays_answered g.K.Books c.args.self.now customer (service_command c.args.down c.args.link) (Denied c.epoch-at.result)
    (λ epoch history holdings fits. denied_on g.K.Books c.args.self.now epoch history holdings customer fits c.args.down c.args.link c.epoch-at.result at other) refl tt

pub returns-in_default : goal.returns-in_default
returns-in_default g c =
    let customer = c.args.customer.now in
    let mine = c.is_operator-is_operator.ensures.0 c.if-not-is_operator.false in
    stays_answered g.K.Books c.args.self.now customer (service_command c.args.down c.args.link) Memory
    (λ epoch history holdings fits. order_memory_on g.K.Books c.args.self.now epoch history holdings customer fits c.args.down c.args.link mine) refl tt

pub invariant_of-self : goal.invariant_of-self
invariant_of-self g c =
    let ledger = g.K.Books.ledger c.self.inside.books in
    let goes = c.service_now.ensures.answered.ledger in
    (λ customer. kept_on ledger _ goes _ (c.self.invariant.0 customer), table_on ledger _ goes c.self.inside.table c.self.invariant.1)

pub returns : goal.returns
returns g c =
    let asked = service_command c.args.down c.args.link in
    let steps = subst (λ (name : List ℕ). StepsAtEach g.K.Books c.self.inside.books c.service_now.new.books name asked c.service_now.result) (sym (c.is_operator-is_operator.ensures.0 c.if-not-is_operator.false))
    (c.service_now.ensures.step c.args.down c.args.link c.in-Ok.ensures) in
    keeps_answered c.args.customer.now asked (order_keeps c.args.down c.args.link) c.self.view_is c.service_now.ensures.answered steps
