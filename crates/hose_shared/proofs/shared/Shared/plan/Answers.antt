use Rattle.std.proofs.Common.{◌≡◌, ◌∙◌, ap, inl, inr, rules, subst, sym}
use Rattle.hose_graph.specs.Network.{Network}
use Rattle.hose_law.specs.Book.{Book, loads_of}
use Rattle.hose_law.specs.History.{book_of}
use Rattle.hose_law.specs.steps.Plan.{AreNodes}
use Rattle.hose_law.specs.Room.{first_links}
use Rattle.hose_book.specs.Ledger.{Ledger}
use Rattle.hose_core.specs.steps.Bound.{HasNewest, TellsNewest}
use Rattle.hose_turn.specs.steps.Held.{holder}
use Rattle.hose_turn.specs.Known.{Known}
use Rattle.hose_shared.specs.steps.Sharing.{SharedBook}
use Rattle.hose_shared.proofs.Bound.{planned_at, planned_bound}
use Rattle.hose_shared.proofs.Passes.{locked_more, unlocked_more}
use Rattle.hose_shared.proofs.shared.Shared.plan.Goals as goal

pub returns-in-Some-clause-more : goal.returns-in-Some-clause-more
returns-in-Some-clause-more g c =
    let known = holder c.lock-held.result in
    unlocked_more c.args.pass known c.unlock-pass.result _ (locked_more c.args.pass known c.lock-held.ensures.kept c.lock-held.ensures.seen c.lock-held.ensures.places) c.unlock-pass.ensures.passed

pub returns-in-Some-clause-planned : goal.returns-in-Some-clause-planned
returns-in-Some-clause-planned g c =
    let customer = c.args.caller.now.customer.now in
    let known = c.args.asked.known in
    let is = ap (λ (k : _). k.store.ledger.book) c.value.ensures ∙ c.lock-held.ensures.stands.book ∙ ap (λ (k : Known). book_of 0 k.seen) (sym c.unlock-pass.ensures.passed) in
    let told : TellsNewest c.value.result.now.store.ledger.book customer known c.in-Some.reply = rw c.in-Some.is at c.newest_now-instead.ensures in
    let tells = subst (λ (b : Book). TellsNewest b customer known c.in-Some.reply) is told in
    inr (inl tells)

pub plan_beside-requires-clause-nodes : goal.plan_beside-requires-clause-nodes
plan_beside-requires-clause-nodes g c = subst (λ (n : Network). AreNodes n c.args.asked.hose) (sym (ap (λ (s : SharedBook). s.network) c.self.view_is)) c.requires.nodes

pub plan_beside-requires-clause-kept : goal.plan_beside-requires-clause-kept
plan_beside-requires-clause-kept g c =
    let kept = c.kept_rows.ensures c.self.inside.topology in
    search rules

pub returns-clause-more : goal.returns-clause-more
returns-clause-more g c =
    let known = holder c.lock-held.result in
    unlocked_more c.args.pass known c.unlock-pass.result _ (locked_more c.args.pass known c.lock-held.ensures.kept c.lock-held.ensures.seen c.lock-held.ensures.places) c.unlock-pass.ensures.passed

pub returns-clause-planned : goal.returns-clause-planned
returns-clause-planned g c =
    let customer = c.args.caller.now.customer.now in
    let known = c.args.asked.known in
    let network = c.args.self.now.network in
    let book = book_of 0 c.unlock-pass.result.seen in
    let ledger = c.book-book.ensures ∙ ap (λ (k : _). k.store.ledger) c.value.ensures in
    let is = ap (λ (k : _). k.store.ledger.book) c.value.ensures ∙ c.lock-held.ensures.stands.book ∙ ap (λ (k : Known). book_of 0 k.seen) (sym c.unlock-pass.ensures.passed) in
    let met : HasNewest c.value.result.now.store.ledger.book customer known = rw c.in_default-instead.is at c.newest_now-instead.ensures in
    let newest = subst (λ (b : Book). HasNewest b customer known) is met in
    let served : c.copy_from.new.self ≡ first_links network book = search rules in
    let loaded : c.deref.result.now ≡ loads_of network book = search rules in
    let epoch : c.epoch-epoch.result ≡ book.epoch = c.epoch-epoch.ensures.value ∙ ap (λ (l : Ledger). l.book.epoch) ledger ∙ ap (λ (b : Book). b.epoch) (c.lock-held.ensures.stands.book ∙ ap (λ (k : Known). book_of 0 k.seen) (sym c.unlock-pass.ensures.passed)) in
    let planned = planned_at _ network book _ _ _ c.args.asked.hose c.plan_beside.result (ap (λ (s : SharedBook). s.network) c.self.view_is) served loaded epoch c.plan_beside.ensures.planned in
    planned_bound network book customer known c.args.asked.hose c.plan_beside.result newest planned
