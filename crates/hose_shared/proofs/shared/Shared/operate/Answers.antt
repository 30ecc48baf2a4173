use Rattle.std.proofs.Common.{◌∙◌, Some, ap, refl, subst, sym}
use Rattle.std.proofs.lemmas.Bool.{false≢true}
use Rattle.hose_graph.specs.steps.Naming.{NamesPlaces}
use Rattle.hose_graph.specs.Network.{Network}
use Rattle.hose_law.specs.Quotes.{none_held}
use Rattle.hose_law.specs.steps.Service.{service_entry}
use Rattle.hose_core.specs.steps.Service.{service_command}
use Rattle.hose_shared.proofs.Entries.{order_denied, order_starved, order_turn, stays_along}
use Rattle.hose_law.proofs.Epochs.{epoch_of}
use Rattle.hose_shared.proofs.Passes.{along_of, more_same}
use Rattle.hose_shared.proofs.shared.Shared.operate.Goals as goal

pub returns-then-not-is_operator : goal.returns-then-not-is_operator
returns-then-not-is_operator g c = record {
  steps = λ held.
      let new = c.now-at.result.1 in
      let at = c.now-at.ensures.epoch ∙ sym (epoch_of new.seen) in
      stays_along held c.now-at.ensures.more refl
      (order_denied c.args.self.now.network new.seen c.args.caller.now.customer.now held c.args.down c.args.link c.now-at.result.0 at (λ same. false≢true (sym c.if-not-is_operator.true ∙ c.is_operator-is_operator.ensures.1 same)));
  names = tt;
}

pub returns-in_default : goal.returns-in_default
returns-in_default g c = record {
  steps = λ held.
      let mine = c.is_operator-is_operator.ensures.0 c.if-not-is_operator.false in
      stays_along held (more_same c.args.pass c.requires.of.places) refl (order_starved c.args.self.now.network c.args.pass.seen c.args.caller.now.customer.now held c.args.down c.args.link mine);
  names = tt;
}

pub end_turn-pass-requires-clause-answers : goal.end_turn-pass-requires-clause-answers
end_turn-pass-requires-clause-answers g c =
    let same = ap (λ (k : _). k.store) (c.value_mut.ensures.value ∙ sym c.begin_turn-held.ensures.value) in
    let customer = c.args.caller.now.customer.now in
    let called = c.service_now-reply.ensures in
    let mine = c.is_operator-is_operator.ensures.0 c.if-not-is_operator.false in
    let entered = ap Some (c.of-entry.ensures ∙ c.entry.ensures ∙ (λ i. service_entry (c.in-Ok.ensures.kind i) (c.in-Ok.ensures.of i))) in (
      customer,
      none_held,
      service_command c.args.down c.args.link,
      order_turn c.begin_turn-held.ensures.begins same called.answered _ customer none_held c.args.down c.args.link entered mine (called.step c.args.down c.args.link c.in-Ok.ensures),
    )

pub returns : goal.returns
returns g c = record {
  steps = λ held.
      let same = ap (λ (k : _). k.store) (c.value_mut.ensures.value ∙ sym c.begin_turn-held.ensures.value) in
      let customer = c.args.caller.now.customer.now in
      let called = c.service_now-reply.ensures in
      let mine = c.is_operator-is_operator.ensures.0 c.if-not-is_operator.false in
      let entered = ap Some (c.of-entry.ensures ∙ c.entry.ensures ∙ (λ i. service_entry (c.in-Ok.ensures.kind i) (c.in-Ok.ensures.of i))) in
      along_of _ customer held _ _ _ _ _ c.begin_turn-held.ensures.more
      (c.end_turn-pass.ensures customer held (service_command c.args.down c.args.link)
      (order_turn c.begin_turn-held.ensures.begins same called.answered _ customer held c.args.down c.args.link entered mine (called.step c.args.down c.args.link c.in-Ok.ensures)));
  names = subst (λ (n : Network). NamesPlaces n c.service_now-reply.result) (ap (λ (k : _). k.store.ledger.network) (c.value_mut.ensures.value ∙ sym c.begin_turn-held.ensures.value) ∙ c.begin_turn-held.ensures.network) c.service_now-reply.ensures.answered.names;
}
