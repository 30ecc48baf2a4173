use Rattle.std.proofs.Common.{◌∙◌, ap, subst, sym}
use Rattle.hose_graph.specs.steps.Naming.{NamesPlaces}
use Rattle.hose_graph.specs.Network.{Network}
use Rattle.hose_law.specs.Quotes.{none_held}
use Rattle.hose_shared.proofs.Passes.{along_of}
use Rattle.hose_shared.proofs.Turned.{reads_turn}
use Rattle.hose_shared.proofs.shared.Shared.vpns.Goals as goal

pub end_turn-pass-requires-clause-answers : goal.end_turn-pass-requires-clause-answers
end_turn-pass-requires-clause-answers g c =
    let now = ap (λ (k : _). k.store) (sym c.begin_turn-held.ensures.value) in
    let same = ap (λ (k : _). k.store) (c.value.ensures ∙ sym c.begin_turn-held.ensures.value) in
    let customer = c.args.caller.now.customer.now in
    let told = c.vpns_now-reply.ensures in
    (customer, none_held, _, reads_turn c.begin_turn-held.ensures.begins same now customer none_held _ told.step told.met)

pub returns : goal.returns
returns g c = record {
  steps = λ held.
      let now = ap (λ (k : _). k.store) (sym c.begin_turn-held.ensures.value) in
      let same = ap (λ (k : _). k.store) (c.value.ensures ∙ sym c.begin_turn-held.ensures.value) in
      let customer = c.args.caller.now.customer.now in
      let told = c.vpns_now-reply.ensures in
      along_of _ customer held _ _ _ _ _ c.begin_turn-held.ensures.more
      (c.end_turn-pass.ensures customer held _ (reads_turn c.begin_turn-held.ensures.begins same now customer held _ told.step told.met));
  names = subst (λ (n : Network). NamesPlaces n c.vpns_now-reply.result) (ap (λ (k : _). k.store.ledger.network) (c.value.ensures ∙ sym c.begin_turn-held.ensures.value) ∙ c.begin_turn-held.ensures.network) c.vpns_now-reply.ensures.names;
}
