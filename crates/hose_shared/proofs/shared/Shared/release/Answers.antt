use Rattle.std.proofs.Common.{◌∙◌, Some, ap, refl, subst, sym}
use Rattle.hose_graph.specs.steps.Naming.{NamesPlaces}
use Rattle.hose_graph.specs.Network.{Network}
use Rattle.hose_graph.specs.declared.command.Command.TheVariants.{Release}
use Rattle.hose_graph.specs.declared.entry.Entry.TheVariants as entry
use Rattle.hose_law.specs.Quotes.{none_held}
use Rattle.hose_shared.proofs.Entries.{release_turn, stays_along}
use Rattle.hose_shared.proofs.Passes.{along_of, more_same}
use Rattle.hose_shared.proofs.shared.Shared.release.Goals as goal

pub returns-in_default : goal.returns-in_default
returns-in_default g c = record {
  steps = λ held. stays_along held (more_same c.args.pass c.requires.of.places) refl (tt, refl, refl, refl);
  names = tt;
}

pub end_turn-pass-requires-clause-answers : goal.end_turn-pass-requires-clause-answers
end_turn-pass-requires-clause-answers g c =
    let same = ap (λ (k : _). k.store) (c.value_mut.ensures.value ∙ sym c.begin_turn-held.ensures.value) in
    let customer = c.args.caller.now.customer.now in
    let called = c.release_now-reply.ensures in
    let entered = ap Some (c.of-entry.ensures ∙ c.entry.ensures ∙ (λ i. entry.Release (c.in-Ok.ensures.named i) (c.in-Ok.ensures.numbered i))) in
    (customer, none_held, Release c.args.id, release_turn c.begin_turn-held.ensures.begins same called.answered _ customer none_held c.args.id entered (called.step customer c.args.id c.in-Ok.ensures))

pub returns : goal.returns
returns g c = record {
  steps = λ held.
      let same = ap (λ (k : _). k.store) (c.value_mut.ensures.value ∙ sym c.begin_turn-held.ensures.value) in
      let customer = c.args.caller.now.customer.now in
      let called = c.release_now-reply.ensures in
      let entered = ap Some (c.of-entry.ensures ∙ c.entry.ensures ∙ (λ i. entry.Release (c.in-Ok.ensures.named i) (c.in-Ok.ensures.numbered i))) in
      along_of _ customer held _ _ _ _ _ c.begin_turn-held.ensures.more
      (c.end_turn-pass.ensures customer held (Release c.args.id)
      (release_turn c.begin_turn-held.ensures.begins same called.answered _ customer held c.args.id entered (called.step customer c.args.id c.in-Ok.ensures)));
  names = subst (λ (n : Network). NamesPlaces n c.release_now-reply.result) (ap (λ (k : _). k.store.ledger.network) (c.value_mut.ensures.value ∙ sym c.begin_turn-held.ensures.value) ∙ c.begin_turn-held.ensures.network) c.release_now-reply.ensures.answered.names;
}
