use Rattle.std.proofs.Common.{◌∙◌, ap, [], subst, sym}
use Rattle.hose_graph.specs.steps.Naming.{NamesPlaces}
use Rattle.hose_graph.specs.Network.{Network}
use Rattle.hose_graph.specs.declared.command.Command.TheVariants.{Link}
use Rattle.hose_law.specs.Quotes.{none_held}
use Rattle.hose_shared.proofs.Passes.{along_of}
use Rattle.hose_shared.proofs.Turned.{reads_turn}
use Rattle.hose_shared.proofs.shared.Shared.link.Goals as goal

pub end_turn-pass-requires-clause-answers : goal.end_turn-pass-requires-clause-answers
end_turn-pass-requires-clause-answers g c =
    let now = ap (λ (k : _). k.store) (sym c.begin_turn-held.ensures.value) in
    let same = ap (λ (k : _). k.store) (c.value.ensures ∙ sym c.begin_turn-held.ensures.value) in
    let told = c.link_now-reply.ensures in
    ([], none_held, Link c.args.link, reads_turn c.begin_turn-held.ensures.begins same now [] none_held (Link c.args.link) (told.step []) told.met)

pub returns : goal.returns
returns g c = λ customer. record {
  steps = λ held.
      let now = ap (λ (k : _). k.store) (sym c.begin_turn-held.ensures.value) in
      let same = ap (λ (k : _). k.store) (c.value.ensures ∙ sym c.begin_turn-held.ensures.value) in
      let told = c.link_now-reply.ensures in
      along_of _ customer held _ _ _ _ _ c.begin_turn-held.ensures.more
      (c.end_turn-pass.ensures customer held (Link c.args.link) (reads_turn c.begin_turn-held.ensures.begins same now customer held (Link c.args.link) (told.step customer) told.met));
  names = subst (λ (n : Network). NamesPlaces n c.link_now-reply.result) (ap (λ (k : _). k.store.ledger.network) (c.value.ensures ∙ sym c.begin_turn-held.ensures.value) ∙ c.begin_turn-held.ensures.network) c.link_now-reply.ensures.names;
}
