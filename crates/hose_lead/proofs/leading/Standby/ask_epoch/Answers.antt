use Rattle.std.proofs.Common.{subst, sym, List, ℕ}
use Rattle.hose_lead.specs.steps.Standby.{HandsOut}
use Rattle.hose_lead.proofs.Filling.{hands_by, hands_epoch, with_unsent}
use Rattle.hose_lead.specs.declared.stage.Stage.TheVariants.{AskedEpoch}
use Rattle.hose_lead.proofs.leading.Standby.ask_epoch.Goals as goal

pub returns-clause-hands : goal.returns-clause-hands
returns-clause-hands g c =
    let is_of = g.H.History.is_of c.args._history.now in
    let old = c.args.self.now in
    let next = with_unsent old c.probe_packet.result AskedEpoch in
    hands_by is_of old next c.add.new.self c.add.result c.add.ensures.ok c.add.ensures.err
    (subst (λ (bytes : List ℕ). HandsOut is_of old (with_unsent old bytes AskedEpoch)) (sym c.probe_packet.ensures) (hands_epoch is_of old c.requires))
