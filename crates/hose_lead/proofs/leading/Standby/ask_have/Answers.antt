use Rattle.std.proofs.Common.{subst, sym, false, List, ℕ}
use Rattle.hose_lead.specs.steps.Standby.{HandsOut, IsOpen, StandbyState}
use Rattle.hose_lead.proofs.Arriving.{hands_more}
use Rattle.hose_lead.proofs.Filling.{hands_asked, hands_have, with_unsent}
use Rattle.hose_lead.specs.declared.stage.Stage.TheVariants.{Following}
use Rattle.hose_lead.proofs.leading.Standby.ask_have.Goals as goal

pub returns-clause-hands : goal.returns-clause-hands
returns-clause-hands g c =
    let is_of = g.H.History.is_of c.args._history.now in
    let old = c.args.self.now in
    let mid = c.add.new.self in
    let stage = Following c.args.start c.args.upto in
    let first = subst (λ (s : StandbyState). HandsOut is_of old s) (sym c.in_ok-add.ensures.ok)
    (subst (λ (bytes : List ℕ). HandsOut is_of old (with_unsent old bytes stage)) (sym c.probe_packet.ensures) (hands_have is_of old c.args.start c.args.upto c.requires)) in
    let opens = subst (λ (s : StandbyState). IsOpen s.stage) (sym c.in_ok-add.ensures.ok) tt in
    hands_more is_of old mid c.has_asked.new.self first (subst (λ (s : StandbyState). HandsOut is_of mid s) (sym c.has_asked.ensures) (hands_asked is_of mid false opens))
