use Rattle.std.proofs.Common.{subst, sym}
use Rattle.hose_lead.specs.steps.Standby.{HandsOut, StandbyState}
use Rattle.hose_lead.proofs.Filling.{hands_entry}
use Rattle.hose_lead.proofs.leading.Standby.add_behind.Goals as goal

pub returns-clause-hands : goal.returns-clause-hands
returns-clause-hands g c =
    let is_of = g.H.History.is_of c.args.history.now in
    subst (λ (s : StandbyState). HandsOut is_of c.args.self.now s) (sym c.in_ok-add.ensures.ok)
    (hands_entry is_of c.args.self.now c.args.start c.args.upto c.in-Some.packet.now c.requires.stage (λ network list is. c.in-Some.ensures network list is))
