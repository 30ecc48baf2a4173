use Rattle.std.proofs.Common.{◌≡◌, ◌-◌, false, length}
use Rattle.hose_lead.specs.steps.Standby.{HandsOut}
use Rattle.hose_lead.specs.declared.stage.Stage.TheVariants.{Following}
use Rattle.hose_lead.proofs.leading.Standby.add_entries.Given as goal

abbrev pub invariant-loop-upto : goal.invariant-loop-upto
invariant-loop-upto g l = record {
  hands : HandsOut (g.H.History.is_of l.history) l.initial.self l.self;
  stage : l.self.stage ≡ Following l.start l.upto;
  asks : l.self.asks ≡ false;
}

abbrev pub decreases-loop-upto : goal.decreases-loop-upto
decreases-loop-upto g l = 65536 - length l.self.unsent
