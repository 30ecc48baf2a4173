use Rattle.std.proofs.Common.{subst, sym, ap, arith}
use Rattle.hose_follow.specs.Answers.{offered_text}
use Rattle.hose_lead.specs.steps.Standby.{IfEnded, RisesTo, StandbyState}
use Rattle.hose_lead.specs.steps.Taking.{Takes}
use Rattle.hose_lead.proofs.Arriving.{rises_same}
use Rattle.hose_lead.proofs.Taking.{takes_have}
use Rattle.hose_lead.proofs.leading.Standby.take_have.Goals as goal

pub returns-in_default : goal.returns-in_default
returns-in_default c = record {
  takes = λ network list. c.end.ensures.takes network list (offered_text c.args.answer);
  unsent = ap (λ (s : StandbyState). s.unsent) c.end.ensures.is;
  rises = subst (λ (s : StandbyState). RisesTo c.args.self.now.heard s.heard) (sym c.end.ensures.is) (rises_same c.args.self.now.heard);
  why = λ network list. subst (λ (s : StandbyState). IfEnded network list s.stage) (sym c.end.ensures.is) (c.ending_of.ensures.ends network list);
}

pub returns-clause-takes : goal.returns-clause-takes
returns-clause-takes c = λ network list.
    subst (λ (s : StandbyState). Takes network list (offered_text c.args.answer) c.args.self.now s) (sym c.hear.ensures)
    (takes_have network list c.args.self.now c.args.answer c.in-Have.n c.args.start c.args.upto c.requires c.in-Have.is (omega arith))

pub returns-then-n-unwrap_or-clause-takes : goal.returns-then-n-unwrap_or-clause-takes
returns-then-n-unwrap_or-clause-takes c = λ network list. c.end-then-n-unwrap_or.ensures.takes network list (offered_text c.args.answer)

pub returns-then-n-upto-clause-takes : goal.returns-then-n-upto-clause-takes
returns-then-n-upto-clause-takes c = λ network list. c.end-then-n-upto.ensures.takes network list (offered_text c.args.answer)
