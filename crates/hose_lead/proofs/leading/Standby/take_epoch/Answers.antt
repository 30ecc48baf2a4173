use Rattle.std.proofs.Common.{subst, sym, ap, arith, ◌≤◌, length}
use Rattle.hose_follow.specs.declared.answers.Offered.{Offered}
use Rattle.hose_follow.specs.Answers.{offered_text}
use Rattle.hose_lead.specs.steps.Standby.{IfEnded, StandbyState}
use Rattle.hose_lead.specs.steps.Taking.{Takes}
use Rattle.hose_lead.proofs.Taking.{takes_epoch}
use Rattle.hose_lead.proofs.leading.Standby.take_epoch.Goals as goal

pub returns-in_default : goal.returns-in_default
returns-in_default g c = record {
  takes = λ network list is. c.end.ensures.takes network list (offered_text c.args.answer);
  unsent = ap (λ (s : StandbyState). s.unsent) c.end.ensures.is;
  heard = ap (λ (s : StandbyState). s.heard) c.end.ensures.is;
  why = λ network list is. subst (λ (s : StandbyState). IfEnded network list s.stage) (sym c.end.ensures.is) (c.ending_of.ensures.ends network list);
}

pub returns-clause-takes : goal.returns-clause-takes
returns-clause-takes g c = λ network list is.
    let within : c.in-Some.start ≤ length list = omega (arith, c.epoch.ensures.count network list is) in
    subst (λ (s : StandbyState). Takes network list (offered_text c.args.answer) c.args.self.now s) (sym c.go.ensures)
    (takes_epoch network list c.args.self.now c.args.answer c.in-Want.n c.in-Some.start c.requires c.in-Want.is (omega (arith, c.in-Some.ensures)) within)

pub returns-in_default-checked_sub-clause-takes : goal.returns-in_default-checked_sub-clause-takes
returns-in_default-checked_sub-clause-takes g c = λ network list is. c.end-in_default-checked_sub.ensures.takes network list (offered_text c.args.answer)

pub returns-then-start-epoch-clause-takes : goal.returns-then-start-epoch-clause-takes
returns-then-start-epoch-clause-takes g c = λ network list is.
    subst (λ (a : Offered). Takes network list (offered_text a) c.args.self.now c.end_ahead.new.self) (sym c.in-Want.is) (c.end_ahead.ensures.takes network list c.in-Want.n (omega (arith, c.in-Some.ensures)))
