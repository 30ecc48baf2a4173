use Rattle.std.proofs.Common.{subst, sym, ap, rules}
use Rattle.hose_follow.specs.Answers.{offered_text}
use Rattle.hose_lead.specs.steps.Standby.{IfEnded, StandbyState}
use Rattle.hose_lead.specs.steps.Taking.{Takes}
use Rattle.hose_lead.proofs.Taking.{takes_compared}
use Rattle.hose_lead.proofs.leading.Standby.compare.Goals as goal

pub returns-in_default : goal.returns-in_default
returns-in_default g c = record {
  takes = λ network list is. c.end.ensures.takes network list (offered_text c.args.answer);
  unsent = ap (λ (s : StandbyState). s.unsent) c.end.ensures.is;
  heard = ap (λ (s : StandbyState). s.heard) c.end.ensures.is;
  why = λ network list is. subst (λ (s : StandbyState). IfEnded network list s.stage) (sym c.end.ensures.is) (c.ending_of.ensures.ends network list);
}

pub returns-clause-takes : goal.returns-clause-takes
returns-clause-takes g c = λ network list is.
    subst (λ (s : StandbyState). Takes network list (offered_text c.args.answer) c.args.self.now s) (sym c.follow.ensures)
    (takes_compared network list c.args.self.now c.args.answer c.in-Differs.at c.args.start c.in-Differs.own c.in-Differs.given c.in-Some.ours c.requires c.in-Differs.is (search rules)
    (search rules) (search rules) (c.in-Some.ensures network list is))

pub returns-then-at-start-clause-takes : goal.returns-then-at-start-clause-takes
returns-then-at-start-clause-takes g c = λ network list is. c.end-then-at-start.ensures.takes network list (offered_text c.args.answer)

pub returns-then-not-is_same-clause-takes : goal.returns-then-not-is_same-clause-takes
returns-then-not-is_same-clause-takes g c = λ network list is. c.end-then-not-is_same.ensures.takes network list (offered_text c.args.answer)

pub returns-in_default-value-clause-takes : goal.returns-in_default-value-clause-takes
returns-in_default-value-clause-takes g c = λ network list is. c.end-in_default-value.ensures.takes network list (offered_text c.args.answer)

pub returns-then-not-is_same-2-clause-takes : goal.returns-then-not-is_same-2-clause-takes
returns-then-not-is_same-2-clause-takes g c = λ network list is. c.end-then-not-is_same-2.ensures.takes network list (offered_text c.args.answer)
