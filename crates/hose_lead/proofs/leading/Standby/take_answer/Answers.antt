use Rattle.hose_follow.specs.Answers.{offered_text}
use Rattle.hose_lead.proofs.leading.Standby.take_answer.Goals as goal

pub returns-in-Following-clause-takes : goal.returns-in-Following-clause-takes
returns-in-Following-clause-takes g c = λ network list is. c.take_have.ensures.takes network list

pub returns-in-Following-clause-why : goal.returns-in-Following-clause-why
returns-in-Following-clause-why g c = λ network list is. c.take_have.ensures.why network list

pub returns-in-Unasked-clause-takes : goal.returns-in-Unasked-clause-takes
returns-in-Unasked-clause-takes g c = λ network list is. c.end.ensures.takes network list (offered_text c.args.answer)
