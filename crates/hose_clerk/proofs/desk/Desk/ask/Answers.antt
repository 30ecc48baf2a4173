use Rattle.hose_clerk.proofs.Answered.{asked_answered}
use Rattle.hose_clerk.proofs.desk.Desk.ask.Goals as goal

pub returns-clause-answers : goal.returns-clause-answers
returns-clause-answers g c =
    let step = c.step_for-reply.ensures in
    asked_answered g.K.Books c.args.self.now.figures.tally c.args.self.now.core.books c.step_for-reply.new.self.books c.args.client.name c.args.client.quotes c.step_for-reply.new.quotes c.args.command c.step_for-reply.result
    step.step step.network step.met step.names step.kept step.goes
