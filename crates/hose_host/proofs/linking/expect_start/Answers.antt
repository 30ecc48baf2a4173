use Rattle.hose_host.proofs.Keepings.{link_quiet}
use Rattle.hose_host.proofs.linking.expect_start.Goals as goal

pub returns-clause-keeps : goal.returns-clause-keeps
returns-clause-keeps g c = λ opened. link_quiet g.N.Connections g.A.HostAnswers opened c.args.network.now c.expect.new.self c.args.answers.now c.expect.ensures
