use Rattle.hose_host.proofs.Keepings.{link_closed}
use Rattle.hose_host.proofs.linking.close.Goals as goal

pub returns-clause-keeps : goal.returns-clause-keeps
returns-clause-keeps g c = link_closed g.N.Connections g.A.HostAnswers c.args.places.now.opened c.args.network.now c.close_link.new.self c.args.answers.now c.close_link.ensures
