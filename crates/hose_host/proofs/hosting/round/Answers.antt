use Rattle.hose_host.specs.steps.Keeping.{host_of}
use Rattle.hose_host.proofs.hosting.round.Goals as goal

pub returns-clause-keeps : goal.returns-clause-keeps
returns-clause-keeps g c = c.end.ensures.keeps (host_of c.args.network.now c.args.answers.now c.args.places.now) c.in-Some.ensures.keeps
