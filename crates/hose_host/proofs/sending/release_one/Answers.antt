use Rattle.hose_host.proofs.Keepings.{keeps_released_by, releases_less}
use Rattle.hose_host.proofs.sending.release_one.Goals as goal

pub returns-clause-keeps : goal.returns-clause-keeps
returns-clause-keeps g c = λ kept. keeps_released_by g.N.Connections g.A.HostAnswers c.args.heard kept c.args._place c.args._network.now c.args._answers.now c.args.seat.now c.release.new.self c.release.result c.release.ensures

pub returns-clause-progress : goal.returns-clause-progress
returns-clause-progress g c = releases_less c.args.heard c.args.seat.now c.release.new.self c.release.result c.release.ensures
