use Rattle.hose_host.specs.steps.Seats.{InRound}
use Rattle.hose_host.proofs.Keepings.{parts_told_ahead}
use Rattle.hose_host.proofs.linking.told_ahead.Goals as goal

pub returns : goal.returns
returns g c = λ ended. parts_told_ahead g.N.Connections g.A.HostAnswers (InRound ended) c.ahead.result c.args._network.now c.args.answers.now c.args.places.now.seats.items c.args.places.now.heard c.args.places.now.opened c.if-not-places.false c.ahead.ensures
