use Rattle.hose_core.proofs.SteppedOn.{reads_answered}
use Rattle.hose_core.proofs.stepping.Core.vpns.Goals as goal

pub returns : goal.returns
returns g c = reads_answered c.args.customer.now _ (λ changes. changes) c.self.view_is c.vpns_now.ensures.step c.vpns_now.ensures.met c.vpns_now.ensures.names
