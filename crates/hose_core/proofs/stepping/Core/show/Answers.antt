use Rattle.hose_core.proofs.SteppedOn.{reads_answered}
use Rattle.hose_core.proofs.stepping.Core.show.Goals as goal

pub returns : goal.returns
returns g c = reads_answered c.args.customer.now _ (λ changes. changes) c.self.view_is c.show_now.ensures.step c.show_now.ensures.met c.show_now.ensures.names
