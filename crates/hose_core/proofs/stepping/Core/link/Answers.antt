use Rattle.hose_core.proofs.SteppedOn.{reads_answered}
use Rattle.hose_core.proofs.stepping.Core.link.Goals as goal

pub returns : goal.returns
returns g c = λ customer. reads_answered customer _ (λ changes. changes) c.self.view_is (c.link_now.ensures.step customer) c.link_now.ensures.met c.link_now.ensures.names
