use Rattle.std.proofs.Common.{◌++◌, refl}
use Rattle.hose_pair.specs.steps.Standing.{about_of}
use Rattle.hose_pair.proofs.Standby.{earlier}
use Rattle.hose_pair.proofs.law_earlier.Goals as goal

pub returns : goal.returns
returns g c = λ rules standby may_be_alone required since early later story.
    let about = about_of g.N.Connections.did (g.N.Connections.saw g.row.K.Denot) c.args.top.now rules standby may_be_alone required in
    let front = earlier about since story.0 (early ++ later) story.1 story.2 early later refl in
    (story.0, front.0, front.1)
