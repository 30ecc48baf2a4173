use Rattle.std.proofs.Common.{rules}
use Rattle.hose_session.proofs.Accounting.{joined_account}
use Rattle.hose_crew.proofs.GivingBack.{back_all}
use Rattle.hose_crew.proofs.hand.Hand.end.Goals as goal

pub returns-in-Some-clause-back : goal.returns-in-Some-clause-back
returns-in-Some-clause-back g c =
    let start = g.N.DoorStart.start.told in
    let works = c.requires.worked.works in
    back_all start _ _ c.args.gathered.now.tally.total _ c.args.gathered.now.pass c.requires.worked.place.pass _ c.requires.arrived c.requires.back works.accounts _ _ _ (search rules) (search rules)
    (λ connections others one other. joined_account connections others _ _ _ one other (search rules) (search rules) (search rules) (search rules) (search rules) (search rules) (search rules))
