use Rattle.std.proofs.Common.{false, true, refl}
use Rattle.hose_law.proofs.Fronts.{prefix_same}
use Rattle.hose_store.proofs.OneMeaning.{recovered_once}
use Rattle.hose_pair.specs.steps.Standing.{about_of}
use Rattle.hose_pair.proofs.Behind.{answered_since}
use Rattle.hose_pair.proofs.Present.{decides_now}
use Rattle.hose_pair.proofs.Standby.{heard_there, told_there}
use Rattle.hose_pair.proofs.Together.{grows_on}
use Rattle.hose_pair.proofs.law_standby.Goals as goal

pub returns-clause-told : goal.returns-clause-told
returns-clause-told g c = λ rules standby may_be_alone required own start told end exchange state image was goes leader may.
    let about = about_of g.N.Connections.did (g.N.Connections.saw g.row.K.Denot) c.args.top.now rules standby may_be_alone required in
    let law = c.law_following.ensures in
    told_there about g.D.Disk end.host.history leader (recovered_once c.args.top.now) g.met.D.Disk.only_now law.stays law.images own start told end exchange state image was goes (prefix_same end.host.history) may

pub returns-clause-heard : goal.returns-clause-heard
returns-clause-heard g c = λ rules standby may_be_alone own start told end count image fresh before decides hold goes leader may.
    let about = about_of g.N.Connections.did (g.N.Connections.saw g.row.K.Denot) c.args.top.now rules standby may_be_alone false in
    let law = c.law_following.ensures in
    heard_there about g.D.Disk end.host.history leader (recovered_once c.args.top.now) g.met.D.Disk.only_now law.stays law.images own start told end count image refl fresh before decides hold goes (prefix_same end.host.history) may

pub returns-clause-present : goal.returns-clause-present
returns-clause-present g c = λ rules standby may_be_alone required own start now fresh goes serves.
    let about = about_of g.N.Connections.did (g.N.Connections.saw g.row.K.Denot) c.args.top.now rules standby may_be_alone required in
    decides_now about g.D.Disk own start fresh now goes serves

pub returns-clause-behind : goal.returns-clause-behind
returns-clause-behind g c = λ rules standby may_be_alone own start told exchange state was leader.
    let about = about_of g.N.Connections.did (g.N.Connections.saw g.row.K.Denot) c.args.top.now rules standby may_be_alone true in
    answered_since about g.D.Disk told.host.history leader refl start own was.fresh told exchange state was (prefix_same told.host.history)

pub returns-clause-grows : goal.returns-clause-grows
returns-clause-grows g c = λ rules standby may_be_alone required old new goes.
    let about = about_of g.N.Connections.did (g.N.Connections.saw g.row.K.Denot) c.args.top.now rules standby may_be_alone required in
    grows_on about g.D.Disk old new goes
