use Rattle.hose_store.proofs.OneMeaning.{recovered_once}
use Rattle.hose_follow.proofs.Follows.{begun, follows, left_image, never_differs, never_unsound, own_decided, own_sound, stays_decided}
use Rattle.hose_follow.proofs.Leaders.{history_leads}
use Rattle.hose_follow.proofs.laws.law_following.Goals as goal

pub returns-clause-leads : goal.returns-clause-leads
returns-clause-leads g c = λ list image stands. history_leads c.args.top.now list image stands

pub returns-clause-begins : goal.returns-clause-begins
returns-clause-begins g c = λ state beginning. begun g.D.Disk c.args.top.now state beginning

pub returns-clause-stays : goal.returns-clause-stays
returns-clause-stays g c = λ old new events following lead.
    follows g.D.Disk c.args.top.now (recovered_once c.args.top.now) g.met.D.Disk.only_now old new events following lead

pub returns-clause-sound : goal.returns-clause-sound
returns-clause-sound g c = λ state following. own_sound g.D.Disk c.args.top.now state following

pub returns-clause-decided : goal.returns-clause-decided
returns-clause-decided g c = λ state since following decided. own_decided g.D.Disk c.args.top.now state since following decided

pub returns-clause-stays_decided : goal.returns-clause-stays_decided
returns-clause-stays_decided g c = λ old new since events decided lead are. stays_decided g.D.Disk c.args.top.now old new since events decided lead are

pub returns-clause-images : goal.returns-clause-images
returns-clause-images g c = λ state image following left.
    left_image g.D.Disk c.args.top.now (recovered_once c.args.top.now) g.met.D.Disk.only_now state image following left

pub returns-clause-never_differs : goal.returns-clause-never_differs
returns-clause-never_differs g c = λ state packet at own given left following there. never_differs g.D.Disk c.args.top.now state packet at own given left following there

pub returns-clause-never_unsound : goal.returns-clause-never_unsound
returns-clause-never_unsound g c = λ state packet epoch left following there. never_unsound g.D.Disk c.args.top.now state packet epoch left following there
