use Rattle.std.proofs.Common.{subst, sym}
use Rattle.hose_lead.specs.Leading.{IsValueAt}
use Rattle.hose_lead.specs.LedStore.{KeptPacket}
use Rattle.hose_lead.proofs.recent.RecentPacketsHistory.value.Goals as goal

pub returns : goal.returns
returns c = λ network list is.
    subst (λ (k : KeptPacket). IsValueAt network list c.args.count k.before) (sym c.kept.view_is) (c.in_ok-kept.ensures network list is).0
