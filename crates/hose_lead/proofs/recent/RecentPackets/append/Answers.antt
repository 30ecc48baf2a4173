use Rattle.std.proofs.Common.{ap, arith, length}
use Rattle.hose_lead.specs.LedStore.{RecentState, KeptPacket}
use Rattle.hose_lead.specs.steps.History.{kept_size}
use Rattle.hose_lead.proofs.Recents.{size_more}
use Rattle.hose_lead.proofs.recent.RecentPackets.append.Goals as goal

pub invariant_of-self-2 : goal.invariant_of-self-2
invariant_of-self-2 c =
    let epoch = ap (λ (s : RecentState). s.epoch) c.self.view_is in
    let items = ap kept_size c.in-Ok.ensures.items in
    let sized = size_more c.self.inside.kept.items c.args.kept in
    let bytes = ap (λ (k : KeptPacket). length k.bytes) c.kept.view_is in
    (omega (arith, epoch, c.requires), omega (arith, items, sized, c.in-Some.ensures, c.self.invariant, bytes, ap length c.as_slice.ensures.value))
