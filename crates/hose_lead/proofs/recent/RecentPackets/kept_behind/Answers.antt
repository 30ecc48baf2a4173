use Rattle.std.proofs.Common.{subst, sym, ap, arith, ◌+◌, ◌≡◌, length}
use Rattle.hose_lead.specs.LedStore.{RecentState}
use Rattle.hose_lead.specs.steps.History.{AreKept}
use Rattle.hose_lead.proofs.Recents.{kept_found}
use Rattle.hose_lead.proofs.recent.RecentPackets.kept_behind.Goals as goal

pub returns : goal.returns
returns c = λ network list is.
    let are = subst (λ (s : RecentState). AreKept network list is.first s.kept) (sym c.self.view_is) is.are in
    let kept = ap (λ (s : RecentState). length s.kept) c.self.view_is in
    let epoch = ap (λ (s : RecentState). s.epoch) c.self.view_is in
    let at : c.args.count ≡ is.first + c.in_ok-place.place = omega (arith, kept, epoch, is.reaches, is.epoch, c.in_ok-place.ensures, c.saturating_sub-first.ensures, c.len.ensures) in
    kept_found network list c.self.inside.kept.items is.first c.args.count c.in_ok-place.place c.get.result are at (λ some. omega (arith, c.get.ensures.variant.0 some)) c.get.ensures.lookup
