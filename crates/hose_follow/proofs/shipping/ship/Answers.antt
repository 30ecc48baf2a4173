use Rattle.std.proofs.Common.{[], inl, refl, subst}
use Rattle.hose_graph.specs.Network.{Network}
use Rattle.hose_journal.specs.Opening.{AddsNoRecord}
use Rattle.hose_store.specs.steps.Before.{AreAllBefore}
use Rattle.hose_store.specs.Opening.{IsRefusedStore}
use Rattle.hose_store.specs.Recovery.{digest_of}
use Rattle.hose_store.specs.declared.fault.StoreFault.TheVariants.{Memory}
use Rattle.hose_follow.proofs.Shipped.{none_before, untouched}
use Rattle.hose_follow.proofs.shipping.ship.Goals as goal

pub returns-in_default-clause-ships : goal.returns-in_default-clause-ships
returns-in_default-clause-ships g c = (
  none_before g.S.Sink g.D.Disk c.args.sink.now c.args.disk c.args.top.now c.args.from Memory tt,
  refl,
  untouched g.S.Sink g.D.Disk c.args.disk (g.met.D.Disk.only_now c.args.disk),
  inl refl,
)

pub returns-in-Err-clause-ships : goal.returns-in-Err-clause-ships
returns-in-Err-clause-ships g c = (
  none_before g.S.Sink g.D.Disk c.args.sink.now c.args.disk c.args.top.now c.args.from c.in-Err.refused.0
      (subst (λ (network : Network). AreAllBefore network (g.D.Disk.content c.args.disk) [] c.in-Err.refused.0) c.in-Ok.ensures c.in-Err.ensures.until),
  refl,
  subst (λ (network : Network). IsRefusedStore g.D.Disk c.args.disk c.in-Err.refused.1 network c.in-Err.refused.0) c.in-Ok.ensures c.in-Err.ensures.refused.0,
  subst (λ (network : Network). AddsNoRecord (g.D.Disk.content c.args.disk) (g.D.Disk.content c.in-Err.refused.1) (digest_of network)) c.in-Ok.ensures c.in-Err.ensures.refused.2,
)
