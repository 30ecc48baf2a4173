use Rattle.std.proofs.Common.{[], subst}
use Rattle.hose_io.specs.steps.Gather.{IsAdded}
use Rattle.hose_io.proofs.Gathering.{IsAdded-item}
use Rattle.hose_graph.specs.declared.entry.Vpn.{Vpn}
use Rattle.hose_audit.specs.Audit.{vpn_line}
use Rattle.hose_audit.proofs.lines.add_vpns.Goals as goal

pub loop-vpn-preserved : goal.loop-vpn-preserved
loop-vpn-preserved g c =
    let line = vpn_line c.args.top.now in
    let added = subst (λ (vpn : Vpn). IsAdded g.S.Sink c.loop-vpn.gather c.loop-vpn.sink c.add_vpn.new.gather c.add_vpn.new.sink (line vpn)) c.vpn-item.is c.add_vpn.ensures in
    IsAdded-item [] line c.args.live.now c.loop-vpn.vpn-index c.vpn-item.result c.loop-vpn-test.true c.loop-vpn.invariant added
